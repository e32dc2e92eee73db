use Rattle.std.proofs.Common.{subst, sym}
use Rattle.corr_top.specs.declared.words.Command.TheVariants.{Plain as PlainCommand}
use Rattle.corr_top.specs.declared.words.Plain.{Plain as ThePlain}
use Rattle.corr_top.specs.Commands.{meaning_of}
use Rattle.corr_top.specs.inner.Ends.{HasTexts}
use Rattle.corr_top.proofs.Generating.{generated_texts}
use Rattle.corr_top.proofs.command.perform.Goals as goal

pub returns-in-Init-clause-ends : goal.returns-in-Init-clause-ends
returns-in-Init-clause-ends g c =
    c.end.ensures.ends (PlainCommand c.args.command) c.args.room
    (subst (λ (command : ThePlain). HasTexts g.S.Source g.D.Disk (meaning_of (PlainCommand command)) c.args.room c.init-room.result.0 c.init-room.result.1) (sym c.in-Init.is) c.init-room.ensures.texts)

pub returns-in-Query-clause-ends : goal.returns-in-Query-clause-ends
returns-in-Query-clause-ends g c =
    c.end-in-Query.ensures.ends (PlainCommand c.args.command) c.args.room
    (subst (λ (command : ThePlain). HasTexts g.S.Source g.D.Disk (meaning_of (PlainCommand command)) c.args.room c.query-room.result.0 c.query-room.result.1) (sym c.in-Query.is) c.query-room.ensures.texts)

pub returns-in-Reconcile-clause-ends : goal.returns-in-Reconcile-clause-ends
returns-in-Reconcile-clause-ends g c =
    c.end-in-Reconcile.ensures.ends (PlainCommand c.args.command) c.args.room
    (subst (λ (command : ThePlain). HasTexts g.S.Source g.D.Disk (meaning_of (PlainCommand command)) c.args.room c.reconcile-room.result.0 c.reconcile-room.result.1) (sym c.in-Reconcile.is) c.reconcile-room.ensures.texts)

pub returns-in-Check-clause-ends : goal.returns-in-Check-clause-ends
returns-in-Check-clause-ends g c =
    c.end-in-Check.ensures.ends (PlainCommand c.args.command) c.args.room
    (subst (λ (command : ThePlain). HasTexts g.S.Source g.D.Disk (meaning_of (PlainCommand command)) c.args.room c.check-room.result.0 c.check-room.result.1) (sym c.in-Check.is) c.check-room.ensures.texts)

pub returns-in-Generate-clause-ends : goal.returns-in-Generate-clause-ends
returns-in-Generate-clause-ends g c =
    let made = c.in-Generate in
    c.end-in-Generate.ensures.ends (PlainCommand c.args.command) c.args.room
    (subst (λ (command : ThePlain). HasTexts g.S.Source g.D.Disk (meaning_of (PlainCommand command)) c.args.room c.args.room c.generate.result) (sym made.is)
    (generated_texts g.S.Source g.D.Disk made.count made.seed c.args.room c.generate.result c.generate.ensures))

pub returns-in-Mend-clause-ends : goal.returns-in-Mend-clause-ends
returns-in-Mend-clause-ends g c =
    c.end-in-Mend.ensures.ends (PlainCommand c.args.command) c.args.room
    (subst (λ (command : ThePlain). HasTexts g.S.Source g.D.Disk (meaning_of (PlainCommand command)) c.args.room c.mend-room.result.0 c.mend-room.result.1) (sym c.in-Mend.is) c.mend-room.ensures.texts)

pub returns-in-Change-clause-ends : goal.returns-in-Change-clause-ends
returns-in-Change-clause-ends g c =
    c.end-in-Change.ensures.ends (PlainCommand c.args.command) c.args.room
    (subst (λ (command : ThePlain). HasTexts g.S.Source g.D.Disk (meaning_of (PlainCommand command)) c.args.room c.change-room.result.0 c.change-room.result.1) (sym c.in-Change.is) c.change-room.ensures.texts)

pub returns-in-Page-clause-ends : goal.returns-in-Page-clause-ends
returns-in-Page-clause-ends g c =
    c.end-in-Page.ensures.ends (PlainCommand c.args.command) c.args.room
    (subst (λ (command : ThePlain). HasTexts g.S.Source g.D.Disk (meaning_of (PlainCommand command)) c.args.room c.page-room.result.0 c.page-room.result.1) (sym c.in-Page.is) c.page-room.ensures.texts)

pub returns-in-Migrate-clause-ends : goal.returns-in-Migrate-clause-ends
returns-in-Migrate-clause-ends g c =
    c.end-in-Migrate.ensures.ends (PlainCommand c.args.command) c.args.room
    (subst (λ (command : ThePlain). HasTexts g.S.Source g.D.Disk (meaning_of (PlainCommand command)) c.args.room c.migrate-room.result.0 c.migrate-room.result.1) (sym c.in-Migrate.is) c.migrate-room.ensures.texts)

pub returns-in-Follow-clause-ends : goal.returns-in-Follow-clause-ends
returns-in-Follow-clause-ends g c =
    c.end-in-Follow.ensures.ends (PlainCommand c.args.command) c.args.room
    (subst (λ (command : ThePlain). HasTexts g.S.Source g.D.Disk (meaning_of (PlainCommand command)) c.args.room c.follow-room.result.0 c.follow-room.result.1) (sym c.in-Follow.is) c.follow-room.ensures.texts)
