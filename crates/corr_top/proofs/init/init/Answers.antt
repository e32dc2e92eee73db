use Rattle.std.proofs.Common.{◌≤◌, ℕ, List, Result, Ok, Err, length, refl, subst, sym}
use Rattle.std.specs.Prelude.{MatchResult}
use Rattle.jrn_codec.proofs.laws.Records.{few_in_head}
use Rattle.jrn_file.specs.declared.fault.MakeFault.{MakeFault}
use Rattle.corr_top.specs.Commands.{meaning_of}
use Rattle.corr_top.specs.inner.Ends.{HasTexts}
use Rattle.corr_top.specs.Stops.{status_of_making}
use Rattle.corr_top.specs.declared.status.Status.{Status}
use Rattle.corr_top.specs.declared.words.Command.TheVariants.{Plain as PlainCommand}
use Rattle.corr_top.specs.declared.words.Plain.TheVariants.{Init}
use Rattle.corr_top.proofs.Initial.{accounts_stop, init_texts}
use Rattle.corr_top.proofs.init.init.Goals as goal

pub returns-in-Err-clause-texts : goal.returns-in-Err-clause-texts
returns-in-Err-clause-texts g c = accounts_stop g.S.Source g.D.Disk c.args.home c.args.room _ c.in-Err.status c.in-Err.ensures.stopped refl

pub make-disk-requires : goal.make-disk-requires
make-disk-requires g c =
    let fine = c.in-Ok.ensures.fine in
    subst (λ (h : List ℕ). length h ≤ 1048576) (sym fine.3) (few_in_head fine.0 fine.2)

pub returns-in-Ok-made-clause-texts : goal.returns-in-Ok-made-clause-texts
returns-in-Ok-made-clause-texts g c =
    let fine = c.in-Ok.ensures.fine in
    let room = record c.args.room { tables = c.prepare.new.tables; disk = c.make-disk.result.0 } in
    subst (λ (r : Result (Unit {0}) MakeFault). MatchResult r (λ _. HasTexts g.S.Source g.D.Disk (meaning_of (PlainCommand (Init c.args.home))) c.args.room room (Ok c.in-Ok.prepared.texts)) (λ fault. HasTexts g.S.Source g.D.Disk (meaning_of (PlainCommand (Init c.args.home))) c.args.room room (Err (status_of_making fault))))
    c.in-Ok-made.is
    (init_texts g.S.Source g.D.Disk c.args.home c.args.room room fine.0 c.in-Ok.prepared.head c.make-disk.result.1 c.in-Ok.prepared.texts fine.1 fine.2 fine.3 refl c.make-disk.ensures.made fine.4 fine.5)

pub returns-clause-texts : goal.returns-clause-texts
returns-clause-texts g c =
    let fine = c.in-Ok.ensures.fine in
    let room = record c.args.room { tables = c.prepare.new.tables; disk = c.make-disk.result.0 } in
    subst (λ (s : Status). HasTexts g.S.Source g.D.Disk (meaning_of (PlainCommand (Init c.args.home))) c.args.room room (Err s)) (sym c.from.ensures)
    (subst (λ (r : Result (Unit {0}) MakeFault). MatchResult r (λ _. HasTexts g.S.Source g.D.Disk (meaning_of (PlainCommand (Init c.args.home))) c.args.room room (Ok c.in-Ok.prepared.texts)) (λ fault. HasTexts g.S.Source g.D.Disk (meaning_of (PlainCommand (Init c.args.home))) c.args.room room (Err (status_of_making fault))))
    c.in-Err-made.is
    (init_texts g.S.Source g.D.Disk c.args.home c.args.room room fine.0 c.in-Ok.prepared.head c.make-disk.result.1 c.in-Ok.prepared.texts fine.1 fine.2 fine.3 refl c.make-disk.ensures.made fine.4 fine.5))
