use Rattle.std.proofs.Common.{Result, subst}
use Rattle.corr_top.specs.Commands.{meaning_of}
use Rattle.corr_top.specs.inner.Ends.{HasTexts}
use Rattle.corr_top.specs.declared.status.Status.{Status}
use Rattle.corr_top.specs.declared.writing.Texts.{Texts}
use Rattle.corr_top.proofs.Ending.{ends_err, ends_ok}
use Rattle.corr_top.proofs.command.end.Goals as goal

pub returns-in-Ok-clause-ends : goal.returns-in-Ok-clause-ends
returns-in-Ok-clause-ends g c = λ command old has.
    ends_ok g.S.Source g.D.Disk g.K.Sink (meaning_of command) old c.args.room _ _ c.in-Ok.texts _ (subst (λ (r : Result Texts Status). HasTexts g.S.Source g.D.Disk (meaning_of command) old c.args.room r) c.in-Ok.is has) c.write_texts-status.ensures

pub returns-in-Err-clause-ends : goal.returns-in-Err-clause-ends
returns-in-Err-clause-ends g c = λ command old has.
    ends_err g.S.Source g.D.Disk g.K.Sink (meaning_of command) old c.args.room c.in-Err.status (subst (λ (r : Result Texts Status). HasTexts g.S.Source g.D.Disk (meaning_of command) old c.args.room r) c.in-Err.is has)
