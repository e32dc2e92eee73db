use Rattle.std.proofs.Common.{IfSome, rules}
use Rattle.corr_top.specs.declared.words.Command.TheVariants.{Plain}
use Rattle.corr_top.specs.Commands.{meaning_of, plain_of}
use Rattle.corr_top.specs.Ends.{Ends}
use Rattle.corr_top.proofs.Completing.{complete_if}
use Rattle.corr_top.proofs.Ending.{ends_line}
use Rattle.corr_top.proofs.promise.Promised.{promised_if}
use Rattle.corr_top.proofs.command.plain.Goals as goal

pub returns-in-Some-Plain-clause-complete : goal.returns-in-Some-Plain-clause-complete
returns-in-Some-Plain-clause-complete g c =
    let ends : IfSome (plain_of c.args.words.now) (λ command. Ends g.S.Source g.D.Disk (meaning_of (Plain command)) c.args.room c.perform.result.room g.K.Sink c.perform.result.status) = search rules in
    complete_if g.S.Source g.D.Disk g.K.Sink Plain (plain_of c.args.words.now) c.args.room c.perform.result.room c.perform.result.status ends

pub returns-in-Some-Plain-clause-promises : goal.returns-in-Some-Plain-clause-promises
returns-in-Some-Plain-clause-promises g c =
    let ends : IfSome (plain_of c.args.words.now) (λ command. Ends g.S.Source g.D.Disk (meaning_of (Plain command)) c.args.room c.perform.result.room g.K.Sink c.perform.result.status) = search rules in
    promised_if g.S.Source g.K.Sink g.D.Disk Plain (plain_of c.args.words.now) c.args.room c.perform.result.room c.perform.result.status g.met.D.Disk.only_now g.met.D.Disk.counts_now c.perform.ensures.honest ends

pub returns-in-Some-Plain-clause-line : goal.returns-in-Some-Plain-clause-line
returns-in-Some-Plain-clause-line g c =
    ends_line g.S.Source g.D.Disk (meaning_of (Plain c.in-Some-Plain.command)) c.args.room c.perform.result.room g.K.Sink c.perform.result.status c.perform.ensures.ends
