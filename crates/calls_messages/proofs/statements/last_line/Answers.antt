use Rattle.fin_contents.proofs.laws.Back.{some-weaker}
use Rattle.mt950.specs.Writing.{IsBalance}
use Rattle.mt950.proofs.laws.Pages.{readable-page}
use Rattle.calls_messages.proofs.statements.last_line.Goals as goal

pub fields_950-requires-clause-opening : goal.fields_950-requires-clause-opening
fields_950-requires-clause-opening c = (readable-page c.args.p.now c.requires).opening

pub fields_950-requires-clause-lines : goal.fields_950-requires-clause-lines
fields_950-requires-clause-lines c = (readable-page c.args.p.now c.requires).lines

pub fields_950-requires-clause-closing : goal.fields_950-requires-clause-closing
fields_950-requires-clause-closing c = (readable-page c.args.p.now c.requires).closing

pub fields_950-requires-clause-available : goal.fields_950-requires-clause-available
fields_950-requires-clause-available c =
    some-weaker _ (IsBalance c.args.p.now.decimals) c.args.p.now.available (readable-page c.args.p.now c.requires).available (λ b h. h.0)
