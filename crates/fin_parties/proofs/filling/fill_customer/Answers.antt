use Rattle.std.proofs.Common.{sym}
use Rattle.fin_parties.specs.inner.Parts.{parts_in}
use Rattle.fin_parties.specs.declared.opening.Opening.TheVariants.{AccountLine}
use Rattle.fin_parties.proofs.OfX.{rest-of-parts}
use Rattle.fin_parties.proofs.filling.fill_customer.Goals as goal

pub is_name-requires : goal.is_name-requires
is_name-requires c = λ plain. rest-of-parts AccountLine c.args.lines.now (parts_in c.in-Some.parts) (sym c.in-Some.ensures) (c.requires plain)
