use Rattle.std.proofs.Common.{arith}
use Rattle.jrn_codec.proofs.Entries.{is_found, is_only}
use Rattle.jrn_codec.proofs.entry.read_entry_1.Goals as goal

pub returns-clause-found : goal.returns-clause-found
returns-clause-found c = is_found c.args.b.now c.entry_of.result (λ i. omega (arith, c.type_inv.b i)) c.entry_of.ensures

pub returns-clause-only : goal.returns-clause-only
returns-clause-only c = is_only c.args.b.now c.entry_of.result c.entry_of.ensures
