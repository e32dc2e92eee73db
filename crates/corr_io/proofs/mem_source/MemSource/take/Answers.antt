use Rattle.std.proofs.Common.{drop, arith, ap, sym, ◌∙◌}
use Rattle.corr_io.proofs.Taken.{taken}
use Rattle.corr_io.proofs.mem_source.MemSource.take.Goals as goal

pub returns-clause-bytes : goal.returns-clause-bytes
returns-clause-bytes c =
    let at = c.self.inside.at in
    let n = c.min-n.result in
    let bs = c.self.inside.bytes in
    sym (ap (λ s. s.left) c.self.view_is) ∙ taken at n bs c.copy_from_slice.new.self (drop n c.args.buf.now) (grind (arith)) (grind (arith))
