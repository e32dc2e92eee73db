use Rattle.std.proofs.Common.{arith, subst, sym}
use Rattle.std.proofs.lemmas.Int.{ints}
use Rattle.mt950.specs.Joining.{IsSmallLine}
use Rattle.mt950.proofs.Joins.{effect-within, effects-more}
use Rattle.mt950.proofs.joining.effects_of.Goals as goal

pub loop-line-preserved : goal.loop-line-preserved
loop-line-preserved c =
    let line = c.line-item.result in
    let more = effects-more c.args.lines.now c.loop-line.line-index line c.line-item.is c.loop-line-test.true in
    let small : IsSmallLine line = subst IsSmallLine (sym c.line-item.is) (c.requires c.loop-line.line-index line c.loop-line-test.true) in
    let within = effect-within line small in
    record { whole = omega (arith, ints); above = omega (arith, ints); below = omega (arith, ints) }
