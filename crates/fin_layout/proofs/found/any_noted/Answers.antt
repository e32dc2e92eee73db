use Rattle.std.proofs.Common.{◌<◌, ◌≤◌, ◌∙◌, sym, arith}
use Rattle.fin_layout.proofs.Noted.{any-between, none-between, none-more}
use Rattle.fin_layout.proofs.found.any_noted.Goals as goal

pub returns-then-taken-place : goal.returns-then-taken-place
returns-then-taken-place c = λ places notes.
    let k = c.loop-place.place in
    let high : k ≤ c.args.last = omega (arith, c.loop-place-test.true) in
    let below : k < 64 = omega (arith, high, c.requires) in
    sym (any-between c.args.first c.args.last k places c.loop-place.auto.place high (sym (notes.noted k below) ∙ c.if-taken-place.true))

pub loop-place-preserved : goal.loop-place-preserved
loop-place-preserved c = λ places notes.
    let k = c.loop-place.place in
    let below : k < 64 = omega (arith, c.loop-place-test.true, c.requires) in
    none-more c.args.first k places (c.loop-place.invariant places notes) (sym (notes.noted k below) ∙ c.if-taken-place.false)

pub returns : goal.returns
returns c = λ places notes. sym (none-between c.args.first c.args.last places (λ k low high. c.loop-place.invariant places notes k low (omega (arith, high, c.loop-place-test.false))))
