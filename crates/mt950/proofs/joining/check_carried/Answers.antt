use Rattle.std.proofs.Common.{ap, rules, sym, ◌∙◌}
use Rattle.std.proofs.lemmas.Int.{to_z-of_z}
use mir.Syntax.{w64}
use mir.Val.{SFits, to_z}
use Rattle.corr_text.specs.First.{unless_fault}
use Rattle.mt950.proofs.Joins.{carried-end, carried-here, carried-more}
use Rattle.mt950.proofs.joining.check_carried.Goals as goal

pub returns-then-not-opens_at : goal.returns-then-not-opens_at
returns-then-not-opens_at c =
    let opening : SFits w64 c.index-pages-at.result.opening.signed = search rules in
    let told =
    sym
    (ap unless_fault
    (c.loop-at.invariant
    ∙ carried-here (to_z w64 c.loop-at.closing-bits) c.args.pages.now c.loop-at.at c.index-pages-at.result c.index-pages-at.is c.loop-at-test.true
    (sym c.opens_at.ensures ∙ c.if-not-opens_at.true))) in
    simp to_z-of_z told

pub loop-at-preserved : goal.loop-at-preserved
loop-at-preserved c =
    let closing : SFits w64 c.index-pages-at.result.closing.signed = search rules in
    let more =
    c.loop-at.invariant
    ∙ carried-more (to_z w64 c.loop-at.closing-bits) c.args.pages.now c.loop-at.at c.index-pages-at.result c.index-pages-at.is c.loop-at-test.true
    (sym c.opens_at.ensures ∙ c.if-not-opens_at.false) in
    simp to_z-of_z more

pub returns : goal.returns
returns c =
    sym (ap unless_fault (c.loop-at.invariant ∙ carried-end (to_z w64 c.loop-at.closing-bits) c.args.pages.now c.loop-at.at c.loop-at-test.false))
