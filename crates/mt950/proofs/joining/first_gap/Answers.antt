use Rattle.std.proofs.Common.{length, sym, ◌∙◌}
use Rattle.mt950.proofs.Joins.{gap-end, gap-here, gap-more}
use Rattle.mt950.proofs.joining.first_gap.Goals as goal

pub returns-then-not-follows : goal.returns-then-not-follows
returns-then-not-follows c =
    sym
    (c.loop-at.invariant
    ∙ gap-here c.args.first.now (length c.args.pages.now) c.args.pages.now c.loop-at.at c.index-pages-at.result c.index-pages-at.is c.loop-at-test.true
    (sym c.follows.ensures ∙ c.if-not-follows.true))

pub loop-at-preserved : goal.loop-at-preserved
loop-at-preserved c =
    c.loop-at.invariant
    ∙ gap-more c.args.first.now (length c.args.pages.now) c.args.pages.now c.loop-at.at c.index-pages-at.result c.index-pages-at.is c.loop-at-test.true
    (sym c.follows.ensures ∙ c.if-not-follows.false)

pub returns : goal.returns
returns c = sym (c.loop-at.invariant ∙ gap-end c.args.first.now (length c.args.pages.now) c.args.pages.now c.loop-at.at c.loop-at-test.false)
