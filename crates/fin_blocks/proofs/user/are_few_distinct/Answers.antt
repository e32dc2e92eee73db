use Rattle.std.proofs.Common.{map, sym, ap, ◌∙◌, ◌++◌, ◌∷◌, ◌+◌, ◌<◌, [], length, take, drop, arith}
use Rattle.std.proofs.lemmas.List.{drop_all, length-map, take_more}
use Rattle.fin_blocks.specs.User.{differ_from}
use Rattle.fin_blocks.proofs.Distinct.{at-place, differs-more, differs-twice, number-at, stands-before}
use Rattle.fin_blocks.proofs.user.are_few_distinct.Goals as goal

pub returns-then-has_number : goal.returns-then-has_number
returns-then-has_number c =
    let subs = c.args.user.now in
    let ns = map (λ s. s.0) subs in
    let at = c.loop-at.at in
    let n = c.index-user-at.result.0 in
    let here = number-at subs at c.index-user-at.result c.index-user-at.is c.loop-at-test.true in
    sym (c.loop-at.invariant ∙ ap (differ_from (take at ns)) (at-place ns at n here (omega (arith, length-map subs (λ s. s.0), c.loop-at-test.true)))
    ∙ differs-twice (take at ns) n (drop (at + 1) ns) (sym (stands-before n at subs) ∙ sym c.has_number.ensures ∙ c.if-has_number.true))

pub loop-at-preserved : goal.loop-at-preserved
loop-at-preserved c =
    let subs = c.args.user.now in
    let ns = map (λ s. s.0) subs in
    let at = c.loop-at.at in
    let n = c.index-user-at.result.0 in
    let here = number-at subs at c.index-user-at.result c.index-user-at.is c.loop-at-test.true in
    let lt : at < length ns = omega (arith, length-map subs (λ s. s.0), c.loop-at-test.true) in
    c.loop-at.invariant ∙ ap (differ_from (take at ns)) (at-place ns at n here lt)
    ∙ differs-more (take at ns) n (drop (at + 1) ns) (sym (stands-before n at subs) ∙ sym c.has_number.ensures ∙ c.if-has_number.false)
    ∙ ap (λ m. differ_from (take at ns ++ m ∷ []) (drop (at + 1) ns)) here
    ∙ ap (λ before. differ_from before (drop (at + 1) ns)) (sym (take_more ns at n lt))

pub returns : goal.returns
returns c = sym (c.loop-at.invariant ∙ ap (differ_from _) (drop_all c.loop-at.at (map (λ s. s.0) c.args.user.now) (omega (arith, length-map c.args.user.now (λ s. s.0), c.loop-at-test.false))))
