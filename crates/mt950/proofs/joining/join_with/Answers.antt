use Rattle.std.proofs.Common.{rules, sym, ◌∙◌}
use Rattle.std.proofs.lemmas.Int.{to_z-of_z}
use Rattle.std.proofs.lemmas.Result.{err_from_is_err_and}
use mir.Syntax.{w64}
use mir.Val.{SFits}
use Rattle.mt950.proofs.Joins.{carried-told, gap-told, joined-so, last-is, sum-told}
use Rattle.mt950.proofs.joining.join_with.Goals as goal

pub returns-in_err-check_gaps : goal.returns-in_err-check_gaps
returns-in_err-check_gaps c =
    let p = err_from_is_err_and c.from_residual.result c.from_residual.ensures.1 in
    let fails = gap-told c.args.first.now c.args.pages.now c.in_err-check_gaps.field-0.0 (sym c.check_gaps.ensures ∙ c.in_err-check_gaps.was) in
    rw (p.1, p.2) fails

pub returns-in_err-check_carried : goal.returns-in_err-check_carried
returns-in_err-check_carried c =
    let p = err_from_is_err_and c.from_residual-in_err-check_carried.result c.from_residual-in_err-check_carried.ensures.1 in
    let fails =
    carried-told c.args.first.now c.args.pages.now c.in_ok-check_gaps.field-0
    (sym c.check_gaps.ensures ∙ c.in_ok-check_gaps.was) c.in_err-check_carried.field-0.0 (sym c.check_carried.ensures ∙ c.in_err-check_carried.was) in
    rw (p.1, p.2) fails

pub check_sum-requires : goal.check_sum-requires
check_sum-requires c = rw (c.as_slice.ensures, c.in_ok-lines.ensures) c.requires.small

pub returns-in_err-check_sum : goal.returns-in_err-check_sum
returns-in_err-check_sum c =
    let p = err_from_is_err_and c.from_residual-in_err-check_sum.result c.from_residual-in_err-check_sum.ensures.1 in
    let last = last-is c.args.first.now c.args.pages.now c.index-pages-pages.result c.requires.some c.index-pages-pages.is in
    let fails =
    sum-told c.args.first.now c.args.pages.now c.in_ok-check_gaps.field-0
    (sym c.check_gaps.ensures ∙ c.in_ok-check_gaps.was) c.in_ok-check_carried.field-0
    (sym c.check_carried.ensures ∙ c.in_ok-check_carried.was) c.as_slice.result.now
    (c.as_slice.ensures ∙ c.in_ok-lines.ensures) c.index-pages-pages.result last c.in_err-check_sum.field-0.0
    (sym c.check_sum.ensures ∙ c.in_err-check_sum.was) in
    rw (p.1, p.2) fails

pub returns : goal.returns
returns c =
    let opening : SFits w64 c.args.first.now.opening.signed = search rules in
    let closing : SFits w64 c.index-pages-pages.result.closing.signed = search rules in
    let last = last-is c.args.first.now c.args.pages.now c.index-pages-pages.result c.requires.some c.index-pages-pages.is in
    let joined =
    joined-so c.args.first.now c.args.pages.now c.in_ok-check_gaps.field-0
    (sym c.check_gaps.ensures ∙ c.in_ok-check_gaps.was) c.in_ok-check_carried.field-0
    (sym c.check_carried.ensures ∙ c.in_ok-check_carried.was) c.as_slice.result.now
    (c.as_slice.ensures ∙ c.in_ok-lines.ensures) c.index-pages-pages.result last c.in_ok-check_sum.field-0
    (sym c.check_sum.ensures ∙ c.in_ok-check_sum.was) in
    rw (c.in_ok-copy.ensures, sym c.as_slice.ensures) (simp to_z-of_z joined)
