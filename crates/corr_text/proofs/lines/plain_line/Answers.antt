use Rattle.std.proofs.Common.{ap, ◌∙◌}
use Rattle.std.specs.List.{list_any}
use Rattle.corr_text.proofs.Plain.{is_other, same-cut, whole-cut, whole-plain, front-plain, feed-cut, return-cut}
use Rattle.corr_text.proofs.lines.plain_line.Goals as goal

pub returns-in_default-clause-cut : goal.returns-in_default-clause-cut
returns-in_default-clause-cut c =
    same-cut c.args.text.now c.cut_at.result.line.now c.cut_at.result.rest.now _ _ c.cut_at.ensures.line c.cut_at.ensures.rest
    (whole-cut c.args.text.now c.requires c.in_default.ensures)

pub returns-in_default-clause-plain : goal.returns-in_default-clause-plain
returns-in_default-clause-plain c = ap (list_any is_other) c.cut_at.ensures.line ∙ whole-plain c.args.text.now c.in_default.ensures

pub returns-then-text-at-eq10-clause-cut : goal.returns-then-text-at-eq10-clause-cut
returns-then-text-at-eq10-clause-cut c =
    let cut = c.cut_at-then-text-at-eq10 in
    same-cut c.args.text.now cut.result.line.now cut.result.rest.now _ _ cut.ensures.line cut.ensures.rest
    (feed-cut c.args.text.now c.in-Some.at c.in-Some.ensures c.if-text-at-eq10.true)

pub returns-then-text-at-eq10-clause-plain : goal.returns-then-text-at-eq10-clause-plain
returns-then-text-at-eq10-clause-plain c = ap (list_any is_other) c.cut_at-then-text-at-eq10.ensures.line ∙ front-plain c.args.text.now c.in-Some.at c.in-Some.ensures

pub returns-then-text-at-eq10-2-clause-cut : goal.returns-then-text-at-eq10-2-clause-cut
returns-then-text-at-eq10-2-clause-cut c =
    let cut = c.cut_at-then-text-at-eq10-2 in
    same-cut c.args.text.now cut.result.line.now cut.result.rest.now _ _ cut.ensures.line cut.ensures.rest
    (return-cut c.args.text.now c.in-Some.at c.in-Some.ensures c.if-text-at-eq13.true c.if-at-text.true c.if-text-at-eq10-2.true)

pub returns-then-text-at-eq10-2-clause-plain : goal.returns-then-text-at-eq10-2-clause-plain
returns-then-text-at-eq10-2-clause-plain c = ap (list_any is_other) c.cut_at-then-text-at-eq10-2.ensures.line ∙ front-plain c.args.text.now c.in-Some.at c.in-Some.ensures
