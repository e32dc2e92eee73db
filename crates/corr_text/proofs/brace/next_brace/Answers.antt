use Rattle.corr_text.proofs.Braces.{joined}
use Rattle.corr_text.proofs.brace.next_brace.Goals as goal

pub returns-clause-first : goal.returns-clause-first
returns-clause-first c =
    let text = c.args.text.now in
    let far = c.after_groups-far.result in
    let near = c.after_groups.result in
    joined text c.args.from near c.next_by_one.result (joined text c.args.from far near c.after_groups-far.ensures.none c.after_groups.ensures.none) c.next_by_one.ensures.first
