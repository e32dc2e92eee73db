use Rattle.std.proofs.Common.{sym, ◌∙◌}
use Rattle.desk_page.proofs.Standings.{within}
use Rattle.desk_page.proofs.standing.standing_for.Goals as goal

pub get-requires-clause-from_one : goal.get-requires-clause-from_one
get-requires-clause-from_one c = (within c.args.h.now.entries c.args.pay.now c.in-Some.place (sym c.in-Some.is ∙ c.requires.place)).0

pub get-requires-clause-there : goal.get-requires-clause-there
get-requires-clause-there c = (within c.args.h.now.entries c.args.pay.now c.in-Some.place (sym c.in-Some.is ∙ c.requires.place)).1

pub standing_at-requires-clause-from_one : goal.standing_at-requires-clause-from_one
standing_at-requires-clause-from_one c = (within c.args.h.now.entries c.args.pay.now c.in-Some.place (sym c.in-Some.is ∙ c.requires.place)).0

pub standing_at-requires-clause-there : goal.standing_at-requires-clause-there
standing_at-requires-clause-there c = (within c.args.h.now.entries c.args.pay.now c.in-Some.place (sym c.in-Some.is ∙ c.requires.place)).1
