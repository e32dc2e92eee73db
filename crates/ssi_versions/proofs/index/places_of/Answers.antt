use Rattle.std.proofs.Common.{◌∙◌}
use Rattle.ssi_versions.proofs.Places.{places-none, places-some}
use Rattle.ssi_versions.proofs.index.places_of.Goals as goal

pub returns-in-Some : goal.returns-in-Some
returns-in-Some c = c.as_slice.ensures.value ∙ places-some c.args.groups.now.entries c.args.key.now c.in-Some.places.now c.in-Some.ensures.value

pub returns-in-None : goal.returns-in-None
returns-in-None c = places-none c.args.groups.now.entries c.args.key.now c.in-None.ensures.value
