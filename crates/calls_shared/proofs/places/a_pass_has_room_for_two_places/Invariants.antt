use Rattle.std.proofs.Common.{[]}
use Rattle.front_word.specs.inner.Blank.{blank_entry}
use Rattle.calls_shared.proofs.places.a_pass_has_room_for_two_places.Given as goal

abbrev pub ghost-new : goal.ghost-new
ghost-new g a = []

-- both entries are for the pass
abbrev pub ghost-publish : goal.ghost-publish
ghost-publish g a = record { by = 1; entry = blank_entry }
