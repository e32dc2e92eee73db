use Rattle.std.proofs.Common.{sym, ◌∙◌}
use Rattle.jrn_book.proofs.ByTotals.{never_booked, sound_legs}
use Rattle.jrn_book.proofs.deciding.decide_held.Goals as goal

pub held_test-requires-clause-sound : goal.held_test-requires-clause-sound
held_test-requires-clause-sound g c = sound_legs c.args.a.now c.args.legs.now c.requires.fits

pub returns-in-Some-clause-agreed : goal.returns-in-Some-clause-agreed
returns-in-Some-clause-agreed g c = λ booked. absurd
    (never_booked c.args.a.now c.args.h.now.entries 1 c.args.legs.now c.in-Some.outcome (sym c.held_test.ensures.value ∙ c.in-Some.is) booked)
