use Rattle.jrn_book.proofs.ByTotals.{sound_legs}
use Rattle.jrn_book.proofs.deciding.decide_by_pairs.Goals as goal

pub pairs_test-requires-clause-sound : goal.pairs_test-requires-clause-sound
pairs_test-requires-clause-sound c = sound_legs c.args.a.now c.args.legs.now c.requires.fits
