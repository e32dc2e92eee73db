use Rattle.std.proofs.Common.{[], ◌∷◌}
use Rattle.calls_files.proofs.batches.add_batch.Goals as goal

pub append_all-requires-clause-frames : goal.append_all-requires-clause-frames
append_all-requires-clause-frames g c = (65 ∷ 66 ∷ [], [] ∷ (67 ∷ []) ∷ [], c.batch.ensures)
