use Rattle.std.proofs.Common.{length}
use Rattle.day_model.proofs.core_job.+least_of.Given as goal

abbrev pub decreases-least_of : goal.decreases-least_of
decreases-least_of l = length l.legs.now
