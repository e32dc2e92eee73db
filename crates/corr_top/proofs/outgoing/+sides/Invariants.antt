use Rattle.std.proofs.Common.{◌+◌, ◌*◌}
use Rattle.corr_top.proofs.outgoing.+sides.Given as goal

-- each part has fewer threads than the whole
abbrev pub decreases-outgoing_by : goal.decreases-outgoing_by
decreases-outgoing_by g l = 2 * l.threads

abbrev pub decreases-front : goal.decreases-front
decreases-front g l = 2 * l.some + 1

abbrev pub decreases-back : goal.decreases-back
decreases-back g l = 2 * l.others + 1
