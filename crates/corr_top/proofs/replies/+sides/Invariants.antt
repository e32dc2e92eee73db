use Rattle.std.proofs.Common.{◌+◌, ◌*◌}
use Rattle.corr_top.proofs.replies.+sides.Given as goal

-- each part has fewer threads than the whole
abbrev pub decreases-reply_lines_by : goal.decreases-reply_lines_by
decreases-reply_lines_by g l = 2 * l.threads

abbrev pub decreases-front : goal.decreases-front
decreases-front g l = 2 * l.some + 1

abbrev pub decreases-back : goal.decreases-back
decreases-back g l = 2 * l.others + 1
