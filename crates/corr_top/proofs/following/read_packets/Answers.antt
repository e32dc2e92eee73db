use Rattle.std.proofs.Common.{[]}
use Rattle.std.proofs.lemmas.Result.{err_from_is_err_and}
use Rattle.corr_top.proofs.FollowedDisk.{stops_reading_packets}
use Rattle.corr_top.proofs.following.read_packets.Goals as goal

-- the file was not read
pub returns-in_err-file-clause-stopped : goal.returns-in_err-file-clause-stopped
returns-in_err-file-clause-stopped g c =
    let p = err_from_is_err_and c.from_residual.result c.from_residual.ensures.1 in
    rw (p.1, p.2) ([], stops_reading_packets _ _ _ [] _ c.in_err-file.ensures.stopped)
