use Rattle.std.proofs.lemmas.Result.{err_from_is_err_and}
use Rattle.corr_top.proofs.MessageFiles.{stops_reading}
use Rattle.corr_top.proofs.cutting.read_file.Goals as goal

pub returns-in_err-read_whole-clause-stopped : goal.returns-in_err-read_whole-clause-stopped
returns-in_err-read_whole-clause-stopped g c =
    let p = err_from_is_err_and c.from_residual.result c.from_residual.ensures.1 in
    rw (p.1, p.2) (λ file. stops_reading _ _ _ file _ c.in_err-read_whole.ensures.stopped)
