use Rattle.std.proofs.lemmas.Result.{err_from_is_err_and}
use Rattle.corr_top.proofs.TableFiles.{read_stopped}
use Rattle.corr_top.proofs.tables.read_table.Goals as goal

pub returns-in_err-read_whole-clause-stopped : goal.returns-in_err-read_whole-clause-stopped
returns-in_err-read_whole-clause-stopped g c =
    let p = err_from_is_err_and c.from_residual.result c.from_residual.ensures.1 in
    rw (p.1, p.2) (λ file fault. read_stopped _ _ _ file fault _ c.in_err-read_whole.ensures.stopped)
