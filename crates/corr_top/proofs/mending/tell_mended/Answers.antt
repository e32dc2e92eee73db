use Rattle.std.proofs.Common.{inl, refl}
use Rattle.std.proofs.lemmas.Result.{err_from_is_err_and}
use Rattle.corr_top.proofs.mending.tell_mended.Goals as goal

-- the file was not read
pub returns-in_err-file : goal.returns-in_err-file
returns-in_err-file g c =
    let p = err_from_is_err_and c.from_residual.result c.from_residual.ensures.1 in
    let stopped = c.in_err-file.ensures.stopped in
    rw (p.1, p.2) (inl (c.in_err-file.field-0.0, stopped.0, refl, stopped.1))
