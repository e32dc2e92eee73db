use Rattle.std.proofs.Common.{◌≤◌, ℕ, List, [], inl, length, refl, subst, sym}
use Rattle.std.specs.Prelude.{All}
use Rattle.std.proofs.lemmas.Result.{err_from_is_err_and}
use Rattle.corr_top.proofs.MessageFiles.{all-short}
use Rattle.corr_top.proofs.checking.tell_verdicts.Goals as goal

pub verdicts-requires-clause-short : goal.verdicts-requires-clause-short
verdicts-requires-clause-short g c =
    subst (λ (ms : List (List ℕ)). All (λ m. length m ≤ 16384) ms) (sym c.as_slice.ensures) (all-short c.bytes.result.now c.in_ok-messages.messages c.in_ok-messages.ensures.ok)

-- the file was not read
pub returns-in_err-file : goal.returns-in_err-file
returns-in_err-file g c =
    let p = err_from_is_err_and c.from_residual.result c.from_residual.ensures.1 in
    rw (p.1, p.2) (inl (c.in_err-file.field-0.0, [], refl, c.in_err-file.ensures.stopped []))
