use Rattle.std.proofs.Common.{◌≤◌, ℕ, List, [], inl, length, refl, subst, sym, ap, Err}
use Rattle.std.specs.Prelude.{All}
use Rattle.corr_top.specs.declared.status.Status.{Status}
use Rattle.corr_top.proofs.MessageFiles.{all-short}
use Rattle.corr_top.proofs.paging.show_file.Goals as goal

-- the file was not read
pub returns-in-Err-clause-gives : goal.returns-in-Err-clause-gives
returns-in-Err-clause-gives g c =
    inl (record { stop = c.in-Err.stop; bytes = []; told = ap (λ (s : Status). Err s) c.from.ensures; stops = c.in-Err.ensures.stopped []; same = refl })

pub show-requires-clause-short : goal.show-requires-clause-short
show-requires-clause-short g c =
    subst (λ (ms : List (List ℕ)). All (λ m. length m ≤ 16384) ms) (sym c.as_slice.ensures) (all-short c.bytes.result.now c.in-Ok-cut_file.messages c.in-Ok-cut_file.ensures.ok)
