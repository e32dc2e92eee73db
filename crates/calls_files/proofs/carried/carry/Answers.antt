use Rattle.std.proofs.Common.{◌≤◌, All, length, sym, subst, arith}
use Rattle.jrn_file.specs.Reading.{most_record_bytes}
use Rattle.calls_files.proofs.Short.{three, with-head}
use Rattle.calls_files.proofs.carried.carry.Goals as goal

pub create_with-requires-clause-short : goal.create_with-requires-clause-short
create_with-requires-clause-short g c =
    with-head _ _ (omega arith) (subst (λ records. All (λ r. length r ≤ most_record_bytes) records) (sym c.requires) three)
