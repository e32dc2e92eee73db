-- Which faults a csv reader has over rows of any length.
use Rattle.std.proofs.Common.{◌≡◌, ℕ, true, false, List, Option, sym, ◌∙◌}
use Rattle.std.proofs.lemmas.Bool.{false≢true}
use Rattle.csv.specs.Reading.{ExplainsRead, is_flexible}
use Rattle.csv.specs.declared.reader.Reader.{Reader}
use Rattle.csv.specs.declared.error.ErrorKind.{ErrorKind}
use Rattle.csv.specs.declared.error.ErrorKind.TheVariants as kind
use Rattle.ref_tables.specs.inner.Rows.{IsReadFault}

pub is-read-fault : {R : Type 0} (rem : R → Option (List ℕ)) (old new : Reader R) (k : ErrorKind) → is_flexible old ≡ true → ExplainsRead rem old new false k → IsReadFault k
is-read-fault rem old new (kind.Io e) flexible why = tt
is-read-fault rem old new kind.OutOfMemory flexible why = tt
is-read-fault rem old new (kind.UnequalLengths pos expected len) flexible why = absurd (false≢true (sym why.0 ∙ flexible))
is-read-fault rem old new (kind.Utf8 pos err) flexible why = absurd (false≢true why.0)
is-read-fault rem old new (kind.Serialize text) flexible why = absurd why
is-read-fault rem old new (kind.Deserialize pos err) flexible why = absurd why
