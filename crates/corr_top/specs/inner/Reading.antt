-- What was read of a source.
use Rattle.std.specs.Prelude.{ℕ, ◌≡◌, ◌≤◌, ◌++◌, List, Option, length}
use Rattle.std.specs.Io.KnownBytes.{Consumes}
use Rattle.corr_top.specs.declared.reading.ReadStop.{ReadStop}
use Rattle.corr_top.specs.declared.reading.ReadStop.TheVariants.{Fault, Memory}
use Rattle.corr_top.specs.Reading.{Failed}

-- the most bytes that one read asks for
abbrev pub chunk_bytes : ℕ
chunk_bytes = 65536

-- bytes were read, and stand behind those of a text
pub record AddsRead (before after : Option (List ℕ)) (old new : List ℕ) : Type 0 where
  pub more : List ℕ
  pub text : new ≡ old ++ more
  pub taken : Consumes before after more

-- bytes were read, and stand behind those of a text; but for some last ones, where there was no memory for them. If the text had no more
-- than so many bytes, it and those have no more
pub record AddsSome (before after : Option (List ℕ)) (limit : ℕ) (old new : List ℕ) : Type 0 where
  pub more : List ℕ
  pub lost : List ℕ
  pub text : new ≡ old ++ more
  pub taken : Consumes before after (more ++ lost)
  pub short : length old ≤ limit → length (new ++ lost) ≤ limit

-- reading stopped: the source failed; or memory ran out, and its count is as it was
abbrev pub IsStopped : {S : Type 0} → (S → ℕ) → S → S → ReadStop → Type 0
IsStopped faults old new (Fault then now) = Failed faults old new then now
IsStopped faults old new Memory = faults new ≡ faults old
