-- What was written to sinks.
use Rattle.std.specs.Prelude.{ℕ, ◌≡◌, ◌≢◌, ◌⊎◌, List, [], take, Option}
use Rattle.std.specs.Io.KnownBytes.{Appends}
use Rattle.corr_top.specs.Reading.{Failed}

-- some front part of a text was appended
abbrev pub AppendsPrefix : Option (List ℕ) → Option (List ℕ) → List ℕ → Type 0
AppendsPrefix before after text = (n : ℕ) × Appends before after (take n text)

-- a text was received whole, and the sink did not fail; an empty text made no call on it
pub record Received {K : Type 0} (held : K → Option (List ℕ)) (faults : K → ℕ) (old new : K) (text : List ℕ) : Type 0 where
  pub whole : Appends (held old) (held new) text
  pub kept : faults new ≡ faults old
  pub none : text ≡ [] → new ≡ old

-- the sink failed, and received a front part of the text, which is not empty
pub record FailedAt {K : Type 0} (held : K → Option (List ℕ)) (faults : K → ℕ) (old new : K) (text : List ℕ) (then now : ℕ) : Type 0 where
  pub part : AppendsPrefix (held old) (held new) text
  pub failed : Failed faults old new then now
  pub some : text ≢ []

-- the sink of the report failed, and nothing was sent; or the report was received whole, and the sink of the outgoing messages failed
abbrev pub FailsWriting : {K : Type 0} → (K → Option (List ℕ)) → (K → ℕ) → K → K → List ℕ → K → K → List ℕ → ℕ → ℕ → Type 0
FailsWriting held faults old new report sink sunk out then now =
    (FailedAt held faults old new report then now × (sunk ≡ sink)) ⊎ (Received held faults old new report × FailedAt held faults sink sunk out then now)
