-- What was written to sinks.
use Rattle.std.specs.Prelude.{ℕ, ◌≡◌, ◌⊎◌, List}
use Rattle.corr_io.specs.declared.sink.Sink as sinks
use Rattle.corr_top.specs.declared.status.Status.{Status}
use Rattle.corr_top.specs.declared.status.Status.TheVariants as status
use Rattle.corr_top.specs.Writing.{Received, FailsWriting}

-- both texts were received whole, and the status is Done; or a sink failed, and it is WriteFault
abbrev pub IsWritten : {K : Type 0} → sinks.Ghosts K → K → K → List ℕ → K → K → List ℕ → Status → Type 0
IsWritten sink old new report from to out s =
    ((s ≡ status.Done) × Received sink.held sink.faults old new report × Received sink.held sink.faults from to out)
    ⊎ ((then : ℕ) × (now : ℕ) × (s ≡ status.WriteFault then now) × FailsWriting sink.held sink.faults old new report from to out then now)
