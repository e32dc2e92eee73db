-- The command `generate`: a day of messages, made from a number.
use Rattle.std.specs.Prelude.{ℕ, ◌≡◌, [], Result, Ok, Err}
use Rattle.corr_report.specs.Generated.{generated_of}
use Rattle.corr_top.specs.declared.status.Status.{Status}
use Rattle.corr_top.specs.declared.status.Status.TheVariants as status
use Rattle.corr_top.specs.declared.writing.Texts.{Texts}

-- what making a day gives: the day to be sent and an empty report, or out of memory
abbrev pub GivesGenerated : ℕ → ℕ → Result Texts Status → Type 0
GivesGenerated count seed (Ok texts) = (texts.report ≡ []) × (texts.out ≡ generated_of count seed)
GivesGenerated count seed (Err s) = s ≡ status.Memory
