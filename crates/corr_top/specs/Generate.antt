-- The command `generate`: a day of messages, made from a number.
use Rattle.std.specs.Prelude.{ℕ, ◌≡◌, []}
use Rattle.corr_report.specs.Generated.{generated_of}
use Rattle.corr_top.specs.Meaning.{Meaning}

-- it reads nothing, and leaves the disk
abbrev pub generate_meaning : ℕ → ℕ → Meaning
generate_meaning count seed = record {
  is_for = λ i. Unit {0};
  steps = [];
  report = λ i. [];
  out = λ i. generated_of count seed;
  valid = λ i. Unit {0};
  leaves = λ D disk old new i. new ≡ old;
}
