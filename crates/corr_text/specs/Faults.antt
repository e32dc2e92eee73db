-- Counts of faults: what tells a device's own failure from a caller that gives up.
use Rattle.std.specs.Prelude.{ℕ, ◌≡◌, ◌+◌, min, Result, OnOk, OnErr}

-- a count raised by one, or as it is where it stands at the last number of 64 bits
abbrev pub counted : ℕ → ℕ
counted n = min (n + 1) 18446744073709551615

-- a count has risen: one more failure was counted; one that stands at its type's last value stays there
abbrev pub Rose : ℕ → ℕ → Type 0
Rose before now = now ≡ counted before

-- a call that succeeded leaves the count of faults, and one that failed adds one to it
pub record HasCause {T E : Type 0} (before now : ℕ) (result : Result T E) : Type 0 where
  pub kept : OnOk result (now ≡ before)
  pub failed : OnErr result (Rose before now)
