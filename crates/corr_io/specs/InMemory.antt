-- Sources and sinks in memory, as contracts see them.
use Rattle.std.specs.Prelude.{ℕ, ◌+◌, ◌==◌, Bool, List}
use Rattle.std.specs.List.{list_any}

-- the bytes still to be read, how many reads there were, how many of them failed, and which are to fail
pub record Supply : Type 0 where
  pub left : List ℕ
  pub calls : ℕ
  pub faults : ℕ
  pub fails : List ℕ

-- the bytes that were written, how many more surely fit, how many writes there were, how many of them failed, and which are to fail
pub record Stock : Type 0 where
  pub held : List ℕ
  pub spare : ℕ
  pub calls : ℕ
  pub faults : ℕ
  pub fails : List ℕ

-- whether the call after so many calls is one that is to fail; the first call has number 1
abbrev pub is_next_failing : List ℕ → ℕ → Bool
is_next_failing fails calls = list_any (λ n. n == calls + 1) fails
