-- The pages of a statement joined: the statement that they are, or the first test that fails.
use Rattle.std.specs.Prelude.{◌≤◌, ◌^◌, ℤ, pos, neg_ℤ, ◌≤ℤ◌}

-- what the lines of a list can add: there are fewer than 2^64, each below 10^14
abbrev pub IsSum : ℤ → Type 0
IsSum n = (neg_ℤ (pos (2 ^ 112)) ≤ℤ n) × (n ≤ℤ pos (2 ^ 112))
