-- Braces.
use Rattle.std.specs.Prelude.{ℕ, ◌+◌, ◌-◌, ◌==◌, ◌||◌, Bool, if◌then◌else◌}

-- `{` or `}`
abbrev pub is_brace : ℕ → Bool
is_brace b = b == 123 || b == 125

-- how many braces are open after this byte
abbrev pub depth_after : ℕ → ℕ → ℕ
depth_after depth b = if b == 123 then depth + 1 else if b == 125 then depth - 1 else depth
