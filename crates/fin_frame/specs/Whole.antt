-- The front of a file as it is read at once: gaps, groups and messages that begin here.
use Rattle.std.specs.Prelude.{ℕ, ◌&&◌, nat_lt, Bool, List, length}
use Rattle.fin_frame.specs.File.{lead, agrees}

-- whether the bytes begin `{1:`
abbrev pub is_led : List ℕ → Bool
is_led bytes = nat_lt 2 (length bytes) && agrees lead bytes
