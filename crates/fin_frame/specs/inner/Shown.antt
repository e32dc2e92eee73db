-- What the bytes of a file that have come so far show: whole messages, messages begun, and faults.
use Rattle.std.specs.Prelude.{◌≡◌, ◌<◌, ℕ, ◌==◌, Bool, false, List, get_or}

-- `:`, with which each `{1:` ends
abbrev pub is_colon : ℕ → Bool
is_colon b = b == 58

-- none of the first n bytes is a colon
abbrev pub HasNoColon : ℕ → List ℕ → Type 0
HasNoColon n bytes = (k : ℕ) → k < n → is_colon (get_or bytes k 0) ≡ false
