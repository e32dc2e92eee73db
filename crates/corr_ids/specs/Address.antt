-- Addresses of logical terminals: 4!a2!a2!c, the terminal, 3!c.
use Rattle.std.specs.Prelude.{ℕ, ◌≡◌, ◌==◌, ◌&&◌, Bool, List, ◌∷◌, ◌++◌, length, take, drop, slice_index, Option, Some, None, if◌then◌else◌}
use Rattle.std.specs.List.{list_all}
use Rattle.std.specs.Char.{is_ascii_uppercase}
use Rattle.corr_text.specs.Sets.{is_c_byte}
use Rattle.corr_ids.specs.declared.bic.Bic.{Bic}
use Rattle.corr_ids.specs.declared.address.LtAddress.{LtAddress}

-- six letters, then six of C
unfoldable pub is_lt : List ℕ → Bool
is_lt bs = (length bs == 12) && list_all is_ascii_uppercase (take 6 bs) && list_all is_c_byte (drop 6 bs)

-- the parts of twelve bytes
abbrev pub address_of : List ℕ → LtAddress
address_of bs = record { head = take 8 bs; lt = slice_index bs 8; branch = drop 9 bs }

-- the address that is spelled so
abbrev pub lt_of : List ℕ → Option LtAddress
lt_of bs = if is_lt bs then Some (address_of bs) else None

-- how an address is spelled
abbrev pub lt_text : LtAddress → List ℕ
lt_text a = a.head ++ a.lt ∷ a.branch

-- an address meets its grammar: it is read as itself
abbrev pub IsLt : LtAddress → Type 0
IsLt a = lt_of (lt_text a) ≡ Some a

-- the bank that an address belongs to
abbrev pub bank_of : LtAddress → Bic
bank_of a = record { head = a.head; branch = a.branch }
