-- Message input references: a valid date 6!n, an LT address, 4!n, 6!n.
use Rattle.std.specs.Prelude.{ℕ, ◌≡◌, ◌==◌, ◌&&◌, Bool, List, length, take, drop, Option, Some, None, is_some, if◌then◌else◌}
use Rattle.std.specs.List.{list_all}
use Rattle.std.specs.Char.{is_ascii_digit}
use Rattle.corr_ids.specs.declared.mir.Mir.{Mir}
use Rattle.corr_ids.specs.declared.address.LtAddress.{LtAddress}
use Rattle.corr_ids.specs.Address.{is_lt, address_of}
use Rattle.corr_ids.specs.Day.{day_of}

-- the twelve bytes after the date
abbrev pub sender_text : List ℕ → List ℕ
sender_text bs = take 12 (drop 6 bs)

-- a date, an address, ten digits
unfoldable pub is_mir : List ℕ → Bool
is_mir bs = (length bs == 28) && is_some (day_of (take 6 bs)) && is_lt (sender_text bs) && list_all is_ascii_digit (drop 18 bs)

-- the reference that is spelled so
abbrev pub mir_of : List ℕ → Option Mir
mir_of bs = if is_mir bs then Some (record { 0 = bs }) else None

-- a reference meets its grammar: it is read as itself
abbrev pub IsMir : Mir → Type 0
IsMir m = mir_of m.0 ≡ Some m

-- the sender's address, its second part
abbrev pub sender_of : Mir → LtAddress
sender_of m = address_of (sender_text m.0)
