-- Messages to look at twice: those whose reference no message ahead of them has, and whose UETR, or sender, field 20 and amount, one has.
use Rattle.std.specs.Prelude.{ℕ, List, []}
use Rattle.std.specs.List.{flat_map}
use Rattle.desk_page.specs.declared.row.Row.{Row}
use Rattle.desk_page.specs.declared.row.Row.TheVariants.{Asks, Refused, Told}
use Rattle.desk_page.specs.Twice.{terms_of, keys_of}

-- those of a message, if it asks for a payment
abbrev pub terms_in : Row → List ℕ
terms_in (Asks payment standing) = terms_of payment
terms_in (Refused mir fault) = []
terms_in (Told mir account) = []

-- what the messages are known by
abbrev pub keys_in : List Row → List (List ℕ)
keys_in rows = flat_map keys_of rows
