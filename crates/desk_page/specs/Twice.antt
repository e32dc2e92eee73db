-- Messages to look at twice: those whose reference no message ahead of them has, and whose UETR, or sender, field 20 and amount, one has.
use Rattle.std.specs.Prelude.{ℕ, ◌+◌, ◌&&◌, ◌||◌, not, Bool, false, List, [], ◌∷◌, ◌++◌, Option, Some, None, if◌then◌else◌}
use Rattle.std.specs.List.{list_any}
use Rattle.std.specs.Str.{bytes_eq}
use Rattle.corr_text.specs.Digits.{padded}
use Rattle.corr_ids.specs.declared.uetr.Uetr.{Uetr}
use Rattle.desk_page.specs.declared.mark.Piece.TheVariants as piece
use Rattle.desk_page.specs.declared.row.Payment.{Payment}
use Rattle.desk_page.specs.declared.row.Row.{Row}
use Rattle.desk_page.specs.declared.row.Row.TheVariants.{Asks, Refused, Told}
use Rattle.desk_page.specs.Cells.{amount_cell, bank_cell, cell, number_cell}
use Rattle.desk_page.specs.Markup.{markup}

-- sender, currency, amount in minor units, and field 20, one after another: all but the last have one length
unfoldable pub terms_of : Payment → List ℕ
terms_of p = p.sender.head ++ p.sender.branch ++ p.amount.ccy.0 ++ padded 14 p.amount.minor.0 ++ p.reference

-- a UETR, if there is one
abbrev pub uetr_keys : Option Uetr → List (List ℕ)
uetr_keys (Some uetr) = uetr.0 ∷ []
uetr_keys None = []

-- what a message that asks for a payment is known by: its reference, which begins with a digit, its terms, which begin with a capital
-- letter, and its UETR, which has none
abbrev pub keys_of : Row → List (List ℕ)
keys_of (Asks payment standing) = payment.mir.0 ∷ terms_of payment ∷ uetr_keys payment.uetr
keys_of (Refused mir fault) = []
keys_of (Told mir account) = []

-- it stands among others
abbrev pub stands_in : List (List ℕ) → List ℕ → Bool
stands_in keys key = list_any (bytes_eq key) keys

-- a UETR is known
abbrev pub is_known_uetr : (List ℕ → Bool) → Option Uetr → Bool
is_known_uetr is_known (Some uetr) = is_known uetr.0
is_known_uetr is_known None = false

-- a message's reference isn't known, and its terms or its UETR are
abbrev pub is_twice : (List ℕ → Bool) → Row → Bool
is_twice is_known (Asks payment standing) = not (is_known payment.mir.0) && (is_known (terms_of payment) || is_known_uetr is_known payment.uetr)
is_twice is_known (Refused mir fault) = false
is_twice is_known (Told mir account) = false

-- the row of the n-th message: its reference, sender, field 20 and amount
unfoldable pub twice_line : ℕ → Payment → List ℕ
twice_line n p =
    markup piece.RowBegin ++ number_cell n ++ cell p.mir.0 ++ bank_cell p.sender ++ cell p.reference ++ amount_cell p.amount ++ markup piece.RowEnd

-- the same of a message that may ask for no payment: then it has no row
abbrev pub twice_row : ℕ → Row → List ℕ
twice_row n (Asks payment standing) = twice_line n payment
twice_row n (Refused mir fault) = []
twice_row n (Told mir account) = []

-- the same where it is to be looked at twice
abbrev pub twice_if : (List ℕ → Bool) → ℕ → Row → List ℕ
twice_if is_known n row = if is_twice is_known row then twice_row n row else []

-- the rows of messages, the first of which is the n-th, after messages that are known by these keys
abbrev pub twice_from : List (List ℕ) → ℕ → List Row → List ℕ
twice_from keys n [] = []
twice_from keys n (row ∷ rows) = twice_if (stands_in keys) n row ++ twice_from (keys ++ keys_of row) (n + 1) rows

-- the messages to look at twice
abbrev pub twice_section : List Row → List ℕ
twice_section rows = markup piece.TwiceBegin ++ twice_from [] 1 rows ++ markup piece.TableEnd
