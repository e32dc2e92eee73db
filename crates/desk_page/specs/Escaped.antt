-- Texts in markup: every byte that markup could take for its own is told by its number.
use Rattle.std.specs.Prelude.{◌≡◌, ℕ, ◌+◌, ◌-◌, ◌*◌, ◌==◌, ◌&&◌, not, nat_le, Bool, true, List, [], ◌∷◌, ◌++◌, Option, Some, None, codes, if◌then◌else◌}
use Rattle.std.specs.List.{flat_map, list_all}
use Rattle.corr_text.specs.Digits.{padded}

-- a byte that stands as it is: printable, and none of & < > " '
abbrev pub is_bare : ℕ → Bool
is_bare b = nat_le 32 b && nat_le b 126 && not (b == 38) && not (b == 60) && not (b == 62) && not (b == 34) && not (b == 39)

-- a byte in markup; another one is told by its number: `&#60;`
abbrev pub escaped_byte : ℕ → List ℕ
escaped_byte b = if is_bare b then b ∷ [] else codes "&#" ++ padded 1 b ++ codes ";"

-- a text in markup
abbrev pub escaped : List ℕ → List ℕ
escaped text = flat_map escaped_byte text

-- what a reader of markup takes these bytes for, within a number (so far), or not
abbrev pub read_from : Option ℕ → List ℕ → List ℕ
read_from within [] = []
read_from None (b ∷ bs) = if b == 38 then read_from (Some 0) bs else b ∷ read_from None bs
read_from (Some n) (b ∷ bs) = if b == 59 then n ∷ read_from None bs else if b == 35 then read_from (Some n) bs else read_from (Some (10 * n + (b - 48))) bs

-- what it takes a text for
abbrev pub read_back : List ℕ → List ℕ
read_back bs = read_from None bs

-- a byte
abbrev pub is_byte : ℕ → Bool
is_byte b = nat_le b 255

-- none of < > " '
abbrev pub is_no_markup : ℕ → Bool
is_no_markup b = not (b == 60) && not (b == 62) && not (b == 34) && not (b == 39)

-- an escaped text has none of < > " ', and is read as the text
pub record Escapes (text : List ℕ) : Type 0 where
  pub no_markup : list_all is_no_markup (escaped text) ≡ true
  pub again : read_back (escaped text) ≡ text

-- so it is of each text of bytes
abbrev pub EscapesAll : Type 0
EscapesAll = (text : List ℕ) → list_all is_byte text ≡ true → Escapes text
