-- The sets of characters of field formats.
use Rattle.std.specs.Prelude.{ℕ, ◌==◌, ◌||◌, Bool, List, [], ◌∷◌}
use Rattle.std.specs.List.{list_any}
use Rattle.std.specs.Char.{is_ascii_digit, is_ascii_uppercase, is_ascii_lowercase}
use Rattle.corr_text.specs.declared.set.Set.{Set}
use Rattle.corr_text.specs.declared.set.Set.TheVariants.{X, N, A, C}

-- space and / - ? : ( ) . , ' +
abbrev pub marks : List ℕ
marks = 32 ∷ 47 ∷ 45 ∷ 63 ∷ 58 ∷ 40 ∷ 41 ∷ 46 ∷ 44 ∷ 39 ∷ 43 ∷ []

-- letters, digits and these marks
abbrev pub is_x_byte : ℕ → Bool
is_x_byte b = is_ascii_uppercase b || is_ascii_lowercase b || is_ascii_digit b || list_any (λ m. b == m) marks

-- a capital letter or a digit
abbrev pub is_c_byte : ℕ → Bool
is_c_byte b = is_ascii_uppercase b || is_ascii_digit b

-- whether a byte is in a set
abbrev pub is_in : Set → ℕ → Bool
is_in X b = is_x_byte b
is_in N b = is_ascii_digit b
is_in A b = is_ascii_uppercase b
is_in C b = is_c_byte b
