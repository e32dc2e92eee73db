-- What the rules ask of a transfer's parties.
use Rattle.std.specs.Prelude.{ℕ, ◌==◌, ◌&&◌, not, Bool, true, false, List, ◌∷◌, Option, Some, is_some, is_none}
use Rattle.fin_parties.specs.declared.party.Party.{Party}
use Rattle.fin_parties.specs.declared.party.Party.TheVariants.{A, B, C, D, K, F}

-- there, by its BIC
abbrev pub is_a : Option Party → Bool
is_a (Some (A line bic)) = true
is_a _ = false

-- there, by another option than A
abbrev pub is_not_a : Option Party → Bool
is_not_a party = is_some party && not (is_a party)

-- there, by its place
abbrev pub is_b : Option Party → Bool
is_b (Some (B line place)) = true
is_b _ = false

-- there, by name and address
abbrev pub is_d : Option Party → Bool
is_d (Some (D line lines)) = true
is_d _ = false

-- option B without a party line
abbrev pub is_bare_b : Option Party → Bool
is_bare_b (Some (B line place)) = is_none line
is_bare_b _ = false

-- option D without a party line
abbrev pub is_bare_d : Option Party → Bool
is_bare_d (Some (D line lines)) = is_none line
is_bare_d _ = false

-- a line carries a clearing code: it begins with two slashes
abbrev pub has_clearing_code : List ℕ → Bool
has_clearing_code (first ∷ second ∷ code) = (first == 47) && (second == 47)
has_clearing_code _ = false

-- option C without a clearing code
abbrev pub is_uncleared_c : Option Party → Bool
is_uncleared_c (Some (C line)) = not (has_clearing_code line)
is_uncleared_c _ = false

-- a payee, by option A, by option F or by name without a letter, has an account
abbrev pub has_account : Party → Bool
has_account (A line bic) = is_some line
has_account (F line lines) = is_some line
has_account (K account lines) = is_some account
has_account _ = false
