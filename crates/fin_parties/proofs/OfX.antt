-- Parts of lines that have no byte outside set X.
use Rattle.std.proofs.Common.{◌≡◌, ℕ, not, Bool, true, false, cond, List, [], ◌∷◌, Some, None, refl}
use Rattle.std.specs.List.{list_any}
use Rattle.corr_text.specs.Lines.{begins_with}
use Rattle.fin_fields.specs.Faults.{has_other_byte}
use Rattle.fin_fields.proofs.laws.OfX.{each-of-x, lines-of-x}
use Rattle.fin_parties.specs.Party.{Cut, opens, parts_of}
use Rattle.fin_parties.specs.declared.opening.Opening.{Opening}

-- what stands after the first byte of such a line
pub after_slash : (slash : ℕ) (account : List ℕ) → has_other_byte (slash ∷ account) ≡ false → has_other_byte account ≡ false
after_slash slash account e = (each-of-x slash account e).1

-- the first of such lines
pub first_line : (line : List ℕ) (lines : List (List ℕ)) → list_any has_other_byte (line ∷ lines) ≡ false → has_other_byte line ≡ false
first_line line lines e = (lines-of-x line lines e).0

rest-by : (slash is : Bool) (line : List ℕ) (lines : List (List ℕ)) (c : Cut)
    → cond (not slash) (Some (record { first = None; rest = line ∷ lines })) (cond is (Some (record { first = Some line; rest = lines })) None) ≡ Some c
    → list_any has_other_byte (line ∷ lines) ≡ false → list_any has_other_byte c.rest ≡ false
rest-by false is line lines c e fine =
    let same : record { first = None; rest = line ∷ lines } ≡ c = cc e in
    rw (← same) fine
rest-by true true line lines c e fine =
    let same : record { first = Some line; rest = lines } ≡ c = cc e in
    rw (← same) (lines-of-x line lines fine).1
rest-by true false line lines c e fine = absurd (cc e)

-- the lines after an optional first one
pub rest-of-parts : (opening : Opening) (lines : List (List ℕ)) (c : Cut) → parts_of opening lines ≡ Some c → list_any has_other_byte lines ≡ false
    → list_any has_other_byte c.rest ≡ false
rest-of-parts opening [] c e fine =
    let same : record { first = None; rest = [] } ≡ c = cc e in
    rw (← same) refl
rest-of-parts opening (line ∷ lines) c e fine = rest-by (begins_with 47 line) (opens opening line) line lines c e fine
