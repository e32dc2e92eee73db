-- The line of a field that has no byte outside set X.
use Rattle.std.proofs.Common.{◌≡◌, ℕ, ◌-◌, ◌≤◌, ◌&&◌, Bool, true, false, List, [], ◌∷◌, length, take, drop, Some, sym, ap, ◌∙◌, arith, nat_le}
use Rattle.std.specs.List.{list_all, list_any}
use Rattle.std.proofs.lemmas.Bool.{le-leb}
use Rattle.std.proofs.lemmas.List.{length-drop, take_all}
use Rattle.corr_text.specs.Sets.{is_in}
use Rattle.corr_text.specs.declared.set.Set.TheVariants.{N}
use Rattle.fin_fields.specs.Faults.{has_other_byte}
use Rattle.fin_fields.proofs.laws.OfX.{lines-of-x, rest_of_x}
use Rattle.fin_contents.specs.Money.{is_ccy_amount, is_dated_amount}
use Rattle.fin_contents.specs.Plain.{only_line}

-- where no line has such a byte, the only one has none
pub only-of-x : (lines : List (List ℕ)) (line : List ℕ) → only_line lines ≡ Some line → list_any has_other_byte lines ≡ false → has_other_byte line ≡ false
only-of-x [] line e fine = absurd (cc e)
only-of-x (first ∷ []) line e fine =
    let same : first ≡ line = cc e in
    rw (← same) (lines-of-x first [] fine).0
only-of-x (first ∷ next ∷ more) line e fine = absurd (cc e)

-- what is left of it after some bytes
pub whole-rest : (m : ℕ) (line : List ℕ) → take (length line - m) (drop m line) ≡ drop m line
whole-rest m line = take_all (length line - m) (drop m line) (omega (arith, length-drop m line))

pub end-of-x : (m : ℕ) (line : List ℕ) → has_other_byte line ≡ false → has_other_byte (take (length line - m) (drop m line)) ≡ false
end-of-x m line e = rw (whole-rest m line) (rest_of_x m line e)

last-of-three : (a b c d : Bool) → a ≡ true → b ≡ true → d ≡ c → d ≡ (a && b && c)
last-of-three true true c d p q e = e
last-of-three false b c d p q e = absurd (cc p)
last-of-three true false c d p q e = absurd (cc q)

-- where a line is long enough and begins with six digits, the currency and amount after them tell whether it is dated
pub dated-by-amount : (line : List ℕ) (digits amount : Bool) → 10 ≤ length line → digits ≡ true → digits ≡ list_all (is_in N) (take 6 line)
    → amount ≡ is_ccy_amount (take (length line - 6) (drop 6 line)) → amount ≡ is_dated_amount line
dated-by-amount line digits amount long are is e =
    last-of-three (nat_le 10 (length line)) (list_all (is_in N) (take 6 line)) (is_ccy_amount (drop 6 line)) amount (le-leb 10 (length line) long) (sym is ∙ are)
    (e ∙ ap is_ccy_amount (whole-rest 6 line))
