-- The amount of a line: digits and a comma, of which a digit is the first.
use Rattle.std.proofs.Common.{◌≡◌, ℕ, ◌<◌, ◌≤◌, ◌&&◌, ◌||◌, not, Bool, true, false, cond, List, [], ◌∷◌, ◌++◌, length, get_or, Some, None, refl, arith, nat_lt}
use Rattle.std.specs.Prelude.{is_some, position}
use Rattle.std.specs.Char.{is_ascii_digit}
use Rattle.std.specs.List.{list_all, position_or_len}
use Rattle.std.proofs.lemmas.Bool.Decides.{nat_tests}
use Rattle.std.proofs.lemmas.List.Sums.{passes_at_first, split_at_first}
use Rattle.corr_text.specs.Sets.{is_in}
use Rattle.corr_text.specs.declared.set.Set.TheVariants.{X}
use Rattle.corr_money.specs.Amounts.{amount_end, amount_text, decimals_of, is_comma, is_comma_number, whole_of}
use Rattle.corr_money.proofs.laws.Written.{reads_written}
use Rattle.fin_contents.proofs.laws.Again.{small-amount}
use Rattle.fin_contents.proofs.laws.Bytes.{comma_number-of-x}
use Rattle.mt950.proofs.First.{Fail}
use Rattle.mt950.proofs.Steps.{both}

-- a byte that ends an amount
abbrev pub ends_amount : ℕ → Bool
ends_amount b = not (is_ascii_digit b || is_comma b)

-- an amount as it stands in a line
pub record IsAmountText (text : List ℕ) : Type 0 where
  pub first : ℕ
  pub rest : List ℕ
  pub same : text ≡ first ∷ rest
  pub digit : is_ascii_digit first ≡ true
  pub goes : Fail ends_amount text
  pub of_x : list_all (is_in X) text ≡ true

and-four : (a b c d : Bool) → (a && b && c && d) ≡ true → (a ≡ true) × (b ≡ true) × (c ≡ true) × (d ≡ true)
and-four a b c d e = grind (arith, nat_tests)

found-within : (i n : ℕ) → is_some (cond (nat_lt i n) (Some i) None) ≡ true → i < n
found-within i n e = grind (arith, nat_tests)

digit-goes : (b : ℕ) → is_ascii_digit b ≡ true → ends_amount b ≡ false
digit-goes b e = rw e refl

comma-goes : (b : ℕ) → is_comma b ≡ true → ends_amount b ≡ false
comma-goes b e = grind (arith, nat_tests)

digits-go : (bs more : List ℕ) → list_all is_ascii_digit bs ≡ true → Fail ends_amount more → Fail ends_amount (bs ++ more)
digits-go [] more e later = later
digits-go (b ∷ bs) more e later = let p = both (is_ascii_digit b) (list_all is_ascii_digit bs) e in (digit-goes b p.0, digits-go bs more p.1 later)

digits-alone : (bs : List ℕ) → list_all is_ascii_digit bs ≡ true → Fail ends_amount bs
digits-alone [] e = tt
digits-alone (b ∷ bs) e = let p = both (is_ascii_digit b) (list_all is_ascii_digit bs) e in (digit-goes b p.0, digits-alone bs p.1)

begun : (whole more text : List ℕ) → text ≡ whole ++ more → 0 < length whole → list_all is_ascii_digit whole ≡ true → Fail ends_amount more
    → list_all (is_in X) text ≡ true → IsAmountText text
begun [] more text e some digits later x = absurd (omega (arith, some))
begun (b ∷ bs) more text e some digits later x =
    record {
      first = b;
      rest = bs ++ more;
      same = e;
      digit = (both (is_ascii_digit b) (list_all is_ascii_digit bs) digits).0;
      goes = rw e (digits-go (b ∷ bs) more digits later);
      of_x = x;
    }

comma-number-text : (bs : List ℕ) → is_comma_number bs ≡ true → IsAmountText bs
unfolding is_comma_number
comma-number-text bs e =
    let parts =
    and-four (is_some (position is_comma bs)) (nat_lt 0 (length (whole_of bs))) (list_all is_ascii_digit (whole_of bs))
    (list_all is_ascii_digit (decimals_of bs)) e in
    let within = found-within (position_or_len is_comma bs) (length bs) parts.0 in
    let comma = get_or bs (position_or_len is_comma bs) 0 in
    let some : 0 < length (whole_of bs) = grind (arith, nat_tests) in
    let split : bs ≡ whole_of bs ++ comma ∷ decimals_of bs = split_at_first is_comma bs 0 within in
    begun (whole_of bs) (comma ∷ decimals_of bs) bs split some parts.2
    (comma-goes comma (passes_at_first is_comma bs 0 within), digits-alone (decimals_of bs) parts.3) (comma_number-of-x bs e).0

pub amount-text : (decimals n : ℕ) → decimals ≤ 4 → n < amount_end → IsAmountText (amount_text decimals n)
amount-text decimals n few small =
    let read = reads_written decimals n few small in
    comma-number-text (amount_text decimals n) (small-amount decimals (amount_text decimals n) (record { 0 = n }) read).0
