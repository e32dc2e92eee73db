-- What was ordered is of a currency that the tables hold, where the account has the decimals of 32A.
use Rattle.std.proofs.Common.{◌≡◌, ℕ, ◌==◌, not, Bool, true, false, cond, List, take, drop, option_map, Some, None, Result, Ok, Err, sym, ap, ◌∙◌}
use Rattle.std.specs.Prelude.{codes, find, unwrap_or}
use Rattle.corr_ids.specs.Day.{day_of}
use Rattle.corr_money.specs.Amounts.{amount_of}
use Rattle.corr_money.specs.declared.amount.Amount.{Amount}
use Rattle.corr_money.specs.declared.amount.Ccy.{Ccy}
use Rattle.corr_money.specs.declared.amount.Minor.{Minor}
use Rattle.corr_money.specs.declared.fault.AmountFault.{AmountFault}
use Rattle.ref_tables.specs.Seen.{Tables, decimals_in}
use Rattle.fin_fields.specs.declared.field.Field.{Field}
use Rattle.fin_contents.specs.declared.value.Value.{Value}
use Rattle.fin_contents.specs.Money.{ccy_amount_in, is_dated_amount, is_metal, minor_in, value_in, value_of}
use Rattle.fin_contents.specs.Plain.{one_line}
use Rattle.fin_contents.proofs.laws.Steps.{checked, read-then, there}
use Rattle.advices.specs.declared.received.Received.{Received}
use Rattle.advices.specs.Fields.{is_named}
use Rattle.advices.specs.Received.{minor_if, ordered_of}
use Rattle.advices.specs.Valid.{IsTabled}
use Rattle.advices.proofs.laws.Origin.{field-tabled}

amount-ccy : (t : Tables) (line : List ℕ) (a : Amount) → ccy_amount_in t line ≡ Ok a → a.ccy.0 ≡ take 3 line
unfolding ccy_amount_in
amount-ccy t line a e =
    let decimals = there (decimals_in t (take 3 line)) _ _ a e in
    let minor = read-then (minor_in decimals.0 (drop 3 line)) _ a decimals.2 in
    let same : record { ccy = record { 0 = take 3 line }; minor = minor.0; decimals = decimals.0 } ≡ a = cc minor.2 in
    sym (ap (λ (x : Amount). x.ccy.0) same)

value-ccy : (t : Tables) (line : List ℕ) (v : Value) → value_in t line ≡ Ok v → v.amount.ccy.0 ≡ take 3 (drop 6 line)
unfolding value_in
value-ccy t line v e =
    let day = there (day_of (take 6 line)) _ _ v e in
    let metal = checked (not (is_metal (take 3 (drop 6 line)))) _ _ v day.2 in
    let amount = read-then (ccy_amount_in t (drop 6 line)) _ v metal.1 in
    let some = checked (not (amount.0.minor.0 == 0)) _ _ v amount.2 in
    let same : record { day = day.0; amount = amount.0 } ≡ v = cc some.1 in
    sym (ap (λ (x : Value). x.amount.ccy.0) same) ∙ amount-ccy t (drop 6 line) amount.0 amount.1

field-line : (t : Tables) (f : Field) (v : Value) → value_of t f ≡ Ok v
    → (line : List ℕ) × (one_line f ≡ Some line) × (v.amount.ccy.0 ≡ take 3 (drop 6 line))
unfolding value_of
field-line t f v e =
    let line = there (one_line f) _ _ v e in
    let form = checked (is_dated_amount line.0) _ _ v line.2 in
    (line.0, line.1, value-ccy t line.0 v form.1)

module _ (t : Tables) (own : Amount) (v : Value) (line : List ℕ) (ccy : v.amount.ccy.0 ≡ take 3 (drop 6 line))
    (same : own.decimals ≡ v.amount.decimals) (is : IsTabled t v.amount) (tabled : IsTabled t own) where
  of-minor : (r : Result Minor AmountFault)
      → IsTabled t
      (unwrap_or
      (option_map
      (λ (minor : Minor). let a : Amount = record { ccy = record { 0 = take 3 (drop 6 line) }; minor = minor; decimals = own.decimals } in a)
      (minor_if r)) own)
  of-minor (Err fault) = tabled
  of-minor (Ok minor) = record { three = rw (← ccy) (is.three); known = rw (← ccy, same) (is.known); metal = rw (← ccy) (is.metal) }

  of-line : (b : Bool)
      → IsTabled t
      (unwrap_or
      (cond b
      (option_map
      (λ (minor : Minor). let a : Amount = record { ccy = record { 0 = take 3 (drop 6 line) }; minor = minor; decimals = own.decimals } in a)
      (minor_if (amount_of own.decimals (drop 9 line)))) None) own)
  of-line false = tabled
  of-line true = of-minor (amount_of own.decimals (drop 9 line))

-- the first 32A reads as a value whose currency has the account's decimals
pub ordered-tabled : (t : Tables) (r : Received) (own : Amount) (f : Field) (v : Value) → find (is_named 32 (codes "A")) r.fields ≡ Some f
    → value_of t f ≡ Ok v → own.decimals ≡ v.amount.decimals → IsTabled t own → IsTabled t (ordered_of r own)
ordered-tabled t r own f v at says same tabled =
    let line = field-line t f v says in
    rw (at, line.1) (of-line t own v line.0 line.2 same (field-tabled t f v says) tabled (is_dated_amount line.0))

-- ---- its currency

module _ (own : Amount) (v : Value) (line : List ℕ) (ccy : v.amount.ccy.0 ≡ take 3 (drop 6 line)) (same : own.ccy ≡ v.amount.ccy) where
  minor-ccy : (r : Result Minor AmountFault)
      → (unwrap_or
      (option_map
      (λ (minor : Minor). let a : Amount = record { ccy = record { 0 = take 3 (drop 6 line) }; minor = minor; decimals = own.decimals } in a)
      (minor_if r)) own).ccy ≡ v.amount.ccy
  minor-ccy (Err fault) = same
  minor-ccy (Ok minor) = ap (λ (bs : List ℕ). let c : Ccy = record { 0 = bs } in c) (sym ccy)

  line-ccy : (b : Bool)
      → (unwrap_or
      (cond b
      (option_map
      (λ (minor : Minor). let a : Amount = record { ccy = record { 0 = take 3 (drop 6 line) }; minor = minor; decimals = own.decimals } in a)
      (minor_if (amount_of own.decimals (drop 9 line)))) None) own).ccy ≡ v.amount.ccy
  line-ccy false = same
  line-ccy true = minor-ccy (amount_of own.decimals (drop 9 line))

-- it is that of the first 32A, where the account has it too
pub ordered-ccy : (t : Tables) (r : Received) (own : Amount) (f : Field) (v : Value) → find (is_named 32 (codes "A")) r.fields ≡ Some f
    → value_of t f ≡ Ok v → own.ccy ≡ v.amount.ccy → (ordered_of r own).ccy ≡ v.amount.ccy
ordered-ccy t r own f v at says same =
    let line = field-line t f v says in
    rw (at, line.1) (line-ccy own v line.0 line.2 same (is_dated_amount line.0))
