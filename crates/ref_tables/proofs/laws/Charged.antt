-- Charges are above 0 and below 10^14.
use Rattle.std.proofs.Common.{◌≡◌, ℕ, ◌<◌, Bool, true, false, cond, ◌&&◌, List, [], ◌∷◌, ◌++◌, length, map, Option, Some, None, option_and_then, unwrap_or, is_some, refl, sym, arith, ◌==◌}
use Rattle.std.specs.Prelude.{IfSome, IsTrue}
use Rattle.std.specs.Option.{option_map_or}
use Rattle.std.specs.Map.{lookup}
use Rattle.std.proofs.lemmas.Bool.Decides.{nat_tests}
use Rattle.corr_money.specs.Amounts.{amount_end}
use Rattle.corr_money.specs.declared.amount.Minor.{Minor}
use Rattle.ref_tables.specs.Charges.{charge_fault, charge_in_row}
use Rattle.ref_tables.specs.Columns.{charge_in_cell, is_charge, is_ccy, magnitude_of}
use Rattle.ref_tables.specs.Refusals.{against, first_bad_row, first_fault}
use Rattle.ref_tables.specs.Rows.{Cells, cell, rows_of, rows_within}
use Rattle.ref_tables.specs.Seen.{Tables, are_charges}
use Rattle.ref_tables.specs.declared.fault.Why.TheVariants as why
use Rattle.ref_tables.proofs.laws.Fine.{both-none, map-none, next-holds}
use Rattle.ref_tables.proofs.laws.Records.{rows_within_some}

-- a number as a charge, where it is one
abbrev charge_from : ℕ → Option Minor
charge_from n = cond (is_charge n) (Some (record { 0 = n })) None

charged : (m : Minor) (r : Bool) → is_charge m.0 ≡ r → is_some (cond r (Some m) None) ≡ true → is_charge ((unwrap_or (cond r (Some m) None) (record { 0 = 0 })).0) ≡ true
charged m true e said = e
charged m false e said = absurd (cc said)

-- a column that says a charge says one of the right size
sized : (number : Option ℕ) → is_some (option_and_then charge_from number) ≡ true → is_charge ((unwrap_or (option_and_then charge_from number) (record { 0 = 0 })).0) ≡ true
sized None said = absurd (cc said)
sized (Some n) said = charged (record { 0 = n }) (is_charge n) refl said

-- a row without a fault has a charge
row-charged : (t : Tables) (earlier : List (List ℕ × Minor)) (row : Cells) → charge_fault t earlier row ≡ None → is_charge (charge_in_row row).1.0 ≡ true
row-charged t earlier row none =
    let first = next-holds (length row == 2) why.Columns _ none in
    let second = next-holds (is_ccy (cell 0 row)) (why.Value 1) _ first.1 in
    let third = next-holds (is_some (charge_in_cell (cell 1 row))) (why.Value 2) _ second.1 in
    sized (magnitude_of (cell 1 row)) third.0

rows-charged : (t : Tables) (before rows : List Cells) → first_bad_row (against charge_in_row (charge_fault t)) before rows ≡ None → IsTrue (are_charges (map charge_in_row rows))
unfolding first_bad_row
rows-charged t before [] none = refl
rows-charged t before (row ∷ rows) none =
    let parts = both-none _ _ none in
    rw (row-charged t (map charge_in_row before) row (map-none _ _ parts.0)) (rows-charged t (before ++ row ∷ []) rows parts.1)

-- the rows of a file without a fault have charges
pub file_charged : (t : Tables) (file : List ℕ) → first_fault 1000 (against charge_in_row (charge_fault t)) file ≡ None → IsTrue (are_charges (map charge_in_row (rows_of file)))
file_charged t file none = go (rows_within 1000 file) refl none
  where
    go : (o : Option (List Cells)) → rows_within 1000 file ≡ o → option_map_or (first_bad_row (against charge_in_row (charge_fault t)) []) o (Some (0, why.Rows)) ≡ None
        → IsTrue (are_charges (map charge_in_row (rows_of file)))
    go None within none = absurd (cc none)
    go (Some rows) within none = rw ((rows_within_some 1000 file rows (sym within)).0) (rows-charged t [] rows none)

found : (b r : Bool) (m : Minor) (rest : Bool) (later : Option Minor) → is_charge m.0 ≡ r → (r && rest) ≡ true → (rest ≡ true → IfSome later (λ m. (0 < m.0) × (m.0 < amount_end)))
    → IfSome (cond b (Some m) later) (λ m. (0 < m.0) × (m.0 < amount_end))
found true true m rest later e h k = (grind (arith, nat_tests), grind (arith, nat_tests))
found b false m rest later e h k = absurd (cc h)
found false true m rest later e h k = k h

-- a charge that is found in a table of charges has the right size
pub lookup_charge : (test : List ℕ → Bool) (charges : List (List ℕ × Minor)) → IsTrue (are_charges charges) → IfSome (lookup test charges) (λ m. (0 < m.0) × (m.0 < amount_end))
lookup_charge test [] all = tt
lookup_charge test (c ∷ charges) all = found (test c.0) (is_charge c.1.0) c.1 (are_charges charges) (lookup test charges) refl all (λ h. lookup_charge test charges h)
