-- A reader of rows with commas reads the cells that were written, whatever they are, and of an entry's row its fourteen.
use Rattle.std.proofs.Common.{◌≡◌, ℕ, ◌-◌, ◌<◌, ◌==◌, true, false, List, [], ◌∷◌, ◌++◌, length, Option, inl, inr, refl, sym, ap, ◌∙◌, subst, arith, append_assoc}
use Rattle.std.proofs.Common.{eqb-true, length-append}
use Rattle.std.specs.Prelude.{slice_get}
use Rattle.std.specs.List.{flat_map, list_all}
use Rattle.std.proofs.lemmas.Bool.{and_parts, cases_Bool, cond-false}
use Rattle.std.proofs.lemmas.Bool.Decides.{nat_tests}
use Rattle.std.proofs.lemmas.List.{append-nil}
use Rattle.std.proofs.lemmas.Option.{slice_get_cases}
use Rattle.corr_report.specs.Lines.{said}
use Rattle.corr_report.specs.inner.Outcomes.{NamesLeg}
use Rattle.corr_report.proofs.laws.FailingLeg.{names_leg}
use Rattle.corr_text.specs.Digits.{padded}
use Rattle.day_model.specs.Chart.{Chart, account_at}
use Rattle.day_model.specs.declared.account.Account.{Account}
use Rattle.day_model.specs.declared.entry.Outcome.{Outcome}
use Rattle.day_model.specs.declared.entry.Outcome.TheVariants.{Booked, Unfunded}
use Rattle.day_model.specs.declared.pay.Leg.{Leg}
use Rattle.day_model.specs.declared.pay.Pay.{Pay}
use Rattle.day_model.proofs.laws.Fitting.{LegsFit, fitting, leg_sound, listed_account}
use Rattle.day_model.proofs.laws.Fronts.{fits_now}
use Rattle.desk_rows.specs.Csv.{doubled, is_bare, next_cells, pointed, quoted, row_end, signed_pointed}
use Rattle.desk_rows.specs.Entries.{cell_of, credit_cells, credit_place, debit_cells, fee_cells, fee_place, leg_cells, money_cells, name_cells, outcome_cells, sign_of, stamp_cells, theirs_of, uetr_text}
use Rattle.desk_rows.specs.Reading.{EntriesReadBack, ReadsRow, RowsReadBack, between, cells_from, past, plain, rest_from}
use Rattle.desk_rows.proofs.Quoted.{bare_itself, other_quoted}
use Rattle.desk_rows.proofs.laws.Plain.{AreBare}

-- ---- one cell

bare_comma : (b : ℕ) → is_bare b ≡ true → (b == 44) ≡ false
bare_comma b bare = grind (arith, nat_tests)

bare_end : (b : ℕ) → is_bare b ≡ true → (b == 13) ≡ false
bare_end b bare = grind (arith, nat_tests)

bare_quote : (b : ℕ) → is_bare b ≡ true → (b == 34) ≡ false
bare_quote b bare = grind (arith, nat_tests)

-- a byte that needs no quotes is read as itself
byte_on : (b : ℕ) (bs cell : List ℕ) → is_bare b ≡ true → cells_from plain cell (b ∷ bs) ≡ cells_from plain (cell ++ b ∷ []) bs
byte_on b bs cell bare = rw (bare_comma b bare, bare_end b bare, bare_quote b bare) refl

-- so is a text of such
plain_on : (text rest cell : List ℕ) → AreBare text → cells_from plain cell (text ++ rest) ≡ cells_from plain (cell ++ text) rest
plain_on [] rest cell bare = ap (λ (c : List ℕ). cells_from plain c rest) (sym (append-nil cell))
plain_on (b ∷ bs) rest cell bare =
    let parts = and_parts (is_bare b) (list_all is_bare bs) bare in
    byte_on b (bs ++ rest) cell parts.0 ∙ plain_on bs rest (cell ++ b ∷ []) parts.1 ∙ ap (λ (c : List ℕ). cells_from plain c rest) (append_assoc cell (b ∷ []) bs)

-- between quotes each byte but a quote is read as itself
other_on : (b : ℕ) (bs cell : List ℕ) → (b == 34) ≡ false → cells_from between cell (b ∷ bs) ≡ cells_from between (cell ++ b ∷ []) bs
other_on b bs cell other = cond-false (b == 34) (cells_from past cell bs) (cells_from between (cell ++ b ∷ []) bs) other

-- a text with its quotes doubled is read as itself, up to the quote that ends it
doubled_on : (text rest cell : List ℕ) → cells_from between cell (flat_map doubled text ++ 34 ∷ rest) ≡ cells_from past (cell ++ text) rest
doubled_on [] rest cell = ap (λ (c : List ℕ). cells_from past c rest) (sym (append-nil cell))
doubled_on (b ∷ bs) rest cell =
    elim (cases_Bool (b == 34)) [
      | inl quote ↦
          subst (λ (x : ℕ). cells_from between cell (flat_map doubled (x ∷ bs) ++ 34 ∷ rest) ≡ cells_from past (cell ++ x ∷ bs) rest) (sym (eqb-true b 34 quote))
          (doubled_on bs rest (cell ++ 34 ∷ []) ∙ ap (λ (c : List ℕ). cells_from past c rest) (append_assoc cell (34 ∷ []) bs))
      | inr other ↦
          ap (λ (bytes : List ℕ). cells_from between cell ((bytes ++ flat_map doubled bs) ++ 34 ∷ rest)) (cond-false (b == 34) (34 ∷ 34 ∷ []) (b ∷ []) other)
          ∙ other_on b (flat_map doubled bs ++ 34 ∷ rest) cell other
          ∙ doubled_on bs rest (cell ++ b ∷ []) ∙ ap (λ (c : List ℕ). cells_from past c rest) (append_assoc cell (b ∷ []) bs)
    ]

-- so is what follows, which a reader finds where it goes on
byte_rest : (b : ℕ) (bs : List ℕ) → is_bare b ≡ true → rest_from plain (b ∷ bs) ≡ rest_from plain bs
byte_rest b bs bare = rw (bare_comma b bare, bare_end b bare, bare_quote b bare) refl

plain_rest : (text tail : List ℕ) → AreBare text → rest_from plain (text ++ tail) ≡ rest_from plain tail
plain_rest [] tail bare = refl
plain_rest (b ∷ bs) tail bare =
    let parts = and_parts (is_bare b) (list_all is_bare bs) bare in
    byte_rest b (bs ++ tail) parts.0 ∙ plain_rest bs tail parts.1

other_rest : (b : ℕ) (bs : List ℕ) → (b == 34) ≡ false → rest_from between (b ∷ bs) ≡ rest_from between bs
other_rest b bs other = cond-false (b == 34) (rest_from past bs) (rest_from between bs) other

doubled_rest : (text tail : List ℕ) → rest_from between (flat_map doubled text ++ 34 ∷ tail) ≡ rest_from past tail
doubled_rest [] tail = refl
doubled_rest (b ∷ bs) tail =
    elim (cases_Bool (b == 34)) [
      | inl quote ↦
          subst (λ (x : ℕ). rest_from between (flat_map doubled (x ∷ bs) ++ 34 ∷ tail) ≡ rest_from past tail) (sym (eqb-true b 34 quote))
          (doubled_rest bs tail)
      | inr other ↦
          ap (λ (bytes : List ℕ). rest_from between ((bytes ++ flat_map doubled bs) ++ 34 ∷ tail)) (cond-false (b == 34) (34 ∷ 34 ∷ []) (b ∷ []) other)
          ∙ other_rest b (flat_map doubled bs ++ 34 ∷ tail) other ∙ doubled_rest bs tail
    ]

-- what ends a cell: the cells after it, and what follows the row
record Ends (tail : List ℕ) (cells : List (List ℕ)) (more : List ℕ) : Type 0 where
  pub of_plain : (cell : List ℕ) → cells_from plain cell tail ≡ cell ∷ cells
  pub of_past : (cell : List ℕ) → cells_from past cell tail ≡ cell ∷ cells
  pub rest_plain : rest_from plain tail ≡ more
  pub rest_past : rest_from past tail ≡ more

-- a cell is read as the text that it was written of
cell_on : (text tail : List ℕ) (cells : List (List ℕ)) (more : List ℕ) → Ends tail cells more → ReadsRow (quoted text ++ tail) (text ∷ cells) more
cell_on text tail cells more ends =
    elim (cases_Bool (list_all is_bare text)) [
      | inl bare ↦
          let same : quoted text ≡ text = bare_itself text bare in (
            ap (λ (t : List ℕ). cells_from plain [] (t ++ tail)) same ∙ plain_on text tail [] bare ∙ ends.of_plain text,
            ap (λ (t : List ℕ). rest_from plain (t ++ tail)) same ∙ plain_rest text tail bare ∙ ends.rest_plain,
          )
      | inr other ↦
          let same = other_quoted text other in (
            ap (λ (t : List ℕ). cells_from plain [] (t ++ tail)) same
                ∙ ap (λ (bs : List ℕ). cells_from between [] bs) (append_assoc (flat_map doubled text) (34 ∷ []) tail)
                ∙ doubled_on text tail [] ∙ ends.of_past text,
            ap (λ (t : List ℕ). rest_from plain (t ++ tail)) same
                ∙ ap (λ (bs : List ℕ). rest_from between bs) (append_assoc (flat_map doubled text) (34 ∷ []) tail)
                ∙ doubled_rest text tail ∙ ends.rest_past,
          )
    ]

-- ---- a row

row_on : (cell : List ℕ) (cells : List (List ℕ)) (more : List ℕ) → ReadsRow (quoted cell ++ (next_cells cells ++ (row_end ++ more))) (cell ∷ cells) more
row_on cell [] more = cell_on cell (row_end ++ more) [] more (record { of_plain = λ c. refl; of_past = λ c. refl; rest_plain = refl; rest_past = refl })
row_on cell (next ∷ cells) more =
    let later : ReadsRow (quoted next ++ (next_cells cells ++ (row_end ++ more))) (next ∷ cells) more = row_on next cells more in
    let whole = cell_on cell (44 ∷ (quoted next ++ (next_cells cells ++ (row_end ++ more)))) (next ∷ cells) more (record {
      of_plain = λ c. ap (λ (cs : List (List ℕ)). c ∷ cs) later.0;
      of_past = λ c. ap (λ (cs : List (List ℕ)). c ∷ cs) later.0;
      rest_plain = later.1;
      rest_past = later.1;
    }) in
    subst (λ (bs : List ℕ). ReadsRow (quoted cell ++ bs) (cell ∷ next ∷ cells) more) (sym (append_assoc (44 ∷ quoted next) (next_cells cells) (row_end ++ more))) whole

-- whatever cells are written and whatever follows them, they are read
pub rows_read_back : RowsReadBack
rows_read_back cell cells more =
    subst (λ (bs : List ℕ). ReadsRow bs (cell ∷ cells) more)
    (sym (append_assoc (quoted cell ++ next_cells cells) row_end more ∙ append_assoc (quoted cell) (next_cells cells) (row_end ++ more))) (row_on cell cells more)

-- ---- the cells of an entry

leg_count : (chart : Chart) (legs : List Leg) (k n : ℕ) (cells : Account → Leg → List (List ℕ)) → LegsFit chart legs → k < length legs
    → ((account : Account) (leg : Leg) → length (cells account leg) ≡ n) → length (leg_cells chart legs k cells) ≡ n
leg_count chart legs k n cells fit there sizes =
    elim (slice_get_cases legs k).1 [
      | inl found ↦
          let leg = found.0 in
          let (account, at) = listed_account chart leg.account.0 (leg_sound chart legs k leg fit found.2).listed in
          ap (λ (o : Option Leg). length (said o (λ l. said (account_at chart l.account.0) (λ a. cells a l)))) found.2
          ∙ ap (λ (o : Option Account). length (said o (λ a. cells a leg))) at ∙ sizes account leg
      | inr none ↦ absurd (omega (arith, none.0, there))
    ]

-- a leg, or an empty cell where there is none
one_cell : (chart : Chart) (legs : List Leg) (k : ℕ) (cell : Account → Leg → List ℕ) → LegsFit chart legs → length (cell_of chart (slice_get legs k) cell) ≡ 1
one_cell chart legs k cell fit =
    elim (slice_get_cases legs k).1 [
      | inl found ↦
          let leg = found.0 in
          let (account, at) = listed_account chart leg.account.0 (leg_sound chart legs k leg fit found.2).listed in
          ap (λ (o : Option Leg). length (cell_of chart o cell)) found.2 ∙ ap (λ (o : Option Account). length (said o (λ a. cell a leg ∷ []))) at
      | inr none ↦ ap (λ (o : Option Leg). length (cell_of chart o cell)) none.1
    ]

money_count : (chart : Chart) (legs : List Leg) → LegsFit chart legs → length (money_cells chart legs) ≡ 5
money_count chart legs fit =
    let debit = leg_cells chart legs 0 (debit_cells legs) in
    let credit = credit_cells chart legs in
    let fee = fee_cells chart legs in
    let debits : length debit ≡ 3 = leg_count chart legs 0 3 (debit_cells legs) fit (omega (arith, fit.many)) (λ account leg. refl) in
    let credits : length credit ≡ 1 = one_cell chart legs (credit_place legs) (λ account leg. account.id) fit in
    let fees : length fee ≡ 1 = one_cell chart legs (fee_place legs) (λ account leg. sign_of leg.side ++ pointed account.decimals leg.amount.0) fit in
    omega (arith, length-append (debit ++ credit) fee, length-append debit credit, debits, credits, fees)

name_count : (chart : Chart) (pay : Pay) → LegsFit chart pay.legs → length (name_cells pay) ≡ 2
name_count chart pay fit =
    elim (slice_get_cases pay.legs 0).1 [
      | inl found ↦ ap (λ (o : Option Leg). length (said o (λ leg. theirs_of leg.quote ∷ []) ++ uetr_text pay.uetr ∷ [])) found.2
      | inr none ↦ let many = fit.many in absurd (omega (arith, none.0, many))
    ]

outcome_count : (chart : Chart) (legs : List Leg) (outcome : Outcome) → LegsFit chart legs → NamesLeg (length legs) outcome → length (outcome_cells chart legs outcome) ≡ 2
outcome_count chart legs Booked fit names = refl
outcome_count chart legs (Unfunded k balance) fit names =
    let one = leg_count chart legs (k - 1) 1 (λ account leg. signed_pointed account.decimals balance ∷ []) fit (omega (arith, names.0, names.1)) (λ account leg. refl) in
    omega (arith, one)

fourteen : (place : List ℕ) (stamp names money outcome : List (List ℕ)) → length stamp ≡ 4 → length names ≡ 2 → length money ≡ 5 → length outcome ≡ 2
    → length (place ∷ stamp ++ names ++ money ++ outcome) ≡ 14
fourteen place stamp names money outcome s n m o =
    omega (arith, length-append (stamp ++ names ++ money) outcome, length-append (stamp ++ names) money, length-append stamp names, s, n, m, o)

pub entries_read_back : EntriesReadBack
entries_read_back chart entries i place entry more legal at =
    let legs = entry.pay.legs in
    let fit = fitting chart legs (fits_now chart entries i entry legal at) in
    let stamp = stamp_cells entry in
    let names = name_cells entry.pay in
    let money = money_cells chart legs in
    let outcome = outcome_cells chart legs entry.outcome in (
      rows_read_back (padded 8 place) (stamp ++ names ++ money ++ outcome) more,
      fourteen (padded 8 place) stamp names money outcome refl (name_count chart entry.pay fit) (money_count chart legs fit)
          (outcome_count chart legs entry.outcome fit (names_leg chart entries i entry legal at)),
    )
