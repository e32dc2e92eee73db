-- The accounts of a file that has no fault.
use Rattle.std.proofs.Common.{◌≡◌, ℕ, ◌≤◌, ◌<◌, Bool, true, false, cond, ◌&&◌, ◌==◌, List, [], ◌∷◌, length, map, get_or, take, Option, Some, None, option_map, unwrap_or, is_some, refl, sym, ap, ◌∙◌, arith, inl, inr, ◌≢◌, ◌≤ℤ◌}
use Rattle.std.specs.Prelude.{slice_get, unsigned_abs, IfOk, Result, Ok, Err}
use Rattle.std.specs.Str.{bytes_eq}
use Rattle.std.proofs.lemmas.Bool.Decides.{nat_tests}
use Rattle.std.proofs.Math.Bool.{or-true}
use Rattle.std.specs.List.{All}
use Rattle.std.proofs.lemmas.Bool.{cases_lt}
use Rattle.std.proofs.lemmas.Int.{ints}
use Rattle.std.proofs.lemmas.List.{length-map, get_or-map, get_or-take, length-take-le}
use Rattle.std.proofs.lemmas.Option.{slice_get-map, slice_get-get_or, slice_get_cases, get_or_from_slice_get}
use Rattle.std.proofs.lemmas.Slice.Eq.{bytes_eq-Decides}
use Rattle.corr_text.specs.First.{first_of, unless}
use Rattle.corr_ids.specs.Bic.{bic_of, branch_of, is_bic}
use Rattle.corr_ids.specs.Kinds.{IsSameBank, customer, is_kind}
use Rattle.corr_money.specs.Amounts.{amount_end}
use Rattle.ref_tables.specs.declared.account.AccountRow.{AccountRow}
use Rattle.ref_tables.specs.declared.fault.Why.{Why}
use Rattle.ref_tables.specs.declared.fault.Why.TheVariants as why
use Rattle.ref_tables.specs.Columns.{is_account_id, is_ccy, kind_in_cell, signed_of}
use Rattle.ref_tables.specs.Rows.{Cells, cell, rows_within}
use Rattle.ref_tables.specs.Refusals.{against, value, double, first_bad_row}
use Rattle.ref_tables.specs.Seen.{Tables, has_head, decimals_in}
use Rattle.ref_tables.specs.Accounts.{account_fault, account_of, clashes, form_fault, owner_fits, standing_fault, within_limits}
use Rattle.ref_tables.specs.AccountList.{AreAccounts, IsAccount}
use Rattle.ref_tables.proofs.laws.Fine.{both-none, fine-at, head-none, next-holds, none-meets}
use Rattle.ref_tables.proofs.laws.Records.{rows_within_some}

-- the columns of a row have their forms
pub record Formed (row : Cells) : Type 0 where
  pub id : is_account_id (cell 0 row) ≡ true
  pub kind : is_some (kind_in_cell (cell 1 row)) ≡ true
  pub owner : is_bic (cell 2 row) ≡ true
  pub ccy : is_ccy (cell 3 row) ≡ true

five-hold : (a b c d e : Bool) (f g h i j : Why) (more : List (Option Why)) → first_of (unless a f ∷ unless b g ∷ unless c h ∷ unless d i ∷ unless e j ∷ more) ≡ None
    → (b ≡ true) × (c ≡ true) × (d ≡ true) × (e ≡ true)
five-hold a b c d e f g h i j more none =
    let first = next-holds a f (unless b g ∷ unless c h ∷ unless d i ∷ unless e j ∷ more) none in
    let second = next-holds b g (unless c h ∷ unless d i ∷ unless e j ∷ more) first.1 in
    let third = next-holds c h (unless d i ∷ unless e j ∷ more) second.1 in
    let fourth = next-holds d i (unless e j ∷ more) third.1 in
    let last = next-holds e j more fourth.1 in
    (second.0, third.0, fourth.0, last.0)

pub formed : (row : Cells) → form_fault row ≡ None → Formed row
formed row none =
    let h = five-hold (length row == 7) (is_account_id (cell 0 row)) (is_some (kind_in_cell (cell 1 row))) (is_bic (cell 2 row)) (is_ccy (cell 3 row))
    why.Columns (why.Value 1) (why.Value 2) (why.Value 3) (why.Value 4)
    (value 5 (is_some (signed_of (cell 4 row))) ∷ value 6 (is_some (signed_of (cell 5 row))) ∷ value 7 (is_some (signed_of (cell 6 row))) ∷ []) none in
    record { id = h.0; kind = h.1; owner = h.2; ccy = h.3 }

-- an account stands beside those before it
record Stands (home : List ℕ) (t : Tables) (earlier : List AccountRow) (a : AccountRow) : Type 0 where
  pub alone : double (clashes a) earlier ≡ None
  pub owner : (has_head t a.owner.head && owner_fits home a) ≡ true
  pub ccy : is_some (decimals_in t a.ccy.0) ≡ true
  pub limits : within_limits a ≡ true

stands : (home : List ℕ) (t : Tables) (earlier : List AccountRow) (a : AccountRow) → standing_fault home t earlier a ≡ None → Stands home t earlier a
stands home t earlier a e =
    let first = head-none _ _ e in
    let second = next-holds _ _ _ first.1 in
    let third = next-holds _ _ _ second.1 in
    let last = next-holds _ _ _ third.1 in
    record { alone = first.0; owner = second.0; ccy = third.0; limits = last.0 }

kind-is : (bs : List ℕ) → is_some (kind_in_cell bs) ≡ true → is_kind (unwrap_or (kind_in_cell bs) 0) ≡ true
kind-is [] e = absurd (cc e)
kind-is (b ∷ []) e = go (is_kind b) refl e
  where
    go : (r : Bool) → is_kind b ≡ r → is_some (cond r (Some b) None) ≡ true → is_kind (unwrap_or (cond r (Some b) None) 0) ≡ true
    go true h f = h
    go false h f = absurd (cc f)
kind-is (b ∷ c ∷ bs) e = absurd (cc e)

some-is : {A : Type 0} (o : Option A) (d : A) → is_some o ≡ true → o ≡ Some (unwrap_or o d)
some-is None d e = absurd (cc e)
some-is (Some x) d e = refl

and-parts : (a b : Bool) → (a && b) ≡ true → (a ≡ true) × (b ≡ true)
and-parts a b e = grind (arith, nat_tests)

-- the sizes and the order of an account's numbers
record Limited (a : AccountRow) : Type 0 where
  pub floor_small : unsigned_abs a.floor < amount_end
  pub ceil_small : unsigned_abs a.ceil < amount_end
  pub opening_small : unsigned_abs a.opening < amount_end
  pub above_floor : a.floor ≤ℤ a.opening
  pub below_ceil : a.opening ≤ℤ a.ceil

limited : (a : AccountRow) → within_limits a ≡ true → Limited a
limited a e = record {
  floor_small = grind (arith, nat_tests);
  ceil_small = grind (arith, nat_tests);
  opening_small = grind (arith, nat_tests);
  above_floor = grind (arith, ints, nat_tests);
  below_ceil = grind (arith, ints, nat_tests);
}

-- a BIC is the text that spells it
spelled : (text : List ℕ) → is_bic text ≡ true → bic_of text ≡ Some (record { head = take 8 text; branch = branch_of text })
spelled text e = rw e refl

-- the account of a row whose parts are right
is-account : (home : List ℕ) (t : Tables) (row : Cells) → Formed row → Limited (account_of t row) → (has_head t (account_of t row).owner.head && owner_fits home (account_of t row)) ≡ true
    → is_some (decimals_in t (cell 3 row)) ≡ true → (account_of t row).decimals ≤ 4 → IsAccount home t (account_of t row)
is-account home t row form limits owner ccy few =
    let known = and-parts _ _ owner in
    record {
      id = form.id;
      kind = (kind-is (cell 1 row) form.kind);
      owner = (cell 2 row, spelled (cell 2 row) form.owner);
      owner_known = known.0;
      owner_fit = known.1;
      ccy = form.ccy;
      decimals = some-is (decimals_in t (cell 3 row)) 0 ccy;
      few_decimals = few;
      floor_small = limits.floor_small;
      ceil_small = limits.ceil_small;
      opening_small = limits.opening_small;
      above_floor = limits.above_floor;
      below_ceil = limits.below_ceil;
    }

-- the account of a row that fails no test
pub row-is-account : (home : List ℕ) (t : Tables) (earlier : List AccountRow) (row : Cells) → account_fault home t earlier row ≡ None → (account_of t row).decimals ≤ 4
    → IsAccount home t (account_of t row)
row-is-account home t earlier row fine few =
    let parts = both-none _ _ fine in
    let s = stands home t earlier (account_of t row) parts.1 in
    is-account home t row (formed row parts.0) (limited _ s.limits) s.owner s.ccy few

-- accounts that clash
same-bytes : (xs ys : List ℕ) → xs ≡ ys → bytes_eq xs ys ≡ true
same-bytes xs ys e = (bytes_eq-Decides xs ys).1 e

clash-ids : (a b : AccountRow) → a.id ≡ b.id → clashes b a ≡ true
clash-ids a b same = rw (same-bytes b.id a.id (sym same)) refl

differ : (m n k : ℕ) → m ≢ n → m ≡ k → (k == n) ≡ false
differ m n k other same = grind (arith, nat_tests)

equal : (m n : ℕ) → m ≡ n → (n == m) ≡ true
equal m n e = grind (arith, nat_tests)

clash-relations : (a b : AccountRow) → IsSameBank a.kind a.owner.head a.ccy.0 b.kind b.owner.head b.ccy.0 → clashes b a ≡ true
clash-relations a b same =
    let kind = differ a.kind customer b.kind same.bank same.kinds in
    let kinds = equal a.kind b.kind same.kinds in
    let heads = same-bytes b.owner.head a.owner.head (sym same.heads) in
    let ccys = same-bytes b.ccy.0 a.ccy.0 (sym same.ccys) in
    rw (kind, kinds, heads, ccys) (or-true _)

module _ (home : List ℕ) (t : Tables) (rows : List Cells) (fine : first_bad_row (against (account_of t) (account_fault home t)) [] rows ≡ None) where
  -- each row fails no test
  row-fine : (i : ℕ) (d : Cells) → i < length rows → account_fault home t (map (account_of t) (take i rows)) (get_or rows i d) ≡ None
  row-fine i d lt = fine-at (against (account_of t) (account_fault home t)) [] rows i d fine lt

  -- no two rows give accounts that clash
  apart : (i j : ℕ) (d : Cells) → i < j → j < length rows → clashes (account_of t (get_or rows j d)) (account_of t (get_or rows i d)) ≡ false
  apart i j d lt end =
      let s = stands home t (map (account_of t) (take j rows)) (account_of t (get_or rows j d)) ((both-none _ _ (row-fine j d end)).1) in
      let short : i < length (take j rows) = omega (arith, length-take-le j rows (omega arith)) in
      let before : i < length (map (account_of t) (take j rows)) = simp length-map short in
      let met = none-meets (clashes (account_of t (get_or rows j d))) (map (account_of t) (take j rows)) i (account_of t d) s.alone before in
      rw (get_or-map (account_of t) (take j rows) i d (account_of t d) short, get_or-take j rows i d lt) at met

  stands-at : (i : ℕ) (d : Cells) → i < length rows → (account_of t (get_or rows i d)).decimals ≤ 4 → IsAccount home t (account_of t (get_or rows i d))
  stands-at i d lt few = row-is-account home t (map (account_of t) (take i rows)) (get_or rows i d) (row-fine i d lt) few

  -- the row of an account
  row-of : (i : ℕ) (a : AccountRow) → slice_get (map (account_of t) rows) i ≡ Some a → (i < length rows) × (a ≡ account_of t (get_or rows i []))
  row-of i a e = elim ((slice_get_cases rows i).1) [
    | inl (x, lt, is, at) ↦ (lt, cc (sym e ∙ slice_get-map (account_of t) rows i ∙ ap (option_map (account_of t)) (slice_get-get_or rows i [] lt)))
    | inr (past, none) ↦ absurd (cc (sym e ∙ slice_get-map (account_of t) rows i ∙ ap (option_map (account_of t)) none))
  ]

  never : (b : Bool) → b ≡ true → b ≡ false → ⊥
  never b holds fails = cc (sym holds ∙ fails)

  -- accounts that clash are one
  one : (i j : ℕ) (a b : AccountRow) → slice_get (map (account_of t) rows) i ≡ Some a → slice_get (map (account_of t) rows) j ≡ Some b → clashes a b ≡ true → clashes b a ≡ true → i ≡ j
  one i j a b at-i at-j first second =
      let x = row-of i a at-i in
      let y = row-of j b at-j in
      elim (cases_lt i j) [
        | inl before ↦ absurd (never _ (rw (x.1, y.1) at second) (apart i j [] before y.0))
        | inr after ↦ elim (cases_lt j i) [
          | inl before ↦ absurd (never _ (rw (x.1, y.1) at first) (apart j i [] before x.0))
          | inr same ↦ omega arith
        ]
      ]

same-bank-back : (kind : ℕ) (head ccy : List ℕ) (other_kind : ℕ) (other_head other_ccy : List ℕ) → IsSameBank kind head ccy other_kind other_head other_ccy → IsSameBank other_kind other_head other_ccy kind head ccy
same-bank-back kind head ccy other_kind other_head other_ccy same =
    record { bank = λ c. same.bank (same.kinds ∙ c); kinds = sym same.kinds; heads = sym same.heads; ccys = sym same.ccys }

decimals-from : (t : Tables) (row : Cells) (a : AccountRow) → a ≡ account_of t row → a.decimals ≡ unwrap_or (decimals_in t a.ccy.0) 0
decimals-from t row a e = rw e refl

-- what holds of the accounts of rows without a fault
pub are-accounts : (home : List ℕ) (t : Tables) (rows : List Cells) → length rows ≤ 1000 → first_bad_row (against (account_of t) (account_fault home t)) [] rows ≡ None
    → All (λ a. a.decimals ≤ 4) (map (account_of t) rows) → AreAccounts home t (map (account_of t) rows)
are-accounts home t rows few fine small =
    record {
      few = simp length-map few;
      each = λ i a at.
          let x = row-of home t rows fine i a at in
          let digits : a.decimals ≤ 4 = rw (get_or_from_slice_get (map (account_of t) rows) i a a at) at (small i a (simp length-map x.0)) in
          rw x.1 (stands-at home t rows fine i [] x.0 (rw x.1 at digits));
      ids = λ i j a b at-i at-j same. one home t rows fine i j a b at-i at-j (clash-ids b a (sym same)) (clash-ids a b same);
      relations = λ i j a b at-i at-j same. one home t rows fine i j a b at-i at-j (clash-relations b a (same-bank-back a.kind a.owner.head a.ccy.0 b.kind b.owner.head b.ccy.0 same)) (clash-relations a b same);
      decimals = λ i j a b at-i at-j same.
          decimals-from t _ a ((row-of home t rows fine i a at-i).1) ∙ ap (λ c. unwrap_or (decimals_in t c.0) 0) same ∙ sym (decimals-from t _ b ((row-of home t rows fine j b at-j).1));
    }

-- what was read of a file
pub read-are-accounts : {V E : Type 0} (items_of : V → List AccountRow) (home : List ℕ) (t : Tables) (file : List ℕ) (rows : List Cells) (r : Result V E) → Some rows ≡ rows_within 1000 file
    → IfOk r (λ v. (first_bad_row (against (account_of t) (account_fault home t)) [] rows ≡ None) × (items_of v ≡ map (account_of t) rows) × All (λ a. a.decimals ≤ 4) (items_of v))
    → IfOk r (λ v. AreAccounts home t (items_of v))
read-are-accounts items_of home t file rows (Ok v) e (fine, items, small) =
    let within = rows_within_some 1000 file rows e in
    rw items (are-accounts home t rows within.1 fine (rw items at small))
read-are-accounts items_of home t file rows (Err f) e h = tt
