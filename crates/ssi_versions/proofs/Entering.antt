-- A row more in the index, and the one place that a test of a day finds.
use Rattle.std.proofs.Common.{◌≡◌, ◌⊎◌, ℕ, zero, suc, ◌+◌, ◌-◌, ◌≤◌, ◌<◌, Bool, true, false, cond, ◌&&◌, List, [], ◌∷◌, ◌++◌, length, get_or, Option, Some, None, refl, sym, ap, ◌∙◌, subst, arith, inl, inr, ◌≤ℤ◌}
use Rattle.std.specs.Prelude.{All, Contains, filter, find, position, slice_get}
use Rattle.std.specs.List.{insert, list_any}
use Rattle.std.specs.List.Sorted.{IsPartitionPoint, IsPermutation}
use Rattle.std.specs.Option.{option_and_then, option_map_or}
use Rattle.std.specs.Str.{bytes_eq}
use Rattle.std.proofs.lemmas.Bool.{cases_lt}
use Rattle.std.proofs.lemmas.Bool.Decides.{nat_tests}
use Rattle.std.proofs.lemmas.Int.{ints}
use Rattle.std.proofs.lemmas.List.{get_or-append_right, get_or_append_left, get_or_default, length-append}
use Rattle.std.proofs.lemmas.List.Elements.{All-cons, All-push}
use Rattle.std.proofs.lemmas.Option.{slice_get-get_or, slice_get_cases}
use Rattle.std.proofs.lemmas.List.Folds.{list_any_at}
use Rattle.std.proofs.lemmas.List.Sorted.{All-permutation, Contains-permutation, IsPermutation-insert, IsPermutation-sym, list_any-IsPermutation}
use Rattle.std.proofs.lemmas.List.Edits.{get_or-insert_above, get_or-insert_at, get_or-insert_below, length-insert}
use Rattle.corr_ids.specs.declared.day.Day.{Day}
use Rattle.corr_money.specs.declared.amount.Ccy.{Ccy}
use Rattle.ssi_versions.specs.declared.row.SsiRow.{SsiRow}
use Rattle.ssi_versions.specs.Index.{HasSpan, IsInDayOrder, has_bank_key, key_by_bank, places_where, row_by}
use Rattle.ssi_versions.specs.inner.Index.{has_begun, holds_at}
use Rattle.ssi_versions.specs.Instruction.{is_asked, is_in_force, naming}
use Rattle.ssi_versions.specs.Rows.{overlaps, shares_a_day}
use Rattle.ssi_versions.proofs.Order.{At, at, find-none, holds}
use Rattle.ssi_versions.proofs.Places.{asked_row, first_place, overlaps-key}

-- what is found stands in the list and passes
found : {A : Type 0} (test : A → Bool) (xs : List A) (x : A) → find test xs ≡ Some x → Contains xs x × (test x ≡ true)
found test [] x e = absurd (cc e)
found test (y ∷ ys) x e = go (test y) refl (λ f. found test ys x f) e
  where
    go : (b : Bool) → test y ≡ b → (find test ys ≡ Some x → Contains ys x × (test x ≡ true)) → cond b (Some y) (find test ys) ≡ Some x → Contains (y ∷ ys) x × (test x ≡ true)
    go true is later e =
        let same : y ≡ x = cc e in
        ((0, omega arith, same), subst (λ z. test z ≡ true) same is)
    go false is later e =
        let rest = later e in
        ((suc rest.0.0, omega (arith, rest.0.1), rest.0.2), rest.1)

-- where none is found, none passes
missed-at : {A : Type 0} (test : A → Bool) (xs : List A) → find test xs ≡ None → (k : ℕ) (d : A) → k < length xs → test (get_or xs k d) ≡ false
missed-at test [] e k d lt = absurd (omega (arith, lt))
missed-at test (y ∷ ys) e k d lt = go (test y) refl (λ f i less. missed-at test ys f i d less) e k lt
  where
    go : (b : Bool) → test y ≡ b → (find test ys ≡ None → (i : ℕ) → i < length ys → test (get_or ys i d) ≡ false) → cond b (Some y) (find test ys) ≡ None
        → (k : ℕ) → k < length (y ∷ ys) → test (get_or (y ∷ ys) k d) ≡ false
    go true is later e k lt = absurd (cc e)
    go false is later e zero lt = is
    go false is later e (suc k) lt = later e k (omega (arith, lt))

missed : {A : Type 0} (test : A → Bool) (xs : List A) (x : A) → find test xs ≡ None → Contains xs x → test x ≡ false
missed test xs x e here = subst (λ y. test y ≡ false) here.2 (missed-at test xs e here.0 x here.1)

-- where at most one passes, the order is all the same
pub find-permuted : (test : ℕ → Bool) (ps qs : List ℕ) → IsPermutation ps qs → ((p q : ℕ) → Contains qs p → Contains qs q → test p ≡ true → test q ≡ true → p ≡ q) → find test qs ≡ find test ps
find-permuted test ps qs moved one = go (find test qs) (find test ps) refl refl
  where
    go : (o r : Option ℕ) → find test qs ≡ o → find test ps ≡ r → o ≡ r
    go None None e f = refl
    go (Some q) (Some p) e f =
        let x = found test qs q e in
        let y = found test ps p f in
        ap (λ (i : ℕ). Some i) (one q p x.0 (Contains-permutation ps qs p moved y.0) x.1 y.1)
    go (Some q) None e f =
        let x = found test qs q e in
        absurd (cc (sym x.1 ∙ missed test ps q f (Contains-permutation qs ps q (IsPermutation-sym ps qs moved) x.0)))
    go None (Some p) e f =
        let y = found test ps p f in
        absurd (cc (sym y.1 ∙ missed test qs p e (Contains-permutation ps qs p moved y.0)))

not-both : (ccy : Ccy) (bank : List ℕ) (day : Day) (a b : SsiRow) → a.until.0 ≤ℤ b.from.0 → is_asked ccy bank day a ≡ true → is_asked ccy bank day b ≡ true → ⊥
not-both ccy bank day a b rise e f = grind (arith, ints, nat_tests)

-- of places in the order of days one at most is asked for
pub one-asked : (ccy : Ccy) (bank : List ℕ) (day : Day) (rows : List SsiRow) (places : List ℕ) → IsInDayOrder rows places
    → (p q : ℕ) → Contains places p → Contains places q → holds_at (is_asked ccy bank day) rows p ≡ true → holds_at (is_asked ccy bank day) rows q ≡ true → p ≡ q
one-asked ccy bank day rows places order p q (i, li, at-i) (j, lj, at-j) e f =
    let asked = is_asked ccy bank day in
    let a = at rows places order i p li in
    let b = at rows places order j q lj in
    let asked-a : asked a.row ≡ true = sym (holds rows places order asked i p a) ∙ ap (holds_at asked rows) at-i ∙ e in
    let asked-b : asked b.row ≡ true = sym (holds rows places order asked j q b) ∙ ap (holds_at asked rows) at-j ∙ f in
    elim (cases_lt i j) [
      | inl less ↦ absurd (not-both ccy bank day a.row b.row (order.rise i j a.row b.row less a.by b.by) asked-a asked-b)
      | inr more ↦ elim (cases_lt j i) [
        | inl less ↦ absurd (not-both ccy bank day b.row a.row (order.rise j i b.row a.row less b.by a.by) asked-b asked-a)
        | inr same ↦
            let one : i ≡ j = omega arith in
            sym at-i ∙ ap (λ (k : ℕ). get_or places k p) one ∙ get_or_default places j p q lj ∙ at-j
      ]
    ]

-- the row that a look-up by places in the order of days finds
pub asked_in_order : (ccy : Ccy) (bank : List ℕ) (day : Day) (rows : List SsiRow) (places : List ℕ) → IsInDayOrder rows places
    → IsPermutation (places_where (has_bank_key (key_by_bank ccy.0 bank)) 0 rows) places
    → option_and_then (slice_get rows) (find (holds_at (is_asked ccy bank day) rows) places) ≡ naming bank (filter (is_in_force ccy day) rows)
asked_in_order ccy bank day rows places order moved =
    ap (option_and_then (slice_get rows)) (find-permuted (holds_at (is_asked ccy bank day) rows) (places_where (has_bank_key (key_by_bank ccy.0 bank)) 0 rows) places moved (one-asked ccy bank day rows places order))
    ∙ asked_row ccy bank day rows

-- where a test passes nowhere
pub any-at : {A : Type 0} (test : A → Bool) (xs : List A) → list_any test xs ≡ false → (k : ℕ) (d : A) → k < length xs → test (get_or xs k d) ≡ false
any-at test xs none k d lt = go (test (get_or xs k d)) refl
  where
    go : (b : Bool) → test (get_or xs k d) ≡ b → b ≡ false
    go true e = absurd (cc (sym (list_any_at test xs k d lt e) ∙ none))
    go false e = refl

-- what shares no day overlaps nothing
last-fails : (a b c : Bool) → c ≡ false → (a && b && c) ≡ false
last-fails a b c e = grind (arith, nat_tests)

weaker : (row : SsiRow) (rows : List SsiRow) (p : ℕ) → holds_at (shares_a_day row) rows p ≡ false → holds_at (overlaps row) rows p ≡ false
weaker row rows p e = go (slice_get rows p) refl e
  where
    go : (o : Option SsiRow) → slice_get rows p ≡ o → option_map_or (shares_a_day row) o false ≡ false → holds_at (overlaps row) rows p ≡ false
    go None is e = rw is refl
    go (Some x) is e = rw is (last-fails (bytes_eq row.ccy.0 x.ccy.0) (bytes_eq row.bank x.bank) (shares_a_day row x) e)

-- where no row of the key shares a day, none overlaps
pub overlaps-none : (row : SsiRow) (rows : List SsiRow) (places : List ℕ) → IsPermutation (places_where (has_bank_key (key_by_bank row.ccy.0 row.bank)) 0 rows) places
    → list_any (holds_at (shares_a_day row) rows) places ≡ false → position (overlaps row) rows ≡ None
overlaps-none row rows places moved none =
    let ps = places_where (has_bank_key (key_by_bank row.ccy.0 row.bank)) 0 rows in
    let none-ps : list_any (holds_at (shares_a_day row) rows) ps ≡ false = list_any-IsPermutation (holds_at (shares_a_day row) rows) ps places moved ∙ none in
    sym (first_place (has_bank_key (key_by_bank row.ccy.0 row.bank)) (overlaps row) (λ r e. overlaps-key row r e) rows)
    ∙ find-none (holds_at (overlaps row) rows) ps 0 (λ k lt. weaker row rows (get_or ps k 0) (any-at (holds_at (shares_a_day row) rows) ps none-ps k 0 lt))

-- the days of two that don't share one
ends-before : (r x : SsiRow) → HasSpan r → has_begun r.from x ≡ true → shares_a_day r x ≡ false → x.until.0 ≤ℤ r.from.0
ends-before r x span begun apart = grind (arith, ints, nat_tests)

begins-after : (r x : SsiRow) → HasSpan x → has_begun r.from x ≡ false → shares_a_day r x ≡ false → r.until.0 ≤ℤ x.from.0
begins-after r x span waits apart = grind (arith, ints, nat_tests)

-- the row by a place of the list
taken-at : (rows : List SsiRow) (places : List ℕ) (i : ℕ) (a : SsiRow) → row_by rows places i ≡ Some a → (i < length places) × (slice_get rows (get_or places i 0) ≡ Some a)
taken-at rows places i a e = elim ((slice_get_cases places i).1) [
  | inl (p, lt, is, at) ↦ (lt, sym (ap (option_and_then (slice_get rows)) (slice_get-get_or places i 0 lt)) ∙ e)
  | inr (past, none) ↦ absurd (cc (sym e ∙ ap (option_and_then (slice_get rows)) none))
]

by-at : (rows : List SsiRow) (places : List ℕ) (i : ℕ) (a : SsiRow) → i < length places → slice_get rows (get_or places i 0) ≡ Some a → row_by rows places i ≡ Some a
by-at rows places i a lt e = ap (option_and_then (slice_get rows)) (slice_get-get_or places i 0 lt) ∙ e

-- a row at the end of the table leaves the rows of places before it
module _ (rows : List SsiRow) (r : SsiRow) (places : List ℕ) (span : HasSpan r) (order : IsInDayOrder rows places) where
  earlier : (p : ℕ) → p < length rows → slice_get (rows ++ r ∷ []) p ≡ slice_get rows p
  earlier p lt =
      slice_get-get_or (rows ++ r ∷ []) p r (omega (arith, lt, length-append rows (r ∷ []))) ∙ ap (λ (x : SsiRow). Some x) (get_or_append_left rows (r ∷ []) r p lt) ∙ sym (slice_get-get_or rows p r lt)

  by-earlier : (i : ℕ) (a : SsiRow) → row_by (rows ++ r ∷ []) places i ≡ Some a → row_by rows places i ≡ Some a
  by-earlier i a e =
      let t = taken-at (rows ++ r ∷ []) places i a e in
      by-at rows places i a t.0 (sym (earlier (get_or places i 0) (order.inside i 0 t.0)) ∙ t.1)

  last : slice_get (rows ++ r ∷ []) (length rows) ≡ Some r
  last = slice_get-get_or (rows ++ r ∷ []) (length rows) r (omega (arith, length-append rows (r ∷ []))) ∙ ap (λ (x : SsiRow). Some x) (get_or-append_right rows (r ∷ []) (length rows) (length rows) r refl (omega arith) ∙ first)
    where
      first : get_or (r ∷ []) (length rows - length rows) r ≡ r
      first =
          let none : length rows - length rows ≡ 0 = omega arith in
          ap (λ (k : ℕ). get_or (r ∷ []) k r) none

  -- it changes nothing for the places of another key
  pub order-kept : IsInDayOrder (rows ++ r ∷ []) places
  order-kept = record {
    spans = All-push HasSpan rows r order.spans span;
    inside = λ k d lt. let within = order.inside k d lt in omega (arith, within, length-append rows (r ∷ []));
    rise = λ i j a b less at-i at-j. order.rise i j a b less (by-earlier i a at-i) (by-earlier j b at-j);
  }

  module _ (n : ℕ) (bound : n ≤ length places)
      (point : IsPartitionPoint (λ p. holds_at (has_begun r.from) rows p ≡ true) (λ p. holds_at (has_begun r.from) rows p ≡ false) places n)
      (apart : (k d : ℕ) → k < length places → holds_at (shares_a_day r) rows (get_or places k d) ≡ false) where
    -- the rows of the places below n end before it, those from n on begin after it
    low : (k d : ℕ) (x : At rows places order k d) → k < n → x.row.until.0 ≤ℤ r.from.0
    low k d x lt =
        ends-before r x.row span (sym (holds rows places order (has_begun r.from) k d x) ∙ point.0 k d (omega arith) lt)
        (sym (holds rows places order (shares_a_day r) k d x) ∙ apart k d (omega (arith, lt, bound)))

    high : (k d : ℕ) (x : At rows places order k d) → n ≤ k → k < length places → r.until.0 ≤ℤ x.row.from.0
    high k d x le lt =
        begins-after r x.row x.span (sym (holds rows places order (has_begun r.from) k d x) ∙ point.1 k d le lt)
        (sym (holds rows places order (shares_a_day r) k d x) ∙ apart k d lt)

    low-row : (k : ℕ) (a : SsiRow) → row_by rows places k ≡ Some a → k < n → a.until.0 ≤ℤ r.from.0
    low-row k a e lt =
        let x = at rows places order k 0 (omega (arith, lt, bound)) in
        let same : x.row ≡ a = cc (sym x.by ∙ e) in
        subst (λ (y : SsiRow). y.until.0 ≤ℤ r.from.0) same (low k 0 x lt)

    high-row : (k : ℕ) (a : SsiRow) → row_by rows places k ≡ Some a → n ≤ k → k < length places → r.until.0 ≤ℤ a.from.0
    high-row k a e le lt =
        let x = at rows places order k 0 lt in
        let same : x.row ≡ a = cc (sym x.by ∙ e) in
        subst (λ (y : SsiRow). r.until.0 ≤ℤ y.from.0) same (high k 0 x le lt)

    -- what stands at a place of the longer list: what stood there, the new row, or what stood one before
    abbrev Stood : ℕ → SsiRow → Type 0
    Stood i a = ((i < n) × (row_by rows places i ≡ Some a)) ⊎ (((i ≡ n) × (a ≡ r)) ⊎ ((n < i) × (i - 1 < length places) × (row_by rows places (i - 1) ≡ Some a)))

    stood : (i : ℕ) (a : SsiRow) → row_by (rows ++ r ∷ []) (insert places n (length rows)) i ≡ Some a → Stood i a
    stood i a e = elim (cases_lt i n) [
      | inl low-i ↦
          let within : i < length places = omega (arith, low-i, bound) in
          let same = get_or-insert_below places n (length rows) 0 i low-i bound in
          inl (low-i, by-at rows places i a within (sym (earlier (get_or places i 0) (order.inside i 0 within)) ∙ ap (slice_get (rows ++ r ∷ [])) (sym same) ∙ there.1))
      | inr more ↦ elim (cases_lt n i) [
        | inl high-i ↦
            let end : i - 1 < length places = omega (arith, there.0, length-insert places n (length rows) bound) in
            let past : n ≤ i - 1 = omega (arith, high-i) in
            let next : i - 1 + 1 ≡ i = omega (arith, high-i) in
            let same : get_or (insert places n (length rows)) i 0 ≡ get_or places (i - 1) 0 =
            ap (λ (k : ℕ). get_or (insert places n (length rows)) k 0) (sym next) ∙ get_or-insert_above places n (length rows) 0 (i - 1) past bound in
            inr (inr (high-i, end, by-at rows places (i - 1) a end (sym (earlier (get_or places (i - 1) 0) (order.inside (i - 1) 0 end)) ∙ ap (slice_get (rows ++ r ∷ [])) (sym same) ∙ there.1)))
        | inr less ↦
            let level : i ≡ n = omega (arith, more, less) in
            let same : get_or (insert places n (length rows)) i 0 ≡ length rows =
            ap (λ (k : ℕ). get_or (insert places n (length rows)) k 0) level ∙ get_or-insert_at places n (length rows) 0 bound in
            inr (inl (level, cc (sym there.1 ∙ ap (slice_get (rows ++ r ∷ [])) same ∙ last)))
      ]
    ]
      where
        there : (i < length (insert places n (length rows))) × (slice_get (rows ++ r ∷ []) (get_or (insert places n (length rows)) i 0) ≡ Some a)
        there = taken-at (rows ++ r ∷ []) (insert places n (length rows)) i a e

    rises : (i j : ℕ) (a b : SsiRow) → i < j → Stood i a → Stood j b → a.until.0 ≤ℤ b.from.0
    rises i j a b less (inl (low-i, is-a)) (inl (low-j, is-b)) = order.rise i j a b less is-a is-b
    rises i j a b less (inl (low-i, is-a)) (inr (inl (at-j, is-r))) = rw is-r (low-row i a is-a low-i)
    rises i j a b less (inl (low-i, is-a)) (inr (inr (high-j, end, is-b))) = order.rise i (j - 1) a b (omega (arith, low-i, high-j)) is-a is-b
    rises i j a b less (inr (inl (at-i, is-r))) (inr (inr (high-j, end, is-b))) = rw is-r (high-row (j - 1) b is-b (omega (arith, high-j)) end)
    rises i j a b less (inr (inr (high-i, end-i, is-a))) (inr (inr (high-j, end-j, is-b))) = order.rise (i - 1) (j - 1) a b (omega (arith, less, high-i)) is-a is-b
    rises i j a b less (inr (inl (at-i, is-r))) (inl (low-j, is-b)) = absurd (omega (arith, less, at-i, low-j))
    rises i j a b less (inr (inl (at-i, is-r))) (inr (inl (at-j, other))) = absurd (omega (arith, less, at-i, at-j))
    rises i j a b less (inr (inr (high-i, end-i, is-a))) (inl (low-j, is-b)) = absurd (omega (arith, less, high-i, low-j))
    rises i j a b less (inr (inr (high-i, end-i, is-a))) (inr (inl (at-j, other))) = absurd (omega (arith, less, high-i, at-j))

    -- its own place goes where the bisection says
    pub order-more : IsInDayOrder (rows ++ r ∷ []) (insert places n (length rows))
    order-more = record {
      spans = All-push HasSpan rows r order.spans span;
      inside =
          let more : All (λ p. p < length (rows ++ r ∷ [])) (length rows ∷ places) = All-cons (λ p. p < length (rows ++ r ∷ [])) (length rows) places (omega (arith, length-append rows (r ∷ []))) order-kept.inside in
          All-permutation (λ p. p < length (rows ++ r ∷ [])) (length rows ∷ places) (insert places n (length rows)) (IsPermutation-insert places n (length rows)) more;
      rise = λ i j a b less at-i at-j. rises i j a b less (stood i a at-i) (stood j b at-j);
    }
