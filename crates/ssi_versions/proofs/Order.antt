-- Places in the order of their rows' days: a bisection finds the one row that can matter.
use Rattle.std.proofs.Common.{◌≡◌, ℕ, zero, suc, ◌+◌, ◌-◌, ◌≤◌, ◌<◌, Bool, true, false, cond, ◌||◌, List, [], ◌∷◌, length, get_or, take, Option, Some, None, Bor, is_some, refl, sym, ap, ◌∙◌, subst, arith, inl, inr, ◌≤ℤ◌}
use Rattle.std.specs.Prelude.{All, IfSome, slice_get, find, nat_lt}
use Rattle.std.specs.List.{list_any}
use Rattle.std.specs.List.Sorted.{IsPartitionPoint, IsPartitionedBy}
use Rattle.std.specs.Option.{option_and_then, option_copied, option_map_or}
use Rattle.std.proofs.lemmas.Bool.{cases_lt}
use Rattle.std.proofs.lemmas.Bool.Decides.{nat_tests}
use Rattle.std.proofs.lemmas.Int.{ints}
use Rattle.std.proofs.lemmas.List.{get_or-take, get_or_default, length-take-le}
use Rattle.std.proofs.lemmas.List.Folds.{list_any_at, list_any_none}
use Rattle.std.proofs.lemmas.Option.{slice_get-get_or, slice_get_cases, slice_get_past}
use Rattle.corr_ids.specs.declared.day.Day.{Day}
use Rattle.corr_money.specs.declared.amount.Ccy.{Ccy}
use Rattle.ssi_versions.specs.declared.row.SsiRow.{SsiRow}
use Rattle.ssi_versions.specs.Index.{HasSpan, IsInDayOrder, row_by}
use Rattle.ssi_versions.specs.inner.Index.{has_begun, holds_at}
use Rattle.ssi_versions.specs.Instruction.{is_asked}
use Rattle.ssi_versions.specs.Rows.{shares_a_day}

-- where none passes, none is found
pub find-none : {A : Type 0} (test : A → Bool) (xs : List A) (d : A) → ((k : ℕ) → k < length xs → test (get_or xs k d) ≡ false) → find test xs ≡ None
find-none test [] d fails = refl
find-none test (x ∷ xs) d fails =
    let first : test x ≡ false = fails 0 (omega arith) in
    rw first (find-none test xs d (λ k lt. fails (suc k) (omega arith)))

-- where only one place can pass, it decides what is found
pub find-sole : {A : Type 0} (test : A → Bool) (xs : List A) (m : ℕ) (d : A) → m < length xs → ((k : ℕ) → k < length xs → (k ≡ m → ⊥) → test (get_or xs k d) ≡ false)
    → find test xs ≡ cond (test (get_or xs m d)) (Some (get_or xs m d)) None
find-sole test [] m d lt apart = absurd (omega (arith, lt))
find-sole test (x ∷ xs) zero d lt apart = go (test x) refl
  where
    none : find test xs ≡ None
    none = find-none test xs d (λ k more. apart (suc k) (omega arith) (λ e. omega arith))

    go : (b : Bool) → test x ≡ b → find test (x ∷ xs) ≡ cond (test x) (Some x) None
    go true e = rw e refl
    go false e = rw (e, none) refl
find-sole test (x ∷ xs) (suc m) d lt apart =
    let first : test x ≡ false = apart 0 (omega arith) (λ e. omega arith) in
    rw first (find-sole test xs m d (omega arith) (λ k more other. apart (suc k) (omega arith) (λ e. other (omega arith))))

-- the last of the first n, if there is one
last-begun : (places : List ℕ) (n d : ℕ) → 0 < n → n ≤ length places → slice_get (take n places) (length (take n places) - 1) ≡ Some (get_or places (n - 1) d)
last-begun places n d some bound =
    let long = length-take-le n places bound in
    ap (λ (k : ℕ). slice_get (take n places) (k - 1)) long ∙ slice_get-get_or (take n places) (n - 1) d (omega (arith, some, long)) ∙ ap (λ (p : ℕ). Some p) (get_or-take n places (n - 1) d (omega (arith, some)))

last-none : (places : List ℕ) (n : ℕ) → n ≡ 0 → slice_get (take n places) (length (take n places) - 1) ≡ None
last-none places n e = rw e refl

-- what a look at a place gives
pub got : (xs : List ℕ) (i : ℕ) (r : Option (Bor ℕ)) → is_some r ≡ nat_lt i (length xs) → IfSome r (λ x. x.now ≡ get_or xs i x.now) → option_copied r ≡ slice_get xs i
got xs i None size item =
    let past : length xs ≤ i = grind (arith, nat_tests) in
    sym (slice_get_past xs i past)
got xs i (Some x) size item =
    let within : i < length xs = grind (arith, nat_tests) in
    ap (λ (p : ℕ). Some p) item ∙ sym (slice_get-get_or xs i x.now within)

-- the test of the item at a place, false where there is none
any-here : (test : ℕ → Bool) (xs : List ℕ) (i : ℕ) → option_map_or test (slice_get xs i) false ≡ true → list_any test xs ≡ true
any-here test xs i e = elim ((slice_get_cases xs i).1) [
  | inl (x, lt, is, at) ↦ list_any_at test xs i x lt (ap test at ∙ sym (ap (λ (o : Option ℕ). option_map_or test o false) is) ∙ e)
  | inr (past, none) ↦ absurd (cc (sym (ap (λ (o : Option ℕ). option_map_or test o false) none) ∙ e))
]

none-here : (test : ℕ → Bool) (xs : List ℕ) (i d : ℕ) → option_map_or test (slice_get xs i) false ≡ false → i < length xs → test (get_or xs i d) ≡ false
none-here test xs i d e lt = sym (ap (λ (o : Option ℕ). option_map_or test o false) (slice_get-get_or xs i d lt)) ∙ e

-- the tests of days, of two rows of which the first has ended when the second begins
begun-before : (a b : SsiRow) (day : Day) → HasSpan a → a.until.0 ≤ℤ b.from.0 → has_begun day b ≡ true → has_begun day a ≡ true
begun-before a b day span rise begun = grind (arith, ints, nat_tests)

ended : (ccy : Ccy) (bank : List ℕ) (day : Day) (a b : SsiRow) → a.until.0 ≤ℤ b.from.0 → has_begun day b ≡ true → is_asked ccy bank day a ≡ false
ended ccy bank day a b rise begun = grind (arith, ints, nat_tests)

not-begun : (ccy : Ccy) (bank : List ℕ) (day : Day) (a : SsiRow) → has_begun day a ≡ false → is_asked ccy bank day a ≡ false
not-begun ccy bank day a begun = grind (arith, ints, nat_tests)

-- a row that ends before another begins that has begun by a row's first day shares no day with it
shares-not-before : (row a b : SsiRow) → a.until.0 ≤ℤ b.from.0 → has_begun row.from b ≡ true → shares_a_day row a ≡ false
shares-not-before row a b rise begun = grind (arith, ints, nat_tests)

-- of two rows that haven't begun by a row's first day, the second shares a day with it only if the first does
shares-first : (row a b : SsiRow) → HasSpan a → a.until.0 ≤ℤ b.from.0 → has_begun row.from a ≡ false → shares_a_day row a ≡ false → shares_a_day row b ≡ false
shares-first row a b span rise begun apart = grind (arith, ints, nat_tests)

module _ (rows : List SsiRow) (places : List ℕ) (order : IsInDayOrder rows places) where
  -- the row at a place of the list
  pub record At (i d : ℕ) : Type 0 where
    pub row : SsiRow
    pub is : slice_get rows (get_or places i d) ≡ Some row
    pub by : row_by rows places i ≡ Some row
    pub span : HasSpan row

  pub at : (i d : ℕ) → i < length places → At i d
  at i d lt =
      let p = get_or places i d in
      let within : p < length rows = order.inside i d lt in
      let any = head-or rows (omega (arith, within)) in
      let is = slice_get-get_or rows p any within in
      record { row = get_or rows p any; is = is; by = rw (slice_get-get_or places i d lt) is; span = order.spans p any within }
    where
      head-or : (xs : List SsiRow) → 0 < length xs → SsiRow
      head-or [] lt = absurd (omega (arith, lt))
      head-or (x ∷ xs) lt = x

  pub holds : (test : SsiRow → Bool) (i d : ℕ) (x : At i d) → holds_at test rows (get_or places i d) ≡ test x.row
  holds test i d x = rw x.is refl

  -- the rows that have begun by a day come before the others
  pub parted : (day : Day) → IsPartitionedBy (holds_at (has_begun day) rows) places
  parted day i j d le lt begun = elim (cases_lt i j) [
    | inl less ↦
        let a = at i d (omega arith) in
        let b = at j d lt in
        holds (has_begun day) i d a ∙ begun-before a.row b.row day a.span (order.rise i j a.row b.row less a.by b.by) (sym (holds (has_begun day) j d b) ∙ begun)
    | inr same ↦
        let one : i ≡ j = omega arith in
        subst (λ (k : ℕ). holds_at (has_begun day) rows (get_or places k d) ≡ true) (sym one) begun
  ]

  module _ (day : Day) (n : ℕ) (d : ℕ) (bound : n ≤ length places)
      (point : IsPartitionPoint (λ p. holds_at (has_begun day) rows p ≡ true) (λ p. holds_at (has_begun day) rows p ≡ false) places n) where
    begun : (i : ℕ) (x : At i d) → i < n → has_begun day x.row ≡ true
    begun i x lt = sym (holds (has_begun day) i d x) ∙ point.0 i d (omega arith) lt

    waits : (i : ℕ) (x : At i d) → n ≤ i → i < length places → has_begun day x.row ≡ false
    waits i x le lt = sym (holds (has_begun day) i d x) ∙ point.1 i d le lt

    module _ (ccy : Ccy) (bank : List ℕ) where
      -- none but the last that has begun is in force
      not-asked : (k : ℕ) → k < length places → (k + 1 ≡ n → ⊥) → holds_at (is_asked ccy bank day) rows (get_or places k d) ≡ false
      not-asked k lt other = elim (cases_lt (k + 1) n) [
        | inl less ↦
            let a = at k d lt in
            let b = at (k + 1) d (omega arith) in
            holds (is_asked ccy bank day) k d a ∙ ended ccy bank day a.row b.row (order.rise k (k + 1) a.row b.row (omega arith) a.by b.by) (begun (k + 1) b less)
        | inr more ↦
            let past : n ≤ k = omega (arith, more, other) in
            let a = at k d lt in
            holds (is_asked ccy bank day) k d a ∙ not-begun ccy bank day a.row (waits k a past lt)
      ]

      -- no row has begun
      asked-none : n ≡ 0 → find (holds_at (is_asked ccy bank day) rows) places ≡ None
      asked-none e = find-none (holds_at (is_asked ccy bank day) rows) places d (λ k lt. not-asked k lt (λ same. omega (arith, e, same)))

      -- the last that has begun decides
      asked-last : 0 < n → find (holds_at (is_asked ccy bank day) rows) places
          ≡ cond (holds_at (is_asked ccy bank day) rows (get_or places (n - 1) d)) (Some (get_or places (n - 1) d)) None
      asked-last some =
          find-sole (holds_at (is_asked ccy bank day) rows) places (n - 1) d (omega arith) (λ k lt other. not-asked k lt (λ same. other (omega (arith, same))))

      -- it is the one to test
      asked-by : option_and_then (λ p. cond (holds_at (is_asked ccy bank day) rows p) (Some p) None) (slice_get (take n places) (length (take n places) - 1))
          ≡ find (holds_at (is_asked ccy bank day) rows) places
      asked-by = elim (cases_lt 0 n) [
        | inl some ↦ ap (option_and_then (λ p. cond (holds_at (is_asked ccy bank day) rows p) (Some p) None)) (last-begun places n d some bound) ∙ sym (asked-last some)
        | inr none ↦
            let zero : n ≡ 0 = omega (arith, none) in
            ap (option_and_then (λ p. cond (holds_at (is_asked ccy bank day) rows p) (Some p) None)) (last-none places n zero) ∙ sym (asked-none zero)
      ]

      -- no place, no row that has begun
      pub none-asked : None ≡ slice_get (take n places) (length (take n places) - 1) → None ≡ find (holds_at (is_asked ccy bank day) rows) places
      none-asked e = ap (option_and_then (λ p. cond (holds_at (is_asked ccy bank day) rows p) (Some p) None)) e ∙ asked-by

      -- the row of a place, asked for or not
      pub last-asked : (p : ℕ) (b : Bool) → Some p ≡ slice_get (take n places) (length (take n places) - 1) → holds_at (is_asked ccy bank day) rows p ≡ b
          → cond b (Some p) None ≡ find (holds_at (is_asked ccy bank day) rows) places
      last-asked p b e test =
          let decided = ap (option_and_then (λ q. cond (holds_at (is_asked ccy bank day) rows q) (Some q) None)) e ∙ asked-by in
          subst (λ (c : Bool). cond c (Some p) None ≡ find (holds_at (is_asked ccy bank day) rows) places) test decided

  module _ (row : SsiRow) (n : ℕ) (d : ℕ) (bound : n ≤ length places)
      (point : IsPartitionPoint (λ p. holds_at (has_begun row.from) rows p ≡ true) (λ p. holds_at (has_begun row.from) rows p ≡ false) places n) where
    abbrev shares : ℕ → Bool
    shares = holds_at (shares_a_day row) rows

    -- no row shares a day, where neither the last that has begun nor the next does
    apart-all : (0 < n → shares (get_or places (n - 1) d) ≡ false) → (n < length places → shares (get_or places n d) ≡ false)
        → (k : ℕ) → k < length places → shares (get_or places k d) ≡ false
    apart-all last next k lt = elim (cases_lt k n) [
      | inl less ↦ elim (cases_lt (k + 1) n) [
        | inl far ↦
            let a = at k d lt in
            let b = at (k + 1) d (omega arith) in
            holds (shares_a_day row) k d a ∙ shares-not-before row a.row b.row (order.rise k (k + 1) a.row b.row (omega arith) a.by b.by) (begun row.from n d bound point (k + 1) b far)
        | inr near ↦
            let one : n - 1 ≡ k = omega (arith, less, near) in
            subst (λ (i : ℕ). shares (get_or places i d) ≡ false) one (last (omega arith))
      ]
      | inr more ↦ elim (cases_lt n k) [
        | inl far ↦
            let a = at n d (omega arith) in
            let b = at k d lt in
            let first = sym (holds (shares_a_day row) n d a) ∙ next (omega arith) in
            holds (shares_a_day row) k d b ∙ shares-first row a.row b.row a.span (order.rise n k a.row b.row far a.by b.by) (waits row.from n d bound point n a (omega arith) (omega arith)) first
        | inr near ↦
            let one : n ≡ k = omega (arith, more, near) in
            subst (λ (i : ℕ). shares (get_or places i d) ≡ false) one (next (omega arith))
      ]
    ]

    either : (b c r : Bool) → (b ≡ true → r ≡ true) → (c ≡ true → r ≡ true) → (b ≡ false → c ≡ false → r ≡ false) → (b || c) ≡ r
    either true c r first second none = sym (first refl)
    either false true r first second none = sym (second refl)
    either false false r first second none = sym (none refl refl)

    shares-near : (b c : Bool) → (b ≡ true → list_any shares places ≡ true) → (c ≡ true → list_any shares places ≡ true)
        → (b ≡ false → 0 < n → shares (get_or places (n - 1) d) ≡ false) → (c ≡ false → n < length places → shares (get_or places n d) ≡ false)
        → (b || c) ≡ list_any shares places
    shares-near b c first second last next =
        either b c (list_any shares places) first second (λ f g. list_any_none shares places (all-from (apart-all (last f) (next g))))
      where
        all-from : ((k : ℕ) → k < length places → shares (get_or places k d) ≡ false) → All (λ p. shares p ≡ false) places
        all-from h k e lt = subst (λ (p : ℕ). shares p ≡ false) (get_or_default places k d e lt) (h k lt)

    abbrev last-shares : Bool
    last-shares = option_map_or shares (slice_get (take n places) (length (take n places) - 1)) false

    last-is : 0 < n → last-shares ≡ shares (get_or places (n - 1) d)
    last-is some = ap (λ (o : Option ℕ). option_map_or shares o false) (last-begun places n d some bound)

    last-any : last-shares ≡ true → list_any shares places ≡ true
    last-any e = elim (cases_lt 0 n) [
      | inl some ↦ list_any_at shares places (n - 1) d (omega (arith, some, bound)) (sym (last-is some) ∙ e)
      | inr none ↦
          let zero : n ≡ 0 = omega (arith, none) in
          absurd (cc (sym (ap (λ (o : Option ℕ). option_map_or shares o false) (last-none places n zero)) ∙ e))
    ]

    -- two neighbours tell whether any shares a day
    shares-by : (option_map_or (holds_at (shares_a_day row) rows) (slice_get (take n places) (length (take n places) - 1)) false || option_map_or (holds_at (shares_a_day row) rows) (slice_get places n) false)
        ≡ list_any (holds_at (shares_a_day row) rows) places
    shares-by =
        shares-near last-shares (option_map_or shares (slice_get places n) false) last-any (any-here shares places n) (λ e some. sym (last-is some) ∙ e) (λ e lt. none-here shares places n d e lt)

    -- where the last that has begun shares none, the next one tells
    pub next-shares : (o p : Option ℕ) → o ≡ slice_get (take n places) (length (take n places) - 1) → p ≡ slice_get places n → option_map_or (holds_at (shares_a_day row) rows) o false ≡ false
        → option_map_or (holds_at (shares_a_day row) rows) p false ≡ list_any (holds_at (shares_a_day row) rows) places
    next-shares o p e f fails =
        ap (λ (b : Bool). b || option_map_or shares p false) (sym fails) ∙ ap (λ (q : Option ℕ). option_map_or shares o false || option_map_or shares q false) f
        ∙ ap (λ (q : Option ℕ). option_map_or shares q false || option_map_or shares (slice_get places n) false) e ∙ shares-by
