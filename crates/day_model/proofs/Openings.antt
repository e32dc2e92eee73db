-- Sums of openings, and the first currency whose openings don't sum to 0.
use Rattle.std.proofs.Common.{◌≡◌, ℕ, zero, suc, ◌+◌, ◌*◌, ◌<◌, ◌≤◌, Bool, true, false, List, [], ◌∷◌, ◌++◌, Option, Some, None, refl, sym, ap, ◌∙◌, subst, arith, length, take, get_or, ℤ, pos, ◌+ℤ◌, ◌≤ℤ◌, FitsSigned, to_z, of_z, w64, Ordering, Less, Equal, Greater, inl, inr}
use Rattle.std.specs.Prelude.{◌⊎◌, cond, slice_get, unwrap_or, if◌then◌else◌}
use Rattle.std.specs.Map.{lookup}
use Rattle.std.specs.Str.{bytes_eq}
use Rattle.std.proofs.lemmas.Bool.{cases_Bool, false≢true, cond-false, cond-true, cond_both, cases_lt}
use Rattle.std.proofs.lemmas.Int.{ints, to_z-of_z}
use Rattle.std.proofs.lemmas.List.{take_more}
use Rattle.std.proofs.lemmas.Option.{slice_get_within, same_Some}
use Rattle.std.proofs.lemmas.Slice.Eq.{bytes_eq-Decides}
use Rattle.std.proofs.lemmas.Cmp.{nat_list_cmp_total, tied_itself}
use Rattle.std.specs.Ordering.{is_lt, nat_cmp}
use Rattle.std.specs.Cmp.Lexicographic.{slice_cmp}
use Rattle.corr_money.specs.Amounts.{amount_end}
use Rattle.corr_money.specs.declared.amount.Ccy.{Ccy}
use Rattle.day_model.specs.declared.account.Account.{Account}
use Rattle.day_model.specs.declared.gap.Gap.{Gap}
use Rattle.day_model.specs.Chart.{IsLimited, is_same_ccy, opening_sum}
use Rattle.day_model.specs.Gap.{is_before, IsGapOf}
use Rattle.day_model.specs.inner.Gap.{AreOpeningSums, GapOf, earlier_of, FirstGap, sum_in}

abbrev pub opening_in : Ccy → Account → ℤ
opening_in ccy account = if is_same_ccy account.ccy ccy then account.opening else pos 0

opening_sum-append : (ccy : Ccy) (xs : List Account) (a : Account) → opening_sum ccy (xs ++ a ∷ []) ≡ opening_sum ccy xs +ℤ opening_in ccy a
opening_sum-append ccy [] a = omega (arith, ints)
opening_sum-append ccy (x ∷ xs) a =
    let rest = opening_sum-append ccy xs a in
    ap (λ (z : ℤ). opening_in ccy x +ℤ z) rest ∙ omega (arith, ints)

pub opening_sum_more : (ccy : Ccy) (rows : List Account) (i : ℕ) (a : Account) → a ≡ get_or rows i a → i < length rows
    → opening_sum ccy (take (i + 1) rows) ≡ opening_sum ccy (take i rows) +ℤ opening_in ccy a
opening_sum_more ccy rows i a at lt =
    ap (opening_sum ccy) (take_more rows i a lt ∙ ap (λ (x : Account). take i rows ++ x ∷ []) (sym at)) ∙ opening_sum-append ccy (take i rows) a

-- no more than i times 10^14
pub record IsNear (i : ℕ) (z : ℤ) : Type 0 where
  pub low : pos 0 ≤ℤ (z +ℤ pos (i * amount_end))
  pub high : z ≤ℤ pos (i * amount_end)

small_opening : (ccy : Ccy) (a : Account) → IsLimited a → IsNear 1 (opening_in ccy a)
small_opening ccy a limits =
    let low = limits.floor_small.0 in
    let high = limits.ceil_small.1 in
    let above = limits.above_floor in
    let below = limits.below_ceil in
    cond_both (is_same_ccy a.ccy ccy) a.opening (pos 0) (IsNear 1) (λ _. record { low = omega (arith, ints); high = omega (arith, ints) })
    (λ _. record { low = omega (arith, ints); high = omega (arith, ints) })

pub near_more : (ccy : Ccy) (i : ℕ) (z : ℤ) (a : Account) → IsLimited a → IsNear i z → IsNear (i + 1) (z +ℤ opening_in ccy a)
near_more ccy i z a limits near =
    let one = small_opening ccy a limits in
    let low = near.low in
    let high = near.high in
    let low1 = one.low in
    let high1 = one.high in
    record { low = omega (arith, ints); high = omega (arith, ints) }

pub near_fits : (i : ℕ) (z : ℤ) → i ≤ 1000 → IsNear i z → FitsSigned w64 z
near_fits i z few near =
    let low = near.low in
    let high = near.high in
    omega (arith, ints)

own_opening : (row : Account) → opening_in row.ccy row ≡ row.opening
own_opening row = cond-true (is_same_ccy row.ccy row.ccy) row.opening (pos 0) ((bytes_eq-Decides row.ccy.0 row.ccy.0).1 refl)

-- an account's opening, added to the sum of its currency
pub near_own : (i : ℕ) (z : ℤ) (row : Account) → IsLimited row → IsNear i z → IsNear (i + 1) (z +ℤ row.opening)
near_own i z row limits near = subst (λ (o : ℤ). IsNear (i + 1) (z +ℤ o)) (own_opening row) (near_more row.ccy i z row limits near)

pub fits_own : (row : Account) → IsLimited row → FitsSigned w64 row.opening
fits_own row limits = near_fits 1 row.opening (omega arith) (subst (IsNear 1) (own_opening row) (small_opening row.ccy row limits))

same_ccy : (c d : Ccy) → is_same_ccy c d ≡ true → c ≡ d
same_ccy c d e = let digits : c.0 ≡ d.0 = (bytes_eq-Decides c.0 d.0).0 e in ap (λ (bs : List ℕ). record { 0 = bs }) digits

-- a currency that no account has sums to 0
has_or_zero : (ccy : Ccy) (rows : List Account) → ((k : ℕ) × (a : Account) × (slice_get rows k ≡ Some a) × (a.ccy ≡ ccy)) ⊎ (opening_sum ccy rows ≡ pos 0)
has_or_zero ccy [] = inr refl
has_or_zero ccy (x ∷ rows) =
    elim (cases_Bool (is_same_ccy x.ccy ccy)) [
      | inl here ↦ inl (0, x, refl, same_ccy x.ccy ccy here)
      | inr apart ↦ elim (has_or_zero ccy rows) [
        | inl (k, a, at, is) ↦ inl (suc k, a, at, is)
        | inr none ↦ inr
            (ap (λ (z : ℤ). z +ℤ opening_sum ccy rows) (cond-false (is_same_ccy x.ccy ccy) x.opening (pos 0) apart) ∙ ap (λ (z : ℤ). pos 0 +ℤ z) none)
      ]
    ]

-- no account before place i has a gap that comes before this one
pub record Leads (rows : List Account) (i : ℕ) (gap : Gap) : Type 0 where
  pub place : ℕ
  pub account : Account
  pub there : slice_get rows place ≡ Some account
  pub is_gap : IsGapOf rows account gap
  pub first : (k : ℕ) (a : Account) → k < i → slice_get rows k ≡ Some a → is_before a.ccy gap.ccy ≡ true → opening_sum a.ccy rows ≡ pos 0

abbrev pub SoFar : List Account → ℕ → Option Gap → Type 0
SoFar rows i None = (k : ℕ) (a : Account) → k < i → slice_get rows k ≡ Some a → opening_sum a.ccy rows ≡ pos 0
SoFar rows i (Some gap) = Leads rows i gap

pub so_far_none : (rows : List Account) → SoFar rows 0 None
so_far_none rows k a lt at = absurd (omega arith)

not_itself : (c : Ccy) → is_before c c ≡ true → ⊥
not_itself c e = absurd (false≢true (sym (ap is_lt (tied_itself nat_list_cmp_total c.0)) ∙ e))

is_less : (o : Ordering) → is_lt o ≡ true → o ≡ Less
is_less Less e = refl
is_less Equal e = absurd (false≢true e)
is_less Greater e = absurd (false≢true e)

before_before : (c d e : Ccy) → is_before c d ≡ true → is_before d e ≡ true → is_before c e ≡ true
before_before c d e p q = ap is_lt (nat_list_cmp_total.trans c.0 d.0 e.0 (is_less (slice_cmp nat_cmp c.0 d.0) p) (is_less (slice_cmp nat_cmp d.0 e.0) q))

-- place k is before i, or i itself
cases_place : {P : Type 0} (rows : List Account) (i k : ℕ) (row a : Account) → k < i + 1 → slice_get rows i ≡ Some row → slice_get rows k ≡ Some a
    → (k < i → P) → (row ≡ a → P) → P
cases_place rows i k row a lt here at earlier last =
    elim (cases_lt k i) [
      | inl before ↦ earlier before
      | inr past ↦ let same : i ≡ k = omega arith in last (same_Some row a (sym here ∙ ap (slice_get rows) same ∙ at))
    ]

new_leads : (rows : List Account) (i : ℕ) (row : Account) (gap : Gap) → slice_get rows i ≡ Some row → IsGapOf rows row gap
    → ((k : ℕ) (a : Account) → k < i → slice_get rows k ≡ Some a → is_before a.ccy gap.ccy ≡ true → opening_sum a.ccy rows ≡ pos 0)
    → Leads rows (i + 1) gap
new_leads rows i row gap here is_gap before = record {
  place = i;
  account = row;
  there = here;
  is_gap = is_gap;
  first = λ k a lt at b.
      cases_place rows i k row a lt here at (λ early. before k a early at b)
      (λ same. absurd (not_itself gap.ccy (subst (λ (c : Ccy). is_before c gap.ccy ≡ true) (ap (λ (x : Account). x.ccy) (sym same) ∙ is_gap.ccy) b)));
}

old_leads : (rows : List Account) (i : ℕ) (row : Account) (gap : Gap) → Leads rows i gap → slice_get rows i ≡ Some row
    → (is_before row.ccy gap.ccy ≡ true → opening_sum row.ccy rows ≡ pos 0) → Leads rows (i + 1) gap
old_leads rows i row gap old here last = record {
  place = old.place;
  account = old.account;
  there = old.there;
  is_gap = old.is_gap;
  first = λ k a lt at b.
      cases_place rows i k row a lt here at (λ early. old.first k a early at b)
      (λ same. subst (λ (x : Account). opening_sum x.ccy rows ≡ pos 0) same (last (subst (λ (x : Account). is_before x.ccy gap.ccy ≡ true) (sym same) b)));
}

chosen : (rows : List Account) (i : ℕ) (row : Account) (gap other : Gap) (b : Bool) → is_before other.ccy gap.ccy ≡ b → Leads rows i gap
    → slice_get rows i ≡ Some row → IsGapOf rows row other → SoFar rows (i + 1) (if b then Some other else Some gap)
chosen rows i row gap other true is old here new =
    new_leads rows i row other here new (λ k a lt at b. old.first k a lt at (before_before a.ccy other.ccy gap.ccy b is))
chosen rows i row gap other false is old here new =
    old_leads rows i row gap old here (λ b. absurd (false≢true (sym is ∙ subst (λ (c : Ccy). is_before c gap.ccy ≡ true) new.ccy b)))

-- one account more
pub so_far_more : (rows : List Account) (i : ℕ) (row : Account) (first second : Option Gap) → SoFar rows i first → slice_get rows i ≡ Some row
    → GapOf rows row second → SoFar rows (i + 1) (earlier_of first second)
so_far_more rows i row None None old here none =
    λ k a lt at.
    cases_place rows i k row a lt here at (λ early. old k a early at) (λ same. subst (λ (x : Account). opening_sum x.ccy rows ≡ pos 0) same none)
so_far_more rows i row None (Some other) old here new = new_leads rows i row other here new (λ k a lt at b. old k a lt at)
so_far_more rows i row (Some gap) None old here none = old_leads rows i row gap old here (λ b. none)
so_far_more rows i row (Some gap) (Some other) old here new = chosen rows i row gap other (is_before other.ccy gap.ccy) refl old here new

-- ---- sums by currency

sum-put : (b : Bool) (put : ℤ) (old : Option ℤ) → unwrap_or (cond b (Some put) old) (pos 0) ≡ cond b put (unwrap_or old (pos 0))
sum-put true put old = refl
sum-put false put old = refl

by-ccy : (b : Bool) (put old opening : ℤ) → (b ≡ true → put ≡ old +ℤ opening) → cond b put old ≡ old +ℤ cond b opening (pos 0)
by-ccy true put old opening is = is refl
by-ccy false put old opening is = omega (arith, ints)

-- one account more: its opening is added to the sum of its currency
pub sums_more : (rows : List Account) (i : ℕ) (row : Account) (old new : List (List ℕ × ℤ)) (put : ℤ) → row ≡ get_or rows i row → i < length rows
    → AreOpeningSums old (take i rows) → put ≡ sum_in old row.ccy +ℤ row.opening
    → ((key : List ℕ) → lookup (bytes_eq key) new ≡ cond (bytes_eq row.ccy.0 key) (Some put) (lookup (bytes_eq key) old))
    → AreOpeningSums new (take (i + 1) rows)
sums_more rows i row old new put at lt sums is written ccy =
    let here : is_same_ccy row.ccy ccy ≡ true → put ≡ sum_in old ccy +ℤ row.opening = λ e.
    is ∙ ap (λ (c : Ccy). sum_in old c +ℤ row.opening) (same_ccy row.ccy ccy e) in
    ap (λ (o : Option ℤ). unwrap_or o (pos 0)) (written ccy.0) ∙ sum-put (is_same_ccy row.ccy ccy) put (lookup (bytes_eq ccy.0) old)
    ∙ by-ccy (is_same_ccy row.ccy ccy) put (sum_in old ccy) row.opening here
    ∙ ap (λ (z : ℤ). z +ℤ opening_in ccy row) (sums ccy) ∙ sym (opening_sum_more ccy rows i row at lt)

has_at : (rows : List Account) (i : ℕ) → i < length rows → (a : Account) × (slice_get rows i ≡ Some a) × (a ≡ get_or rows i a)
has_at [] i lt = absurd (omega (arith, lt))
has_at (x ∷ rows) zero lt = (x, refl, refl)
has_at (x ∷ rows) (suc i) lt = has_at rows i (omega (arith, lt))

-- the sum of the first openings is no more than their number times 10^14
pub sum_near : (rows : List Account) → ((k : ℕ) (a : Account) → slice_get rows k ≡ Some a → IsLimited a) → (ccy : Ccy) (i : ℕ) → i ≤ length rows
    → IsNear i (opening_sum ccy (take i rows))
sum_near rows limited ccy zero le = record { low = omega (arith, ints); high = omega (arith, ints) }
sum_near rows limited ccy (suc i) le =
    let lt : i < length rows = omega (arith, le) in
    let row = has_at rows i lt in
    let near = sum_near rows limited ccy i (omega (arith, le)) in
    let more = subst (IsNear (i + 1)) (sym (opening_sum_more ccy rows i row.0 row.2 lt)) (near_more ccy i (opening_sum ccy (take i rows)) row.0 (limited i row.0 row.1) near) in
    let next : i + 1 ≡ suc i = omega arith in
    subst (λ (n : ℕ). IsNear n (opening_sum ccy (take n rows))) next more

-- the sum of a currency so far, an opening of it, and the two together fit
pub record Fit (old own : ℤ) : Type 0 where
  pub sum : to_z w64 (of_z w64 old) ≡ old
  pub opening : to_z w64 (of_z w64 own) ≡ own
  pub together : FitsSigned w64 (old +ℤ own)

pub sums_fit : (rows : List Account) (i : ℕ) (row : Account) (sums : List (List ℕ × ℤ)) (sum : ℤ)
    → ((k : ℕ) (a : Account) → slice_get rows k ≡ Some a → IsLimited a) → length rows ≤ 1000 → slice_get rows i ≡ Some row → i < length rows
    → AreOpeningSums sums (take i rows) → sum ≡ sum_in sums row.ccy → Fit sum row.opening
sums_fit rows i row sums sum limited few here lt before was =
    let limits = limited i row here in
    let near = subst (IsNear i) (sym (was ∙ before row.ccy)) (sum_near rows limited row.ccy i (omega (arith, lt))) in
    record {
      sum = to_z-of_z w64 sum (near_fits i sum (omega (arith, lt, few)) near);
      opening = to_z-of_z w64 row.opening (fits_own row limits);
      together = near_fits (i + 1) (sum +ℤ row.opening) (omega (arith, lt, few)) (near_own i sum row limits near);
    }

-- after all accounts it is the first of all currencies
pub so_far_all : (rows : List Account) (i : ℕ) (first : Option Gap) → length rows ≤ i → SoFar rows i first → FirstGap rows first
so_far_all rows i None end old = λ c.
    elim (has_or_zero c rows) [
      | inl (k, a, at, is) ↦ let lt = slice_get_within rows k a at in subst (λ (d : Ccy). opening_sum d rows ≡ pos 0) is (old k a (omega arith) at)
      | inr zero_sum ↦ zero_sum
    ]
so_far_all rows i (Some gap) end old = record {
  place = old.place;
  account = old.account;
  there = old.there;
  is_gap = old.is_gap;
  first = λ c b.
      elim (has_or_zero c rows) [
        | inl (k, a, at, is) ↦
            let lt = slice_get_within rows k a at in
            let before : is_before a.ccy gap.ccy ≡ true = subst (λ (d : Ccy). is_before d gap.ccy ≡ true) (sym is) b in
            subst (λ (d : Ccy). opening_sum d rows ≡ pos 0) is (old.first k a (omega arith) at before)
        | inr zero_sum ↦ zero_sum
      ];
}
