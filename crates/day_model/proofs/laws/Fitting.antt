-- What legs that fit have.
use Rattle.std.proofs.Common.{◌≡◌, ℕ, zero, suc, ◌+◌, ◌<◌, ◌≤◌, Bool, true, List, [], ◌∷◌, Option, Some, refl, ◌-◌, subst, arith, cond, leb, ltb, eqb, length}
use Rattle.std.proofs.Common.{inl, inr}
use Rattle.std.specs.Prelude.{not, ◌&&◌, slice_get}
use Rattle.std.specs.List.{list_all}
use Rattle.std.proofs.lemmas.Bool.{and_parts, leb-true, lt-ltb, ltb-true, eqb-true, eq-eqb, false≢true}
use Rattle.std.proofs.lemmas.Option.{same_Some, none-some, slice_get_cases}
use Rattle.std.proofs.lemmas.Slice.Eq.{bytes_eq-Decides}
use Rattle.corr_money.specs.Amounts.{amount_end}
use Rattle.day_model.specs.declared.account.Account.{Account}
use Rattle.day_model.specs.declared.pay.Side.{Side}
use Rattle.day_model.specs.declared.pay.Side.TheVariants.{Debit, Credit}
use Rattle.day_model.specs.declared.pay.Leg.{Leg}
use Rattle.day_model.specs.Chart.{Chart, IsListed, account_at, accounts_of}
use Rattle.day_model.specs.Fit.{accounts_fit, are_apart, are_even, are_legs, begin_with_debit, fit_in, has_amount, is_beside, is_in, is_listed, is_side}
use Rattle.day_model.specs.Fit.{legs_fit, same_ccy, side_sum}

-- a leg on an account of the book, with an amount above 0 and below 10^14
pub record Sound (chart : Chart) (leg : Leg) : Type 0 where
  pub listed : IsListed chart leg.account.0
  pub above : 0 < leg.amount.0
  pub below : leg.amount.0 < amount_end

-- two or three legs, a debit first, each sound, no two on one account, with as much debited as credited, in the currency of the first
pub record LegsFit (chart : Chart) (legs : List Leg) : Type 0 where
  pub many : 2 ≤ length legs
  pub few : length legs ≤ 3
  pub first : begin_with_debit legs ≡ true
  pub each : (i : ℕ) (leg : Leg) → slice_get legs i ≡ Some leg → Sound chart leg
  pub apart : are_apart legs ≡ true
  pub even : side_sum Debit legs ≡ side_sum Credit legs
  pub one_ccy : (i : ℕ) (first leg : Leg) → slice_get legs 0 ≡ Some first → slice_get legs i ≡ Some leg
      → same_ccy (account_at chart first.account.0) (account_at chart leg.account.0) ≡ true

-- what all pass, each passes
pub all_at : {A : Type 0} (p : A → Bool) (xs : List A) (i : ℕ) (x : A) → list_all p xs ≡ true → slice_get xs i ≡ Some x → p x ≡ true
all_at p [] i x all at = absurd (none-some x at)
all_at p (y ∷ xs) zero x all at = subst (λ z. p z ≡ true) (same_Some y x at) (and_parts (p y) (list_all p xs) all).0
all_at p (y ∷ xs) (suc i) x all at = all_at p xs i x (and_parts (p y) (list_all p xs) all).1 at

listed : (chart : Chart) (n : ℕ) → is_listed chart n ≡ true → IsListed chart n
listed chart n e =
    let parts = and_parts (leb 1 n) (leb n (length (accounts_of chart))) e in
    (leb-true _ _ parts.0, leb-true _ _ parts.1)

sound : (chart : Chart) (leg : Leg) → is_listed chart leg.account.0 ≡ true → has_amount leg ≡ true → Sound chart leg
sound chart leg there amount =
    let parts = and_parts (ltb 0 leg.amount.0) (ltb leg.amount.0 amount_end) amount in
    record { listed = listed chart leg.account.0 there; above = ltb-true _ _ parts.0; below = ltb-true _ _ parts.1 }

-- an account of the book has its own currency
same_as_itself : (a : Option Account) (b : Account) → a ≡ Some b → same_ccy a a ≡ true
same_as_itself a b is = rw is ((bytes_eq-Decides b.ccy.0 b.ccy.0).1 refl)

-- a listed number has an account
pub listed_account : (chart : Chart) (n : ℕ) → IsListed chart n → (a : Account) × (account_at chart n ≡ Some a)
listed_account chart n there =
    elim (slice_get_cases (accounts_of chart) (n - 1)).1 [
      | inl found ↦ (found.0, found.2)
      | inr past ↦ absurd (omega (arith, past.0))
    ]

-- legs that fit are of a pay
pub legs_of_fit : (chart : Chart) (legs : List Leg) → legs_fit chart legs ≡ true → are_legs legs ≡ true
legs_of_fit chart legs e = (and_parts (are_legs legs) (fit_in (accounts_of chart) legs) e).0

-- the first leg is of the book, and each other is too and has its currency
beside : (chart : Chart) (first : Leg) (legs : List Leg) (i : ℕ) (leg : Leg) → fit_in (accounts_of chart) (first ∷ legs) ≡ true
    → slice_get (first ∷ legs) i ≡ Some leg
    → (is_listed chart leg.account.0 ≡ true) × (same_ccy (account_at chart first.account.0) (account_at chart leg.account.0) ≡ true)
beside chart first legs zero leg e at =
    let there = (and_parts (is_in (accounts_of chart) first.account.0) (list_all (is_beside (accounts_of chart) first.account.0) legs) e).0 in
    let a = listed_account chart first.account.0 (listed chart first.account.0 there) in
    let own = same_as_itself (account_at chart first.account.0) a.0 a.1 in
    subst
    (λ (x : Leg). (is_listed chart x.account.0 ≡ true) × (same_ccy (account_at chart first.account.0) (account_at chart x.account.0) ≡ true))
    (same_Some first leg at) (there, own)
beside chart first legs (suc i) leg e at =
    let all = (and_parts (is_in (accounts_of chart) first.account.0) (list_all (is_beside (accounts_of chart) first.account.0) legs) e).1 in
    and_parts (is_in (accounts_of chart) leg.account.0) (same_ccy (account_at chart first.account.0) (account_at chart leg.account.0))
    (all_at (is_beside (accounts_of chart) first.account.0) legs i leg all at)

-- what legs that fit have
pub fitting : (chart : Chart) (legs : List Leg) → legs_fit chart legs ≡ true → LegsFit chart legs
fitting chart [] e = absurd (false≢true e)
fitting chart (d ∷ others) e =
    let legs : List Leg = d ∷ others in
    let number : Bool = leb 2 (length legs) && leb (length legs) 3 in
    let both = and_parts (are_legs legs) (fit_in (accounts_of chart) legs) e in
    let even = and_parts (number && begin_with_debit legs && list_all has_amount legs && are_apart legs) (are_even legs) both.0 in
    let apart = and_parts (number && begin_with_debit legs && list_all has_amount legs) (are_apart legs) even.0 in
    let amounts = and_parts (number && begin_with_debit legs) (list_all has_amount legs) apart.0 in
    let first = and_parts number (begin_with_debit legs) amounts.0 in
    let sizes = and_parts (leb 2 (length legs)) (leb (length legs) 3) first.0 in
    record {
      many = leb-true _ _ sizes.0;
      few = leb-true _ _ sizes.1;
      first = first.1;
      each = λ i leg at. sound chart leg (beside chart d others i leg both.1 at).0 (all_at has_amount legs i leg amounts.1 at);
      apart = apart.1;
      even = eqb-true _ _ even.1;
      one_ccy = λ i a leg at_first at.
          subst (λ (x : Leg). same_ccy (account_at chart x.account.0) (account_at chart leg.account.0) ≡ true) (same_Some d a at_first)
          (beside chart d others i leg both.1 at).1;
    }

-- each leg of a pay that fits is on an account of the book, with an amount above 0 and below 10^14
pub leg_sound : (chart : Chart) (legs : List Leg) (i : ℕ) (leg : Leg) → LegsFit chart legs → slice_get legs i ≡ Some leg → Sound chart leg
leg_sound chart legs i leg fit at = fit.each i leg at

-- there are at most three legs
pub few_legs : (chart : Chart) (legs : List Leg) → LegsFit chart legs → length legs ≤ 3
few_legs chart legs fit = fit.few

-- of two amounts on the two sides, or of three, the debits are below 10^14 where they equal the credits
abbrev on : Side → Side → ℕ → ℕ
on side own amount = cond (is_side side own) amount 0

two_small : (s t : Side) (a b : ℕ) → is_side Debit s ≡ true → 0 < a → a < amount_end → 0 + on Debit s a + on Debit t b ≡ 0 + on Credit s a + on Credit t b
    → 0 + on Debit s a + on Debit t b < amount_end
two_small Credit t a b first above below even = absurd (false≢true first)
two_small Debit Debit a b first above below even = let same : 0 + a + b ≡ 0 + 0 + 0 = even in absurd (omega arith)
two_small Debit Credit a b first above below even = omega arith

three_small : (s t u : Side) (a b c : ℕ) → is_side Debit s ≡ true → 0 < a → a < amount_end → b < amount_end → c < amount_end
    → 0 + on Debit s a + on Debit t b + on Debit u c ≡ 0 + on Credit s a + on Credit t b + on Credit u c
    → 0 + on Debit s a + on Debit t b + on Debit u c < amount_end
three_small Credit t u a b c first above below second third even = absurd (false≢true first)
three_small Debit Debit Debit a b c first above below second third even = let same : 0 + a + b + c ≡ 0 + 0 + 0 + 0 = even in absurd (omega arith)
three_small Debit Debit Credit a b c first above below second third even = let same : 0 + a + b + 0 ≡ 0 + 0 + 0 + c = even in omega arith
three_small Debit Credit Debit a b c first above below second third even = let same : 0 + a + 0 + c ≡ 0 + 0 + b + 0 = even in omega arith
three_small Debit Credit Credit a b c first above below second third even = omega arith

debits_small : (chart : Chart) (legs : List Leg) → LegsFit chart legs → side_sum Debit legs < amount_end
debits_small chart [] fit = omega arith
debits_small chart (a ∷ []) fit = absurd (let many : 2 ≤ 1 = fit.many in omega arith)
debits_small chart (a ∷ b ∷ []) fit =
    let x = fit.each 0 a refl in
    two_small a.side b.side a.amount.0 b.amount.0 fit.first x.above x.below fit.even
debits_small chart (a ∷ b ∷ c ∷ []) fit =
    let x = fit.each 0 a refl in
    let y = fit.each 1 b refl in
    let z = fit.each 2 c refl in
    three_small a.side b.side c.side a.amount.0 b.amount.0 c.amount.0 fit.first x.above x.below y.below z.below fit.even
debits_small chart (a ∷ b ∷ c ∷ d ∷ legs) fit = absurd (let few : length (a ∷ b ∷ c ∷ d ∷ legs) ≤ 3 = fit.few in omega arith)

-- what each side has together is below 10^14
pub sides_small : (chart : Chart) (legs : List Leg) (side : Side) → LegsFit chart legs → side_sum side legs < amount_end
sides_small chart legs Debit fit = debits_small chart legs fit
sides_small chart legs Credit fit = subst (λ (x : ℕ). x < amount_end) fit.even (debits_small chart legs fit)

-- a debit and a credit of one amount, on two accounts of the book that have one currency, fit
pub two_fit : (chart : Chart) (d c : Leg) → d.side ≡ Debit → c.side ≡ Credit → d.amount.0 ≡ c.amount.0 → 0 < d.amount.0 → d.amount.0 < amount_end
    → accounts_fit chart d.account.0 c.account.0 ≡ true → legs_fit chart (d ∷ c ∷ []) ≡ true
two_fit chart d c debit credit equal above below accounts =
    let ccy =
    and_parts (is_listed chart d.account.0 && is_listed chart c.account.0 && not (eqb d.account.0 c.account.0))
    (same_ccy (account_at chart d.account.0) (account_at chart c.account.0)) accounts in
    let apart = and_parts (is_listed chart d.account.0 && is_listed chart c.account.0) (not (eqb d.account.0 c.account.0)) ccy.0 in
    let there = and_parts (is_listed chart d.account.0) (is_listed chart c.account.0) apart.0 in
    let d_above : ltb 0 d.amount.0 ≡ true = lt-ltb _ _ above in
    let d_below : ltb d.amount.0 amount_end ≡ true = lt-ltb _ _ below in
    let c_above : ltb 0 c.amount.0 ≡ true = lt-ltb _ _ (subst (λ (x : ℕ). 0 < x) equal above) in
    let c_below : ltb c.amount.0 amount_end ≡ true = lt-ltb _ _ (subst (λ (x : ℕ). x < amount_end) equal below) in
    let same : eqb (0 + d.amount.0 + 0) (0 + 0 + c.amount.0) ≡ true = eq-eqb _ _ (omega (arith, equal)) in
    rw (debit, credit, d_above, d_below, c_above, c_below, apart.1, same, there.0, there.1, ccy.1) refl
