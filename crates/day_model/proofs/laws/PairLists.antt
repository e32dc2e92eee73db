-- Legs on the pairs of a book.
use Rattle.std.proofs.Common.{◌≡◌, ◌≢◌, ◌+◌, ◌-◌, ◌<◌, ◌≤◌, ℕ, zero, suc, List, [], ◌∷◌, length, drop, get_or, Some, refl, sym, ap, ◌∙◌, subst, arith}
use Rattle.std.specs.Prelude.{slice_get, slice_set}
use Rattle.std.proofs.lemmas.List.{drop_more}
use Rattle.std.proofs.lemmas.Option.{none-some, same_Some, slice_get_read, slice_get_within}
use Rattle.day_model.specs.declared.pay.Leg.{Leg}
use Rattle.day_model.specs.Totals.{Pair, plus, Fits64, leg_pair, legs_pair, pair_at}
use Rattle.day_model.proofs.laws.Pairs.{plus_assoc, plus_nothing, legs_pair-cons, own_leg, other_leg}
use Rattle.day_model.specs.Pairs.{pairs_from, pairs_with, PairsFit}
use Rattle.day_model.specs.inner.Pairs.{with_pair}

-- one leg after another adds what both add
pub plus_leg : (n : ℕ) (p : Pair) (leg : Leg) (legs : List Leg)
    → plus p (legs_pair n (leg ∷ legs)) ≡ plus (plus p (legs_pair n (leg ∷ []))) (legs_pair n legs)
plus_leg n p leg legs = ap (plus p) (legs_pair-cons n leg legs) ∙ sym (plus_assoc p (legs_pair n (leg ∷ [])) (legs_pair n legs))

-- a leg adds its amount to the pair of its own account
pub plus_own : (n : ℕ) (p : Pair) (leg : Leg) → leg.account.0 ≡ n → plus p (legs_pair n (leg ∷ [])) ≡ plus p (leg_pair leg)
plus_own n p leg is = ap (plus p) (subst (λ (m : ℕ). legs_pair m (leg ∷ []) ≡ leg_pair leg) is (own_leg leg))

-- and nothing to that of another account
pub plus_other : (n : ℕ) (p : Pair) (leg : Leg) → leg.account.0 ≢ n → plus p (legs_pair n (leg ∷ [])) ≡ p
plus_other n p leg apart = ap (plus p) (other_leg n leg apart) ∙ plus_nothing p

-- a pair that fits with more added fits without it
pub fits_less : (p q : Pair) → Fits64 (plus p q) → Fits64 p
fits_less p q fits =
    let credits = fits.0 in
    let debits = fits.1 in
    (omega (arith, credits), omega (arith, debits))

-- legs change the pairs of accounts and not their number
pub length-pairs_from : (n : ℕ) (legs : List Leg) (pairs : List Pair) → length (pairs_from n legs pairs) ≡ length pairs
length-pairs_from n legs [] = refl
length-pairs_from n legs (p ∷ pairs) = ap suc (length-pairs_from (n + 1) legs pairs)

-- the pair of each account, with what the legs add to it
slice_get_with : (n : ℕ) (legs : List Leg) (pairs : List Pair) (k : ℕ) (p : Pair) → slice_get pairs k ≡ Some p
    → slice_get (pairs_from n legs pairs) k ≡ Some (plus p (legs_pair (n + k) legs))
slice_get_with n legs [] k p at = absurd (none-some p at)
slice_get_with n legs (x ∷ pairs) zero p at =
    let here : n ≡ n + 0 = omega arith in
    subst (λ (m : ℕ). Some (plus x (legs_pair n legs)) ≡ Some (plus p (legs_pair m legs))) here
    (ap (λ (y : Pair). Some (plus y (legs_pair n legs))) (same_Some x p at))
slice_get_with n legs (x ∷ pairs) (suc k) p at =
    let there : (n + 1) + k ≡ n + suc k = omega arith in
    subst (λ (m : ℕ). slice_get (pairs_from (n + 1) legs pairs) k ≡ Some (plus p (legs_pair m legs))) there (slice_get_with (n + 1) legs pairs k p at)

-- the pair of an account after legs
pub pair_after : (legs : List Leg) (pairs : List Pair) (n : ℕ) (p : Pair) → pair_at pairs n ≡ Some p
    → pair_at (pairs_with legs pairs) n ≡ Some (plus p (legs_pair n legs))
pair_after legs pairs zero p at = absurd (none-some p at)
pair_after legs pairs (suc k) p at =
    let here : 1 + k ≡ suc k = omega arith in
    subst (λ (m : ℕ). slice_get (pairs_from 1 legs pairs) k ≡ Some (plus p (legs_pair m legs))) here (slice_get_with 1 legs pairs k p at)

-- and the other way: a pair with legs added comes from the account's pair
slice_get_back : (n : ℕ) (legs : List Leg) (pairs : List Pair) (k : ℕ) (q : Pair) → slice_get (pairs_from n legs pairs) k ≡ Some q
    → (p : Pair) × (slice_get pairs k ≡ Some p) × (q ≡ plus p (legs_pair (n + k) legs))
slice_get_back n legs [] k q at = absurd (none-some q at)
slice_get_back n legs (x ∷ pairs) zero q at =
    let here : n ≡ n + 0 = omega arith in
    (x, refl, subst (λ (m : ℕ). q ≡ plus x (legs_pair m legs)) here (sym (same_Some (plus x (legs_pair n legs)) q at)))
slice_get_back n legs (x ∷ pairs) (suc k) q at =
    let there : (n + 1) + k ≡ n + suc k = omega arith in
    let back = slice_get_back (n + 1) legs pairs k q at in
    (back.0, back.1, subst (λ (m : ℕ). q ≡ plus back.0 (legs_pair m legs)) there back.2)

pair_back : (legs : List Leg) (pairs : List Pair) (n : ℕ) (q : Pair) → pair_at (pairs_with legs pairs) n ≡ Some q
    → (p : Pair) × (pair_at pairs n ≡ Some p) × (q ≡ plus p (legs_pair n legs))
pair_back legs pairs zero q at = absurd (none-some q at)
pair_back legs pairs (suc k) q at =
    let here : 1 + k ≡ suc k = omega arith in
    let back = slice_get_back 1 legs pairs k q at in
    (back.0, back.1, subst (λ (m : ℕ). q ≡ plus back.0 (legs_pair m legs)) here back.2)

-- no legs, and legs one after another
pairs_from-nil : (n : ℕ) (pairs : List Pair) → pairs_from n [] pairs ≡ pairs
pairs_from-nil n [] = refl
pairs_from-nil n (p ∷ pairs) =
    let head : plus p (legs_pair n []) ≡ p = plus_nothing p in
    let tail = pairs_from-nil (n + 1) pairs in
    λ i. head i ∷ tail i

-- no legs change nothing
pub pairs_with-nil : (pairs : List Pair) → pairs_with [] pairs ≡ pairs
pairs_with-nil pairs = pairs_from-nil 1 pairs

pairs_from-cons : (n : ℕ) (leg : Leg) (legs : List Leg) (pairs : List Pair)
    → pairs_from n (leg ∷ legs) pairs ≡ pairs_from n legs (pairs_from n (leg ∷ []) pairs)
pairs_from-cons n leg legs [] = refl
pairs_from-cons n leg legs (p ∷ pairs) =
    let head = plus_leg n p leg legs in
    let tail = pairs_from-cons (n + 1) leg legs pairs in
    λ i. head i ∷ tail i

-- legs are added one after another
pub pairs_with-cons : (leg : Leg) (legs : List Leg) (pairs : List Pair) → pairs_with (leg ∷ legs) pairs ≡ pairs_with legs (pairs_with (leg ∷ []) pairs)
pairs_with-cons leg legs pairs = pairs_from-cons 1 leg legs pairs

-- one leg changes the pair of its account alone
untouched : (n : ℕ) (leg : Leg) (pairs : List Pair) → leg.account.0 < n → pairs_from n (leg ∷ []) pairs ≡ pairs
untouched n leg [] below = refl
untouched n leg (p ∷ pairs) below =
    let apart : leg.account.0 ≢ n = λ e. omega arith in
    let head = plus_other n p leg apart in
    let tail = untouched (n + 1) leg pairs (omega (arith, below)) in
    λ i. head i ∷ tail i

one_from : (n k : ℕ) (leg : Leg) (pairs : List Pair) (p : Pair) → leg.account.0 ≡ n + k → slice_get pairs k ≡ Some p
    → pairs_from n (leg ∷ []) pairs ≡ slice_set pairs k (plus p (leg_pair leg))
one_from n k leg [] p is at = absurd (none-some p at)
one_from n zero leg (x ∷ pairs) p is at =
    let here : leg.account.0 ≡ n = omega (arith, is) in
    let below : leg.account.0 < n + 1 = omega (arith, is) in
    let head : plus x (legs_pair n (leg ∷ [])) ≡ plus p (leg_pair leg) =
    plus_own n x leg here ∙ ap (λ (y : Pair). plus y (leg_pair leg)) (same_Some x p at) in
    let tail = untouched (n + 1) leg pairs below in
    λ i. head i ∷ tail i
one_from n (suc k) leg (x ∷ pairs) p is at =
    let apart : leg.account.0 ≢ n = λ e. omega (arith, is, e) in
    let next : leg.account.0 ≡ (n + 1) + k = omega (arith, is) in
    let head = plus_other n x leg apart in
    let tail = one_from (n + 1) k leg pairs p next at in
    λ i. head i ∷ tail i

one_at : (n : ℕ) (leg : Leg) (pairs : List Pair) (p : Pair) → leg.account.0 ≡ n → pair_at pairs n ≡ Some p
    → pairs_with (leg ∷ []) pairs ≡ with_pair pairs n (plus p (leg_pair leg))
one_at zero leg pairs p is at = absurd (none-some p at)
one_at (suc k) leg pairs p is at =
    let place : leg.account.0 ≡ 1 + k = omega (arith, is) in
    one_from 1 k leg pairs p place at

-- one leg changes the pair of its account alone
pub one_leg : (leg : Leg) (pairs : List Pair) (p : Pair) → pair_at pairs leg.account.0 ≡ Some p
    → pairs_with (leg ∷ []) pairs ≡ with_pair pairs leg.account.0 (plus p (leg_pair leg))
one_leg leg pairs p at = one_at leg.account.0 leg pairs p refl at

-- the account n stands in a list of pairs
pub there_is : (pairs : List Pair) (n : ℕ) (p : Pair) → pair_at pairs n ≡ Some p → (0 < n) × (n ≤ length pairs)
there_is pairs zero p e = absurd (cc)
there_is pairs (suc k) p e = (omega arith, omega (arith, slice_get_within pairs k p e))

-- a pair read and written at the place before the account's number
pub pair_read : (pairs : List Pair) (n : ℕ) (p : Pair) → 1 ≤ n → n ≤ length pairs → p ≡ get_or pairs (n - 1) p → pair_at pairs n ≡ Some p
pair_read pairs zero p low high is = absurd (omega (arith, low))
pair_read pairs (suc k) p low high is =
    let place : suc k - 1 ≡ k = omega arith in
    slice_get_read pairs (length pairs) k p refl (omega (arith, high)) (subst (λ (j : ℕ). p ≡ get_or pairs j p) place is)

-- writing at an account's place gives it that pair
pub pair_written : (pairs : List Pair) (n : ℕ) (q : Pair) → 1 ≤ n → slice_set pairs (n - 1) q ≡ with_pair pairs n q
pair_written pairs zero q low = absurd (omega (arith, low))
pair_written pairs (suc k) q low =
    let place : suc k - 1 ≡ k = omega arith in
    ap (λ (j : ℕ). slice_set pairs j q) place

-- where the pairs fit after all legs, they fit after each
pub own_fits : (leg : Leg) (pairs : List Pair) (p : Pair) → PairsFit (leg ∷ []) pairs → pair_at pairs leg.account.0 ≡ Some p
    → Fits64 (plus p (leg_pair leg))
own_fits leg pairs p fits at = subst Fits64 (plus_own leg.account.0 p leg refl) (fits leg.account.0 p at)

fit_first : (leg : Leg) (legs : List Leg) (pairs : List Pair) → PairsFit (leg ∷ legs) pairs → PairsFit (leg ∷ []) pairs
fit_first leg legs pairs fits =
    λ n p at. fits_less (plus p (legs_pair n (leg ∷ []))) (legs_pair n legs) (subst Fits64 (plus_leg n p leg legs) (fits n p at))

fit_rest : (leg : Leg) (legs : List Leg) (pairs : List Pair) → PairsFit (leg ∷ legs) pairs → PairsFit legs (pairs_with (leg ∷ []) pairs)
fit_rest leg legs pairs fits = λ n q at.
    let back = pair_back (leg ∷ []) pairs n q at in
    subst (λ (y : Pair). Fits64 (plus y (legs_pair n legs))) (sym back.2) (subst Fits64 (plus_leg n back.0 leg legs) (fits n back.0 back.1))

-- what is left of a list of legs at a leg
pub left_at : (legs : List Leg) (i : ℕ) (leg : Leg) → i < length legs → leg ≡ get_or legs i leg → drop i legs ≡ leg ∷ drop (i + 1) legs
left_at legs i leg lt is = drop_more legs i leg lt ∙ ap (λ (x : Leg). x ∷ drop (i + 1) legs) (sym is)

-- the next of the legs fits alone
pub next_fits : (left rest : List Leg) (leg : Leg) (pairs : List Pair) → left ≡ leg ∷ rest → PairsFit left pairs → PairsFit (leg ∷ []) pairs
next_fits left rest leg pairs is fits = fit_first leg rest pairs (subst (λ (ls : List Leg). PairsFit ls pairs) is fits)

-- pairs that take all legs take the rest once the first is added
pub rest_fits : (left rest : List Leg) (leg : Leg) (pairs : List Pair) → left ≡ leg ∷ rest → PairsFit left pairs
    → PairsFit rest (pairs_with (leg ∷ []) pairs)
rest_fits left rest leg pairs is fits = fit_rest leg rest pairs (subst (λ (ls : List Leg). PairsFit ls pairs) is fits)

-- adding the first leg and then the rest adds all
pub pairs_next : (left rest : List Leg) (leg : Leg) (pairs : List Pair) → left ≡ leg ∷ rest
    → pairs_with rest (pairs_with (leg ∷ []) pairs) ≡ pairs_with left pairs
pairs_next left rest leg pairs is = sym (pairs_with-cons leg rest pairs) ∙ ap (λ (ls : List Leg). pairs_with ls pairs) (sym is)
