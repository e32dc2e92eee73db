-- What legs and entries add to the totals of accounts.
use Rattle.std.proofs.Common.{◌≡◌, ◌≢◌, ℕ, ◌+◌, ◌≤◌, Bool, true, false, List, [], ◌∷◌, ◌++◌, take, get_or, Some, All, refl, ap, ◌∙◌, arith}
use Rattle.std.specs.Prelude.{slice_get, sum_by}
use Rattle.std.proofs.lemmas.Bool.{eq-eqb, ne_eqb, cond_both}
use Rattle.std.proofs.lemmas.List.Sums.{sum_by-cons, sum_by_push, sum_by_more, sum_by-take-le}
use Rattle.std.proofs.lemmas.Option.{slice_get_within, get_or_from_slice_get, slice_get-get_or}
use Rattle.day_model.specs.declared.pay.Side.{Side}
use Rattle.day_model.specs.declared.pay.Side.TheVariants.{Debit, Credit}
use Rattle.day_model.specs.declared.pay.Leg.{Leg}
use Rattle.day_model.specs.declared.entry.Entry.{Entry}
use Rattle.day_model.specs.Chart.{Chart, IsListed}
use Rattle.day_model.specs.Balance.{is_booked, moved, moved_by, credits_of, debits_of}
use Rattle.day_model.specs.Legal.{IsLegal}
use Rattle.day_model.specs.Totals.{Pair, plus, leg_pair, legs_pair, booked_legs, totals_of, BalanceIsByTotals, EntryAddsItsLegs, LegalTotalsFit}
use Rattle.day_model.proofs.laws.Fronts.{fits_now}
use Rattle.day_model.proofs.laws.Fitting.{fitting, leg_sound}
use Rattle.day_model.proofs.laws.Sums.{totals_fit}

-- pairs add up in either grouping
pub plus_assoc : (p q r : Pair) → plus (plus p q) r ≡ plus p (plus q r)
plus_assoc p q r =
    let credits : (p.0 + q.0) + r.0 ≡ p.0 + (q.0 + r.0) = omega arith in
    let debits : (p.1 + q.1) + r.1 ≡ p.1 + (q.1 + r.1) = omega arith in
    λ i. (credits i, debits i)

-- a pair with nothing added is itself
pub plus_nothing : (p : Pair) → plus p (0, 0) ≡ p
plus_nothing p =
    let credits : p.0 + 0 ≡ p.0 = omega arith in
    let debits : p.1 + 0 ≡ p.1 = omega arith in
    λ i. (credits i, debits i)

-- what legs add is what the first adds, and what the others do
pub legs_pair-cons : (n : ℕ) (leg : Leg) (legs : List Leg) → legs_pair n (leg ∷ legs) ≡ plus (legs_pair n (leg ∷ [])) (legs_pair n legs)
legs_pair-cons n leg legs =
    let credits : sum_by (moved Credit n) (leg ∷ legs) ≡ (0 + moved Credit n leg) + sum_by (moved Credit n) legs =
    sum_by-cons (moved Credit n) leg legs ∙ omega arith in
    let debits : sum_by (moved Debit n) (leg ∷ legs) ≡ (0 + moved Debit n leg) + sum_by (moved Debit n) legs =
    sum_by-cons (moved Debit n) leg legs ∙ omega arith in
    λ i. (credits i, debits i)

-- a leg adds to its own account
own_leg_on : (s : Side) (leg : Leg) → leg.side ≡ s → legs_pair leg.account.0 (leg ∷ []) ≡ leg_pair leg
own_leg_on Credit leg is =
    let same : 0 + leg.amount.0 ≡ leg.amount.0 = omega arith in
    rw (is, eq-eqb leg.account.0 leg.account.0 refl) (λ i. (same i, 0))
own_leg_on Debit leg is =
    let same : 0 + leg.amount.0 ≡ leg.amount.0 = omega arith in
    rw (is, eq-eqb leg.account.0 leg.account.0 refl) (λ i. (0, same i))

-- what one leg adds to its own account is its pair
pub own_leg : (leg : Leg) → legs_pair leg.account.0 (leg ∷ []) ≡ leg_pair leg
own_leg leg = own_leg_on leg.side leg refl

-- and to no other
other_leg_on : (s : Side) (n : ℕ) (leg : Leg) → leg.side ≡ s → leg.account.0 ≢ n → legs_pair n (leg ∷ []) ≡ (0, 0)
other_leg_on Credit n leg is apart = rw (is, ne_eqb leg.account.0 n apart) refl
other_leg_on Debit n leg is apart = rw (is, ne_eqb leg.account.0 n apart) refl

-- a leg on another account adds nothing
pub other_leg : (n : ℕ) (leg : Leg) → leg.account.0 ≢ n → legs_pair n (leg ∷ []) ≡ (0, 0)
other_leg n leg apart = other_leg_on leg.side n leg refl apart

-- what an entry moves is what its booked legs move
moved_by_legs : (side : Side) (n : ℕ) (e : Entry) → moved_by side n e ≡ sum_by (moved side n) (booked_legs e)
moved_by_legs side n e = at (is_booked e.outcome) refl
  where
    at : (b : Bool) → is_booked e.outcome ≡ b → moved_by side n e ≡ sum_by (moved side n) (booked_legs e)
    at true is = rw is refl
    at false is = rw is refl

-- a balance is the opening with the account's totals
pub balance_is_by_totals : BalanceIsByTotals
balance_is_by_totals chart entries n = refl

-- one more entry adds what its legs move, if it is booked
pub entry_adds_its_legs : EntryAddsItsLegs
entry_adds_its_legs entries e n =
    let credits : credits_of (entries ++ e ∷ []) n ≡ credits_of entries n + sum_by (moved Credit n) (booked_legs e) =
    sum_by_push (moved_by Credit n) entries e ∙ ap (λ (x : ℕ). credits_of entries n + x) (moved_by_legs Credit n e) in
    let debits : debits_of (entries ++ e ∷ []) n ≡ debits_of entries n + sum_by (moved Debit n) (booked_legs e) =
    sum_by_push (moved_by Debit n) entries e ∙ ap (λ (x : ℕ). debits_of entries n + x) (moved_by_legs Debit n e) in
    λ i. (credits i, debits i)

-- the totals of a legal history fit in 64 bits
pub legal_totals_fit : LegalTotalsFit
legal_totals_fit chart entries n legal = totals_fit chart entries n legal

-- one entry more of a history
pub totals_more : (entries : List Entry) (e : Entry) (i n : ℕ) → slice_get entries i ≡ Some e
    → totals_of n (take (i + 1) entries) ≡ plus (totals_of n (take i entries)) (legs_pair n (booked_legs e))
totals_more entries e i n at =
    let lt = slice_get_within entries i e at in
    let item = get_or_from_slice_get entries i e e at in
    let credits : credits_of (take (i + 1) entries) n ≡ credits_of (take i entries) n + sum_by (moved Credit n) (booked_legs e) =
    sum_by_more (moved_by Credit n) entries i e lt ∙ ap (λ (x : Entry). credits_of (take i entries) n + moved_by Credit n x) item
    ∙ ap (λ (x : ℕ). credits_of (take i entries) n + x) (moved_by_legs Credit n e) in
    let debits : debits_of (take (i + 1) entries) n ≡ debits_of (take i entries) n + sum_by (moved Debit n) (booked_legs e) =
    sum_by_more (moved_by Debit n) entries i e lt ∙ ap (λ (x : Entry). debits_of (take i entries) n + moved_by Debit n x) item
    ∙ ap (λ (x : ℕ). debits_of (take i entries) n + x) (moved_by_legs Debit n e) in
    λ k. (credits k, debits k)

-- the totals so far are no greater than those after all entries
pub totals_so_far : (entries : List Entry) (i n : ℕ)
    → ((totals_of n (take i entries)).0 ≤ (totals_of n entries).0) × ((totals_of n (take i entries)).1 ≤ (totals_of n entries).1)
totals_so_far entries i n = (sum_by-take-le (moved_by Credit n) entries i, sum_by-take-le (moved_by Debit n) entries i)

-- each leg that an entry of a legal history books is of a listed account
pub booked_listed : (chart : Chart) (entries : List Entry) (e : Entry) (i : ℕ) → IsLegal chart entries → slice_get entries i ≡ Some e
    → All (λ leg. IsListed chart leg.account.0) (booked_legs e)
booked_listed chart entries e i legal at =
    cond_both (is_booked e.outcome) e.pay.legs [] (All (λ (leg : Leg). IsListed chart leg.account.0))
    (λ _. λ k d lt.
    (leg_sound chart e.pay.legs k (get_or e.pay.legs k d) (fitting chart e.pay.legs (fits_now chart entries i e legal at)) (slice_get-get_or e.pay.legs k d lt)).listed)
    (λ _. λ k d lt. absurd (omega (arith, lt)))
