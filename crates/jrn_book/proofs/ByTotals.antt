-- What totals tell is what balances tell.
use Rattle.std.proofs.Common.{◌≡◌, ◌≢◌, ℕ, zero, suc, ◌+◌, ◌-◌, ◌≤◌, All, Bool, true, false, List, [], ◌∷◌, length, take, get_or, Option, Some, ℤ, sym, ap, ◌∙◌, subst, arith, inl, inr, ⊎_elim}
use Rattle.std.specs.Prelude.{IsTrue, slice_get}
use Rattle.std.proofs.lemmas.List.{take_all}
use Rattle.std.proofs.lemmas.Option.{none-some, same_Some, slice_get-get_or}
use Rattle.corr_text.specs.First.{first_of, unless}
use Rattle.day_model.specs.declared.account.Account.{Account}
use Rattle.day_model.specs.declared.pay.Leg.{Leg}
use Rattle.day_model.specs.declared.entry.Entry.{Entry}
use Rattle.day_model.specs.declared.entry.Outcome.{Outcome}
use Rattle.day_model.specs.declared.entry.Outcome.TheVariants.{Booked, Unfunded}
use Rattle.day_model.specs.Balance.{balance_of, changed, is_within, leg_test, leg_tests}
use Rattle.day_model.specs.Chart.{AreBy, Chart, IsChart, IsListed, IsSmall, account_at, chart_at}
use Rattle.day_model.specs.Fit.{legs_fit}
use Rattle.day_model.specs.Legal.{IsLegal}
use Rattle.day_model.specs.Totals.{Pair, balance_with, pair_at, totals_of}
use Rattle.day_model.proofs.laws.Fitting.{Sound, fitting, leg_sound}
use Rattle.day_model.proofs.laws.Changes.{accounts_now}
use Rattle.day_model.proofs.laws.Standing.{small_at}
use Rattle.day_model.proofs.laws.Pairs.{balance_is_by_totals}
use Rattle.acct_locks.specs.Holdings.{Holding, Holds, HoldsOnce}
use Rattle.jrn_book.specs.inner.Deciding.{leg_test_by}

-- each leg of a pay that fits is of a listed account, with an amount below 10^14
pub sound_legs : (chart : Chart) (legs : List Leg) → IsTrue (legs_fit chart legs) → All (Sound chart) legs
sound_legs chart legs fits k d lt = leg_sound chart legs k (get_or legs k d) (fitting chart legs fits) (slice_get-get_or legs k d lt)

-- it has at most three of them
pub few_legs : (chart : Chart) (legs : List Leg) → IsTrue (legs_fit chart legs) → 1 + length legs ≤ 255
few_legs chart legs fits = let fit = fitting chart legs fits in let few = fit.few in omega (arith, few)

-- what a leg fails with is never that the pay is booked
fails_so : (within : Bool) (k : ℕ) (balance : ℤ) (rest : List (Option Outcome)) (o : Outcome) → (first_of rest ≡ Some o → o ≡ Booked → ⊥)
    → first_of (unless within (Unfunded k balance) ∷ rest) ≡ Some o → o ≡ Booked → ⊥
fails_so true k balance rest o on e is = on e is
fails_so false k balance rest o on e is = absurd (cc (e, is))

pub never_booked : (chart : Chart) (entries : List Entry) (k : ℕ) (legs : List Leg) (o : Outcome) → first_of (leg_tests chart entries k legs) ≡ Some o → o ≡ Booked → ⊥
never_booked chart entries k [] o e is = absurd (none-some o e)
never_booked chart entries k (leg ∷ legs) o e is =
    let balance = balance_of chart entries leg.account.0 in
    fails_so (is_within (account_at (chart_at chart (length entries)) leg.account.0) (changed leg.side leg.amount.0 balance)) k balance (leg_tests chart entries (k + 1) legs) o
    (never_booked chart entries (k + 1) legs o) e is

module _ (chart : Chart) (entries : List Entry) (n : ℕ) (p : Pair) (is : p ≡ totals_of n entries) where
  -- the balance is that by the totals
  pub balance_by : balance_with chart n p ≡ balance_of chart entries n
  balance_by = ap (balance_with chart n) is ∙ sym (balance_is_by_totals chart entries n)

  -- which is below 10^14 in size
  pub small_by : IsChart chart → IsLegal chart entries → IsListed chart n → IsSmall (balance_with chart n p)
  small_by sound legal listed =
      let all : take (length entries) entries ≡ entries = take_all (length entries) entries (omega arith) in
      let small = small_at chart entries n (length entries) sound legal listed (omega arith) in
      subst IsSmall (ap (λ (es : List Entry). balance_of chart es n) all ∙ sym balance_by) small

-- the test of a leg is that by its account's totals, where the limits are those of now
pub test_by : (chart : Chart) (entries : List Entry) (leg : Leg) (p : Pair) (k : ℕ) → AreBy (length entries) chart → p ≡ totals_of leg.account.0 entries → leg_test_by chart p k leg ≡ leg_test chart entries k leg
test_by chart entries leg p k by is =
    let n = leg.account.0 in
    let then : account_at (chart_at chart (length entries)) n ≡ account_at chart n = ap (λ (accounts : List Account). slice_get accounts (n - 1)) (accounts_now chart (length entries) by) in
    ap (λ (b : ℤ). unless (is_within (account_at chart n) (changed leg.side leg.amount.0 b)) (Unfunded k b)) (balance_by chart entries n p is)
    ∙ ap (λ (a : Option Account). unless (is_within a (changed leg.side leg.amount.0 (balance_of chart entries n))) (Unfunded k (balance_of chart entries n))) (sym then)

-- the pair that stands at an account's place is the account's
pub pair_here : (pairs : List Pair) (n : ℕ) (p : Pair) → 1 ≤ n → n ≤ length pairs → pair_at pairs n ≡ Some p → get_or pairs (n - 1) (0, 0) ≡ p
pair_here pairs zero p low high at = absurd (omega (arith, low))
pair_here pairs (suc k) p low high at =
    let less : suc k - 1 ≡ k = omega arith in
    ap (λ (i : ℕ). get_or pairs i (0, 0)) less ∙ same_Some (get_or pairs k (0, 0)) p (sym (slice_get-get_or pairs k (0, 0) (omega (arith, high))) ∙ at)

-- who is held by one purse alone is held
pub holds_once : (held : List Holding) (n : ℕ) → HoldsOnce held n → Holds held n
holds_once [] n it = it
holds_once (h ∷ held) n it =
    ⊎_elim
    (λ (here : (h.number ≡ n) × (Holds held n → ⊥)). inl here.0)
    (λ (below : (h.number ≢ n) × HoldsOnce held n). inr (holds_once held n below.1))
    it
