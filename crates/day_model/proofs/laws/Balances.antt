-- What entries and legs do to balances.
use Rattle.std.proofs.Common.{◌≡◌, ℕ, zero, suc, ◌+◌, Bool, true, false, List, [], ◌∷◌, Option, Some, None, refl, sym, ap, ◌∙◌, subst, arith, length}
use Rattle.std.proofs.Common.{take, ℤ, pos, ◌+ℤ◌, ◌-ℤ◌}
use Rattle.std.specs.Prelude.{sum_by, slice_get, unwrap_or}
use Rattle.std.proofs.lemmas.Bool.{false≢true, cond-true, cond-false}
use Rattle.std.proofs.lemmas.Int.{ints}
use Rattle.std.proofs.lemmas.List.Sums.{sum_by_more}
use Rattle.std.proofs.lemmas.Option.{none-some, same_Some, slice_get_within, get_or_from_slice_get}
use Rattle.corr_text.specs.First.{first_of, unless}
use Rattle.day_model.specs.declared.pay.Side.{Side}
use Rattle.day_model.specs.declared.pay.Side.TheVariants.{Debit, Credit}
use Rattle.day_model.specs.declared.pay.Leg.{Leg}
use Rattle.day_model.specs.declared.entry.Entry.{Entry}
use Rattle.day_model.specs.declared.entry.Outcome.{Outcome}
use Rattle.day_model.specs.declared.entry.Outcome.TheVariants.{Booked, Unfunded}
use Rattle.day_model.specs.Chart.{Chart, account_at, chart_at}
use Rattle.day_model.specs.Fit.{amount_on}
use Rattle.day_model.specs.Balance.{is_booked, moved, moved_by, credits_of, debits_of, balance_of, changed, is_within, leg_tests}
pub use Rattle.day_model.proofs.laws.Fitting.{listed_account}

-- one entry more
pub balance_more : (chart : Chart) (entries : List Entry) (n i : ℕ) (e : Entry) → slice_get entries i ≡ Some e
    → balance_of chart (take (i + 1) entries) n ≡ (balance_of chart (take i entries) n +ℤ pos (moved_by Credit n e)) -ℤ pos (moved_by Debit n e)
balance_more chart entries n i e at =
    let lt = slice_get_within entries i e at in
    let item = get_or_from_slice_get entries i e e at in
    let credits : credits_of (take (i + 1) entries) n ≡ credits_of (take i entries) n + moved_by Credit n e =
    sum_by_more (moved_by Credit n) entries i e lt ∙ ap (λ x. credits_of (take i entries) n + moved_by Credit n x) item in
    let debits : debits_of (take (i + 1) entries) n ≡ debits_of (take i entries) n + moved_by Debit n e =
    sum_by_more (moved_by Debit n) entries i e lt ∙ ap (λ x. debits_of (take i entries) n + moved_by Debit n x) item in
    rw (credits, debits) (omega (arith, ints))

-- an entry that isn't booked moves nothing
pub unmoved : (side : Side) (n : ℕ) (e : Entry) → is_booked e.outcome ≡ false → moved_by side n e ≡ 0
unmoved side n e out = cond-false (is_booked e.outcome) (sum_by (moved side n) e.pay.legs) 0 out

-- a booked one moves what its legs do
pub booked_moves : (side : Side) (n : ℕ) (e : Entry) → is_booked e.outcome ≡ true → moved_by side n e ≡ sum_by (moved side n) e.pay.legs
booked_moves side n e out = cond-true (is_booked e.outcome) (sum_by (moved side n) e.pay.legs) 0 out

-- a booked pay has no leg that fails
pub none_fails : (chart : Chart) (entries : List Entry) (k : ℕ) (legs : List Leg) → Booked ≡ unwrap_or (first_of (leg_tests chart entries k legs)) Booked
    → first_of (leg_tests chart entries k legs) ≡ None
none_fails chart entries k [] booked = refl
none_fails chart entries k (leg ∷ legs) booked =
    let balance = balance_of chart entries leg.account.0 in
    let rest = leg_tests chart entries (k + 1) legs in
    elim (is_within (account_at (chart_at chart (length entries)) leg.account.0) (changed leg.side leg.amount.0 balance))
    as (λ (b : Bool). Booked ≡ unwrap_or (first_of (unless b (Unfunded k balance) ∷ rest)) Booked → first_of (unless b (Unfunded k balance) ∷ rest) ≡ None) [
      | true ↦ λ h. none_fails chart entries (k + 1) legs h
      | false ↦ λ h. absurd (false≢true (sym (ap is_booked h)))
    ] booked

head_passes : (b : Bool) (out : Outcome) (more : List (Option Outcome)) → first_of (unless b out ∷ more) ≡ None → (b ≡ true) × (first_of more ≡ None)
head_passes true out more none = (refl, none)
head_passes false out more none = absurd (none-some out (sym none))

-- where no leg fails, each leaves its account within its limits
pub all_pass : (chart : Chart) (entries : List Entry) (k : ℕ) (legs : List Leg) (i : ℕ) (leg : Leg) → first_of (leg_tests chart entries k legs) ≡ None
    → slice_get legs i ≡ Some leg
    → is_within (account_at (chart_at chart (length entries)) leg.account.0) (changed leg.side leg.amount.0 (balance_of chart entries leg.account.0)) ≡ true
all_pass chart entries k [] i leg none at = absurd (none-some leg at)
all_pass chart entries k (x ∷ legs) i leg none at =
    let balance = balance_of chart entries x.account.0 in
    let parts =
    head_passes (is_within (account_at (chart_at chart (length entries)) x.account.0) (changed x.side x.amount.0 balance)) (Unfunded k balance) (leg_tests chart entries (k + 1) legs)
    none in
    elim i as (λ (j : ℕ). slice_get (x ∷ legs) j ≡ Some leg
    → is_within (account_at (chart_at chart (length entries)) leg.account.0) (changed leg.side leg.amount.0 (balance_of chart entries leg.account.0)) ≡ true) [
      | zero ↦ λ here. subst
          (λ (l : Leg). is_within (account_at (chart_at chart (length entries)) l.account.0) (changed l.side l.amount.0 (balance_of chart entries l.account.0)) ≡ true)
          (same_Some x leg here) parts.0
      | suc j ↦ λ later. all_pass chart entries (k + 1) legs j leg parts.1 later
    ] at

-- a balance with a leg on it
pub leg_changes : (side : Side) (leg : Leg) (balance : ℤ) → leg.side ≡ side
    → (balance +ℤ pos (amount_on Credit leg)) -ℤ pos (amount_on Debit leg) ≡ changed leg.side leg.amount.0 balance
leg_changes Debit leg balance is = rw is (omega (arith, ints))
leg_changes Credit leg balance is = rw is (omega (arith, ints))
