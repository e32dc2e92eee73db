-- The tests of a pay's legs, one after another.
use Rattle.std.proofs.Common.{◌≡◌, ℕ, ◌+◌, ◌<◌, Bool, List, [], ◌∷◌, Option, Some, None, refl, sym, ap, ◌∙◌, length, drop, get_or}
use Rattle.std.proofs.lemmas.List.{drop_more}
use Rattle.std.specs.Prelude.{◌-◌, slice_get, ℤ}
use Rattle.corr_text.specs.First.{first_of, unless}
use Rattle.day_model.specs.declared.pay.Leg.{Leg}
use Rattle.day_model.specs.declared.entry.Entry.{Entry}
use Rattle.day_model.specs.declared.entry.Outcome.{Outcome}
use Rattle.day_model.specs.declared.account.Account.{Account}
use Rattle.day_model.specs.declared.entry.Outcome.TheVariants.{Unfunded}
use Rattle.day_model.specs.Chart.{AreBy, Chart, account_at, chart_at}
use Rattle.day_model.specs.Balance.{balance_of, changed, is_within, leg_test, leg_tests}
use Rattle.day_model.proofs.laws.Changes.{accounts_now}

-- the first fault of the legs is that of the legs from the i-th on
pub record NoneBefore (chart : Chart) (entries : List Entry) (legs : List Leg) (i : ℕ) : Type 0 where
  pub later : first_of (leg_tests chart entries 1 legs) ≡ first_of (leg_tests chart entries (i + 1) (drop i legs))

tests_here : (chart : Chart) (entries : List Entry) (legs : List Leg) (i : ℕ) (leg : Leg) → get_or legs i leg ≡ leg → i < length legs
    → leg_tests chart entries (i + 1) (drop i legs) ≡ leg_test chart entries (i + 1) leg ∷ leg_tests chart entries (i + 1 + 1) (drop (i + 1) legs)
tests_here chart entries legs i leg at lt =
    ap (leg_tests chart entries (i + 1)) (drop_more legs i leg lt) ∙ ap (λ (x : Leg). leg_tests chart entries (i + 1) (x ∷ drop (i + 1) legs)) at

pub none_before : (chart : Chart) (entries : List Entry) (legs : List Leg) → NoneBefore chart entries legs 0
none_before chart entries legs = record { later = refl }

pub none_more : (chart : Chart) (entries : List Entry) (legs : List Leg) (i : ℕ) (leg : Leg) → NoneBefore chart entries legs i
    → get_or legs i leg ≡ leg → i < length legs → leg_test chart entries (i + 1) leg ≡ None → NoneBefore chart entries legs (i + 1)
none_more chart entries legs i leg before at lt none = record {
  later = before.later ∙ ap first_of (tests_here chart entries legs i leg at lt)
      ∙ ap (λ o. first_of (o ∷ leg_tests chart entries (i + 1 + 1) (drop (i + 1) legs))) none;
}

pub fault_here : (chart : Chart) (entries : List Entry) (legs : List Leg) (i : ℕ) (leg : Leg) (out : Outcome) → NoneBefore chart entries legs i
    → get_or legs i leg ≡ leg → i < length legs → leg_test chart entries (i + 1) leg ≡ Some out → first_of (leg_tests chart entries 1 legs) ≡ Some out
fault_here chart entries legs i leg out before at lt some =
    before.later ∙ ap first_of (tests_here chart entries legs i leg at lt)
    ∙ ap (λ o. first_of (o ∷ leg_tests chart entries (i + 1 + 1) (drop (i + 1) legs))) some

pub none_at_all : (chart : Chart) (entries : List Entry) (legs : List Leg) (i : ℕ) → NoneBefore chart entries legs i → drop i legs ≡ []
    → first_of (leg_tests chart entries 1 legs) ≡ None
none_at_all chart entries legs i before end = before.later ∙ ap (λ ls. first_of (leg_tests chart entries (i + 1) ls)) end

-- a leg passes where it leaves its account within the limits, and fails with the balance before it where it doesn't
pub leg_tested : (chart : Chart) (entries : List Entry) (k : ℕ) (leg : Leg) (a : Account) (b : ℤ) (pass : Bool) → AreBy (length entries) chart → account_at chart leg.account.0 ≡ Some a
    → b ≡ balance_of chart entries leg.account.0 → is_within (Some a) (changed leg.side leg.amount.0 b) ≡ pass
    → leg_test chart entries k leg ≡ unless pass (Unfunded k b)
leg_tested chart entries k leg a b pass by there is tested =
    let now : account_at (chart_at chart (length entries)) leg.account.0 ≡ Some a =
    ap (λ (accounts : List Account). slice_get accounts (leg.account.0 - 1)) (accounts_now chart (length entries) by) ∙ there in
    let e : is_within (account_at (chart_at chart (length entries)) leg.account.0) (changed leg.side leg.amount.0 (balance_of chart entries leg.account.0)) ≡ pass =
    ap (λ (o : Option Account). is_within o (changed leg.side leg.amount.0 (balance_of chart entries leg.account.0))) now
    ∙ ap (λ (x : ℤ). is_within (Some a) (changed leg.side leg.amount.0 x)) (sym is) ∙ tested in
    ap (λ (t : Bool). unless t (Unfunded k (balance_of chart entries leg.account.0))) e ∙ ap (λ (x : ℤ). unless pass (Unfunded k x)) (sym is)
