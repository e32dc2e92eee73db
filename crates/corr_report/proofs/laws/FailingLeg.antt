-- The leg that the outcome of an entry names.
use Rattle.std.proofs.Common.{◌≡◌, ℕ, ◌+◌, ◌≤◌, List, [], ◌∷◌, length, take, inl, inr, subst, sym, arith, unwrap_or}
use Rattle.std.specs.Prelude.{slice_get, Some}
use Rattle.std.proofs.lemmas.Bool.{cases_Bool}
use Rattle.corr_text.specs.First.{first_of}
use Rattle.day_model.specs.declared.entry.Entry.{Entry}
use Rattle.day_model.specs.declared.entry.Outcome.TheVariants.{Booked}
use Rattle.day_model.specs.declared.pay.Leg.{Leg}
use Rattle.day_model.specs.Balance.{balance_of, changed, is_within, leg_tests}
use Rattle.day_model.specs.Chart.{Chart, account_at, chart_at}
use Rattle.day_model.specs.Legal.{IsLegal}
use Rattle.corr_report.specs.inner.Outcomes.{NamesLeg}

names_from : (chart : Chart) (entries : List Entry) (n count : ℕ) (legs : List Leg) → 1 ≤ n → n + length legs ≤ count + 1 → NamesLeg count (unwrap_or (first_of (leg_tests chart entries n legs)) Booked)
names_from chart entries n count [] from upto = tt
names_from chart entries n count (leg ∷ legs) from upto =
    elim (cases_Bool (is_within (account_at (chart_at chart (length entries)) leg.account.0) (changed leg.side leg.amount.0 (balance_of chart entries leg.account.0)))) [
      | inl e ↦ rw e (names_from chart entries (n + 1) count legs (omega arith) (omega arith))
      | inr e ↦ rw e (from, omega arith)
    ]

-- of a legal history it is one of the pay's
pub names_leg : (chart : Chart) (entries : List Entry) (i : ℕ) (e : Entry) → IsLegal chart entries → slice_get entries i ≡ Some e → NamesLeg (length e.pay.legs) e.outcome
names_leg chart entries i e legal at =
    subst (NamesLeg (length e.pay.legs)) (sym (legal.rules.decided i e at)) (names_from chart (take i entries) 1 (length e.pay.legs) e.pay.legs (omega arith) (omega arith))
