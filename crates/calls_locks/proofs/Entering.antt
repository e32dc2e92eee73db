-- A change, and a first entry.
use Rattle.std.proofs.Common.{◌≡◌, ◌++◌, ◌≤◌, ℤ, false, List, [], ◌∷◌, Option, length, ◌∙◌, ap, sym, subst, arith}
use Rattle.std.specs.Prelude.{◌↔◌, IsNone, is_some}
use Rattle.std.proofs.lemmas.Option.{none-some}
use Rattle.corr_ids.specs.declared.day.Day.{Day}
use Rattle.day_model.specs.declared.change.Refusal.{Refusal}
use Rattle.day_model.specs.declared.change.What.{What}
use Rattle.day_model.specs.declared.pay.Pay.{Pay}
use Rattle.day_model.specs.declared.entry.Entry.{Entry}
use Rattle.day_model.specs.declared.entry.Outcome.{Outcome}
use Rattle.day_model.specs.Balance.{balance_of, outcome_of}
use Rattle.day_model.specs.Chart.{Chart, accounts_of, with_change}
use Rattle.day_model.specs.Laws.{StaysLegal}
use Rattle.day_model.specs.Legal.{IsLegal, IsLegalChange, balance_named}
use Rattle.day_model.proofs.laws.Changing.{legal_with_change}

-- a change that isn't refused keeps the history legal
pub may_change : (chart : Chart) (entries : List Entry) (what : What) (b : ℤ) (o : Option Refusal) → IsLegal chart entries → length chart.changes ≤ 9
    → b ≡ balance_named (balance_of chart entries) what → (IsNone o ↔ IsLegalChange (accounts_of chart) b what) → is_some o ≡ false
    → IsLegal (with_change chart (length entries) what) entries
may_change chart entries what b o legal few named only none =
    legal_with_change chart entries what legal (omega (arith, few))
    (subst (λ (z : ℤ). IsLegalChange (accounts_of chart) z what) named (only.0 none))

-- a first entry with its outcome is a legal history
pub first_entry : (chart : Chart) (old new : List Entry) (pay : Pay) (day : Day) (outcome : Outcome) → old ≡ [] → StaysLegal chart old pay
    → outcome ≡ outcome_of chart old pay → new ≡ old ++ record { pay = pay; day = day; outcome = outcome } ∷ [] → IsLegal chart new
first_entry chart old new pay day outcome none stays is grown =
    let empty : StaysLegal chart [] pay = subst (λ (es : List Entry). StaysLegal chart es pay) none stays in
    let only : new ≡ record { pay = pay; day = day; outcome = outcome_of chart [] pay } ∷ [] =
    grown ∙ ap (λ (es : List Entry). es ++ record { pay = pay; day = day; outcome = outcome } ∷ []) none
    ∙ ap (λ (o : Outcome). record { pay = pay; day = day; outcome = o } ∷ []) (is ∙ ap (λ (es : List Entry). outcome_of chart es pay) none) in
    subst (IsLegal chart) (sym only) (empty day (λ i e at. absurd (none-some e at)) (omega arith))
