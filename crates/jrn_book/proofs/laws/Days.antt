-- No entry of a legal history is later than its last.
use Rattle.std.proofs.Common.{◌≡◌, ℕ, ◌-◌, List, length, Some, sym, ap, ◌∙◌, subst, arith, ◌≤ℤ◌, inl, inr}
use Rattle.std.specs.Prelude.{slice_get}
use Rattle.std.proofs.lemmas.Bool.{cases_lt}
use Rattle.std.proofs.lemmas.Int.{ints}
use Rattle.std.proofs.lemmas.Option.{slice_get_within, same_Some}
use Rattle.corr_ids.specs.declared.day.Day.{Day}
use Rattle.day_model.specs.declared.entry.Entry.{Entry}
use Rattle.day_model.specs.Chart.{Chart}
use Rattle.day_model.specs.Laws.{IsLatest}
use Rattle.day_model.specs.Legal.{IsLegal}

-- so a day that is no earlier than the last entry's is the latest
pub latest_by_last : (chart : Chart) (entries : List Entry) (count : ℕ) (last : Entry) (day : Day) → IsLegal chart entries → count ≡ length entries → slice_get entries (count - 1) ≡ Some last
    → last.day.0 ≤ℤ day.0 → IsLatest entries day
latest_by_last chart entries count last day legal is here before = λ i e at.
    let within = slice_get_within entries i e at in
    elim (cases_lt i (count - 1)) [
      | inl less ↦
          let earlier = legal.rules.days i (count - 1) e last less at here in
          omega (arith, ints, earlier, before)
      | inr more ↦
          let same : i ≡ count - 1 = omega (arith, within, is, more) in
          let one : e ≡ last = same_Some e last (sym at ∙ ap (slice_get entries) same ∙ here) in
          subst (λ (x : Entry). x.day.0 ≤ℤ day.0) (sym one) before
    ]
