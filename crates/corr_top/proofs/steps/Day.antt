-- The day against that of the last entry.
use Rattle.std.proofs.Common.{◌≡◌, List, [], ◌∷◌, ◌++◌, length, Some, refl, sym, ap, ◌∙◌, subst, arith}
use Rattle.std.specs.Prelude.{slice_get}
use Rattle.std.proofs.lemmas.Int.{ints}
use Rattle.corr_ids.specs.declared.day.Day.{Day}
use Rattle.day_model.specs.declared.entry.Entry.{Entry}
use Rattle.day_model.specs.Laws.{IsLatest}
use Rattle.corr_top.specs.Booking.{IsBack}
use Rattle.corr_top.specs.Steps.{Step}
use Rattle.corr_top.proofs.Walking.{walked}
use Rattle.corr_top.proofs.steps.Laws.{Agrees, IsStop, StepLaws}

day_memory : (history meant : List Entry) (day : Day) (stop : Day) → history ≡ meant → IsLatest meant day → IsBack history day stop → ⊥
day_memory history meant day stop same latest back =
    let at : slice_get meant (length back.front) ≡ Some back.last = ap (λ (es : List Entry). slice_get es (length back.front)) (sym (sym back.history_is ∙ same)) ∙ at_end back.front back.last in
    let le = latest (length back.front) back.last at in
    let less = back.after in
    omega (arith, ints, le, less)
  where
    at_end : (front : List Entry) (last : Entry) → slice_get (front ++ last ∷ []) (length front) ≡ Some last
    at_end [] last = refl
    at_end (x ∷ front) last = at_end front last

pub of_day : StepLaws Step.day
of_day = record {
  agrees = λ x ready passes. tt;
  memory = λ x s done after all ready stops.
      absurd (day_memory x.read.history x.told.history x.told.day stops.0 (walked (Agrees x.read x.told) done Step.open_journal all after).history ready
      (subst (λ (on : Day). IsBack x.read.history on stops.0) x.day stops.2));
  line = λ x s stops. subst IsStop (sym stops.1) (record { line = stops.2.century; silent = refl });
}
