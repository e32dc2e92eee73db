-- Which entries may stand next in a legal history.
use Rattle.std.proofs.Common.{◌≡◌, List, [], ◌∷◌, ◌++◌, length, sym, ap, ◌∙◌, subst, arith, length-append}
use Rattle.std.specs.Prelude.{is_some}
use Rattle.std.proofs.Math.Seq.{take-append_seam}
use Rattle.std.proofs.lemmas.Option.{slice_get_within}
use Rattle.day_model.specs.declared.entry.Entry.{Entry}
use Rattle.day_model.specs.Balance.{outcome_of}
use Rattle.day_model.specs.Chart.{Chart}
use Rattle.day_model.specs.Legal.{IsLegal}
use Rattle.day_model.specs.Next.{entry_of}
use Rattle.day_model.proofs.laws.Folds.{get_at, new_before}
use Rattle.day_model.proofs.laws.Fronts.{fits_now}
use Rattle.day_model.proofs.laws.Growth.{one_pay_more}
use Rattle.day_model.proofs.laws.Slices.{front_get}
use Rattle.jrn_book.specs.inner.Following.{MayStandNext}

-- an entry may stand next
pub next_is_legal : (chart : Chart) (history : List Entry) (e : Entry) → IsLegal chart history → MayStandNext chart history e → IsLegal chart (history ++ e ∷ [])
next_is_legal chart history e legal follows =
    let is : entry_of chart history e.pay e.day ≡ e = λ i. record { pay = e.pay; day = e.day; outcome = (sym follows.decided) i } in
    subst (λ (x : Entry). IsLegal chart (history ++ x ∷ [])) is
    (one_pay_more chart history e.pay e.day legal follows.fits follows.latest follows.few (ap is_some follows.new))

-- and only then
pub legal_follows : (chart : Chart) (history : List Entry) (e : Entry) → IsLegal chart (history ++ e ∷ []) → MayStandNext chart history e
legal_follows chart history e legal =
    let there = get_at history e [] in
    record {
      few = omega (arith, legal.rules.short, length-append history (e ∷ []));
      fits = fits_now chart (history ++ e ∷ []) (length history) e legal there;
      new = new_before chart history e [] legal.rules;
      latest = λ i x at. legal.rules.days i (length history) x e (slice_get_within history i x at) (front_get history (e ∷ []) i x at) there;
      decided = legal.rules.decided (length history) e there ∙ ap (λ (es : List Entry). outcome_of chart es e.pay) (take-append_seam history (e ∷ []));
    }
