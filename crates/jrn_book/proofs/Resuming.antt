-- Runs that are given again.
use Rattle.std.proofs.Common.{◌≡◌, ℕ, List, [], ◌∷◌, ◌++◌, sym, ap, ◌∙◌, subst, inl, inr}
use Rattle.std.proofs.lemmas.List.{append_assoc}
use Rattle.corr_disk.specs.Disk.{LeavesOnly}
use Rattle.corr_ids.specs.declared.day.Day.{Day}
use Rattle.day_model.specs.declared.pay.Pay.{Pay}
use Rattle.day_model.specs.declared.entry.Entry.{Entry}
use Rattle.day_model.specs.Chart.{Chart}
use Rattle.day_model.specs.Next.{fold_of, next_history}
use Rattle.day_model.proofs.laws.Growth.{fold_again, fold_of_append}
use Rattle.jrn_book.specs.Journal.{IsBeforeOrNext}
use Rattle.jrn_book.specs.Resuming.{IsResumable, ResumesRun}

-- with the history of a run so far
pub resumes_here : (chart : Chart) (start history : List Entry) (done more : List Pay) (day : Day) → history ≡ fold_of chart start done day → ResumesRun chart start (done ++ more) day history
resumes_here chart start history done more day is =
    ap (λ (h : List Entry). fold_of chart h (done ++ more) day) is ∙ fold_again chart start done more day

-- and with that after the next pay
pub resumes_next : (chart : Chart) (start history : List Entry) (done more : List Pay) (p : Pay) (day : Day) → history ≡ fold_of chart start done day
    → ResumesRun chart start (done ++ p ∷ more) day (next_history chart history p day)
resumes_next chart start history done more p day is =
    let next : List Entry = next_history chart history p day in
    let so_far : next ≡ fold_of chart start (done ++ p ∷ []) day =
    ap (λ (h : List Entry). next_history chart h p day) is ∙ sym (fold_of_append chart start done (p ∷ []) day) in
    subst (λ (pays : List Pay). ResumesRun chart start pays day next) (append_assoc done (p ∷ []) more)
    (resumes_here chart start next (done ++ p ∷ []) more day so_far)

-- so what stands for either may be resumed
resumable : (chart : Chart) (start history : List Entry) (done more : List Pay) (p : Pay) (day : Day) (image : List ℕ) → history ≡ fold_of chart start done day
    → IsBeforeOrNext chart history p day image → IsResumable chart start (done ++ p ∷ more) day image
resumable chart start history done more p day image is it =
    elim it [
      | inl before ↦ record { history = history; stands = before; again = resumes_here chart start history done (p ∷ more) day is }
      | inr next ↦ record { history = next_history chart history p day; stands = next; again = resumes_next chart start history done more p day is }
    ]

pub all_resumable : {D : Type 0} (moment : D → ℕ) (left_since : D → ℕ → List ℕ → Type 0) (old new : D) (chart : Chart) (start history : List Entry) (done more : List Pay) (p : Pay) (day : Day)
    → history ≡ fold_of chart start done day
    → LeavesOnly moment left_since old new (IsBeforeOrNext chart history p day)
    → LeavesOnly moment left_since old new (IsResumable chart start (done ++ p ∷ more) day)
all_resumable moment left_since old new chart start history done more p day is leaves = record {
  later = leaves.later;
  each = λ c left. resumable chart start history done more p day c is (leaves.each c left);
  before = λ t c le left. elim (leaves.before t c le left) [
    | inl earlier ↦ inl earlier
    | inr here ↦ inr (resumable chart start history done more p day c is here)
  ];
}
