-- A front part of pays that was entered, as long as it can be.
use Rattle.std.proofs.Common.{◌≡◌, inl, inr, ℕ, List, [], ◌∷◌, ◌++◌, Option, None, Some, refl, sym, ◌∙◌, subst, append_assoc}
use Rattle.corr_ids.specs.declared.day.Day.{Day}
use Rattle.day_model.specs.declared.entry.Entry.{Entry}
use Rattle.day_model.specs.declared.pay.Pay.{Pay}
use Rattle.day_model.specs.Chart.{Chart}
use Rattle.day_model.specs.Next.{entered_at}
use Rattle.jrn_book.specs.Batches.{entered_of, history_with}
use Rattle.jrn_book.proofs.laws.Rooms.{with_known}
use Rattle.corr_top.specs.Booking.{EntersFront}

-- one pay more
pub entered_last : (chart : Chart) (h : List Entry) (pays : List Pay) (pay : Pay) (day : Day) → entered_of chart h (pays ++ pay ∷ []) day ≡ history_with chart (entered_of chart h pays day) pay day
entered_last chart h [] pay day = refl
entered_last chart h (p ∷ pays) pay day = entered_last chart (history_with chart h p day) pays pay day

-- where pays are entered one after another, those after them that are entered too belong to the front part
pub front_on : (chart : Chart) (history : List Entry) (front rest : List Pay) (day : Day) (left : List Entry) → left ≡ entered_of chart history front day → EntersFront chart history (front ++ rest) day left
front_on chart history front [] day left is = record { front = front; rest = []; pays_are = refl; left_is = is; next = inl refl }
front_on chart history front (pay ∷ more) day left is = cases (entered_at pay.mir left) refl (front_on chart history (front ++ pay ∷ []) more day left)
  where
    cases : (found : Option ℕ) → entered_at pay.mir left ≡ found → (left ≡ entered_of chart history (front ++ pay ∷ []) day → EntersFront chart history ((front ++ pay ∷ []) ++ more) day left) → EntersFront chart history (front ++ pay ∷ more) day left
    cases None new longer = record { front = front; rest = pay ∷ more; pays_are = refl; left_is = is; next = inr (record { pay = pay; more = more; pays_are = refl; new = new }) }
    cases (Some place) known longer =
        let here : entered_at pay.mir (entered_of chart history front day) ≡ Some place = subst (λ (h : List Entry). entered_at pay.mir h ≡ Some place) is known in
        let same = is ∙ sym (entered_last chart history front pay day ∙ with_known chart (entered_of chart history front day) pay day place here) in
        subst (λ (pays : List Pay). EntersFront chart history pays day left) (append_assoc front (pay ∷ []) more) (longer same)
