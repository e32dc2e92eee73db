-- The texts of the entry that takes a payment back, and what is sent of it.
use Rattle.std.proofs.Common.{◌≡◌, ℕ, ◌+◌, ◌-◌, ◌≤◌, All, List, [], ◌∷◌, ◌++◌, Some, refl, sym, ap, ◌∙◌, subst, arith, length, length-append, append-nil, drop}
use Rattle.std.specs.Prelude.{slice_get}
use Rattle.std.proofs.lemmas.Option.{same_Some}
use Rattle.advices.specs.Messages.{messages_of}
use Rattle.advices.specs.Valid.{IsAccepted, IsNotice, IsOwnPay, NoticesAccepted}
use Rattle.corr_ids.specs.declared.day.Day.{Day}
use Rattle.corr_report.specs.Bookings.{booking_line}
use Rattle.corr_report.specs.Lines.{numbered}
use Rattle.day_model.specs.Chart.{Chart}
use Rattle.day_model.specs.Shape.{HasShape}
use Rattle.day_model.specs.declared.entry.Entry.{Entry}
use Rattle.day_model.specs.declared.pay.Pay.{Pay}
use Rattle.day_model.proofs.laws.Folds.{get_at}
use Rattle.front_word.proofs.laws.Prefixes.{get_below}
use Rattle.jrn_book.specs.Journal.{IsJournal}
use Rattle.jrn_codec.specs.Record.{IsEntry}
use Rattle.pay_returns.proofs.laws.Owned.{return-own}
use Rattle.pay_returns.specs.Laws.{HoldsReturn}
use Rattle.pay_returns.specs.Making.{MayReturn}
use Rattle.ref_tables.specs.Seen.{Tables}
use Rattle.corr_top.specs.Origin.{AreSentValid}
use Rattle.corr_top.specs.Out.{entry_out, parted_all}
use Rattle.corr_top.specs.inner.Returning.{GivesLast}
use Rattle.corr_top.specs.declared.writing.Texts.{Texts}
use Rattle.corr_top.proofs.Replying.{get_all}

-- ---- lines and messages of the last entry

drop_front : {A : Type 0} (xs : List A) (x : A) → drop (length xs) (xs ++ x ∷ []) ≡ x ∷ []
drop_front [] x = refl
drop_front (y ∷ xs) x = drop_front xs x

-- from the last place on there is one text
pub numbered_last : {A : Type 0} (text_of : ℕ → A → List ℕ) (xs : List A) (x : A) → numbered text_of (length xs + 1) (drop (length xs + 1 - 1) (xs ++ x ∷ [])) ≡ text_of (length xs + 1) x
numbered_last {A} text_of xs x =
    let here : length xs + 1 - 1 ≡ length xs = omega arith in
    ap (λ (n : ℕ). numbered text_of (length xs + 1) (drop n (xs ++ x ∷ []))) here
    ∙ ap (λ (l : List A). numbered text_of (length xs + 1) l) (drop_front xs x) ∙ append-nil (text_of (length xs + 1) x)

-- the last place
pub last_place : {A : Type 0} (xs : List A) (x : A) → length (xs ++ x ∷ []) ≡ length xs + 1
last_place xs x = length-append xs (x ∷ [])

-- what stands after the others is the last one
only_last : {A : Type 0} (xs : List A) (x y : A) (i : ℕ) → length xs + 1 ≤ i + 1 → slice_get (xs ++ x ∷ []) i ≡ Some y → (i ≡ length xs) × (x ≡ y)
only_last xs x y i after at =
    let below = get_below (xs ++ x ∷ []) i y at in
    let here : i ≡ length xs = omega (arith, after, below, last_place xs x) in
    (here, same_Some x y (sym (get_at xs x []) ∙ ap (slice_get (xs ++ x ∷ [])) (sym here) ∙ at))

-- the texts of an entry, by its line and its messages
pub gives_last : (chart : Chart) (place : ℕ) (e entry : Entry) (messages : List (List ℕ)) (report out : List ℕ) → e ≡ entry → report ≡ booking_line chart place entry → out ≡ parted_all messages
    → messages ≡ messages_of chart e place → NoticesAccepted chart e.pay messages → GivesLast chart place entry (record { report = report; out = out })
gives_last chart place e entry messages report out same line sent are accepted = (
  line,
  sent ∙ ap parted_all are ∙ ap (entry_out chart place) same,
  subst (λ (x : Entry). NoticesAccepted chart x.pay (messages_of chart x place)) same (subst (NoticesAccepted chart e.pay) are accepted),
)

-- the same of the last entry, whose place is this
pub at_end : (chart : Chart) (history : List Entry) (n : ℕ) (texts : Texts) → n ≡ length history → ((entry : Entry) → slice_get history (n - 1) ≡ Some entry → GivesLast chart n entry texts)
    → (entry : Entry) → slice_get history (length history - 1) ≡ Some entry → GivesLast chart (length history) entry texts
at_end chart history n texts is gives = subst (λ (m : ℕ). (entry : Entry) → slice_get history (m - 1) ≡ Some entry → GivesLast chart m entry texts) is gives

-- where the messages of the last entry are accepted, all that is sent from its place on is
pub last_valid : (t : Tables) (chart : Chart) (history : List Entry) (e : Entry) → All (IsAccepted chart.home t) (messages_of chart e (length history + 1)) → AreSentValid t chart (length history + 1) (history ++ e ∷ [])
last_valid t chart history e accepted = λ i other after at.
    let last = only_last history e other i after at in
    subst (λ (x : ℕ × Entry). All (IsAccepted chart.home t) (messages_of chart x.1 (x.0 + 1))) (λ k. (sym last.0 k, last.1 k)) accepted

-- ---- a return is a pay of the home bank's own

module _ (chart : Chart) (history : List Entry) (place : ℕ) (day : Day) (pay : Pay) (may : MayReturn chart history place day pay) (before : IsJournal chart history) where
  -- its messages are accepted under tables that hold what they say
  pub return_valid : HasShape pay → (t : Tables) → HoldsReturn t chart pay → IsOwnPay t chart pay × All (IsNotice t) pay.orders
  return_valid shape t holds = return-own t chart history place day pay before.book before.legal before.head.home shape may.new.is holds

-- the pay of the last entry of a journal can be written down
pub last_shape : (chart : Chart) (history : List Entry) (e : Entry) → IsJournal chart (history ++ e ∷ []) → HasShape e.pay
last_shape chart history e journal = (get_all IsEntry (history ++ e ∷ []) (length history) e journal.entries (get_at history e [])).pay
