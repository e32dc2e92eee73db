-- One pay that was entered with the one pass of its books.
use Rattle.std.proofs.Common.{◌≡◌, ◌⊎◌, Bool, true, false, ℕ, zero, suc, List, [], ◌∷◌, ◌++◌, Some, None, Ok, inl, inr, refl, sym, ap, ◌∙◌, subst, arith, if◌then◌else◌, is_some, Option}
use Rattle.std.specs.Prelude.{slice_get}
use Rattle.std.proofs.lemmas.Option.{none-some, same_Some}
use Rattle.corr_books.specs.Opening.{Opening}
use Rattle.corr_books.specs.Telling.{Told}
use Rattle.corr_ids.specs.declared.day.Day.{Day}
use Rattle.day_model.specs.Balance.{outcome_of}
use Rattle.day_model.specs.Chart.{Chart}
use Rattle.day_model.specs.Next.{entered_at, entry_of, fold_of, next_history}
use Rattle.day_model.specs.Shape.{HasShape}
use Rattle.day_model.specs.declared.entry.Entry.{Entry}
use Rattle.day_model.specs.declared.entry.Outcome.{Outcome}
use Rattle.day_model.specs.declared.entry.Outcome.TheVariants.{Booked}
use Rattle.day_model.specs.declared.pay.Pay.{Pay}
use Rattle.front_word.specs.Known.{PassKnows}
use Rattle.jrn_book.specs.Answers.{Answer}
use Rattle.jrn_book.specs.Batches.{entered_of, history_with, lacks_room}
use Rattle.work_pool.specs.Served.{ServedWith, StandsIn}
use Rattle.corr_top.specs.Booking.{EntersFront}
use Rattle.corr_top.specs.Returned.{booked_on}
use Rattle.corr_top.specs.inner.Serving.{Serves, halt_of, served_of, starting}
use Rattle.corr_top.specs.inner.Workers.{Worker}
use Rattle.corr_top.specs.declared.desk.Served.{Served}
use Rattle.corr_top.proofs.Batches.{HaveServed}

-- ---- one job, dealt to one pass

-- the place of what stands in a list of one
pub only_place : {A : Type 0} (x y : A) (k : ℕ) → slice_get (x ∷ []) k ≡ Some y → (k ≡ 0) × (x ≡ y)
only_place x y zero at = (refl, same_Some x y at)
only_place x y (suc k) at = absurd (none-some y at)

abbrev one_list : List (List ℕ)
one_list = (1 ∷ []) ∷ []

only_there : (k n : ℕ) → StandsIn one_list k n → (k ≡ 0) × (1 ≡ n)
only_there k n stands =
    let here = only_place (1 ∷ []) stands.0 k stands.1 in
    let there = only_place 1 n stands.2 (subst (λ (l : List ℕ). slice_get l stands.2 ≡ Some n) (sym here.1) stands.3) in (here.0, there.1)

module _ (o : Opening) (pay : Pay) (q p : PassKnows) (made : Served) (answer : Answer) (told : Told o pay q answer p) (shape : HasShape pay) (is : made ≡ served_of pay.mir answer) where
  -- the pass afterwards, as that of a worker
  abbrev pub afterwards : Worker
  afterwards = record { pass = p; halted = halt_of made }

  abbrev pub Serving : Worker → Pay → Worker → Served → Type 0
  Serving old job next one = Serves o (Ok job) old next one

  served_once : Serves o (Ok pay) (starting q) afterwards made
  served_once = inl (refl, inr (answer, told, shape, is), refl)

  pub one_served : HaveServed Serving (starting q ∷ []) (pay ∷ []) (afterwards ∷ []) (made ∷ [])
  one_served = record {
    lists = one_list;
    one_each = refl;
    rising = λ one k numbers at i j m n less first second.
        let here = only_place (1 ∷ []) numbers k at in
        let later = only_place 1 n j (subst (λ (l : List ℕ). slice_get l j ≡ Some n) (sym here.1) second) in
        absurd (omega (arith, less, later.0));
    jobs_only = λ k n stands. let is = (only_there k n stands).1 in (omega (arith, is), omega (arith, is));
    every_job = λ n low high. (0, (1 ∷ [], refl, 0, ap (λ (x : ℕ). Some x) (let is : 1 ≡ n = omega (arith, low, high) in is)));
    passes = refl;
    replies_count = refl;
    served = λ k numbers pass next at before after.
        let l = only_place (1 ∷ []) numbers k at in
        let b = only_place (starting q) pass k before in
        let a = only_place afterwards next k after in
        subst (λ (x : List ℕ × (Worker × Worker)). ServedWith Serving (pay ∷ []) (made ∷ []) x.0 x.1.0 x.1.1) (λ i. (l.1 i, (b.1 i, a.1 i)))
        (pay, made, afterwards, refl, refl, served_once, refl);
  }

-- ---- a pay that is new and booked is the one entry more

pub one_booked : (chart : Chart) (history : List Entry) (pay : Pay) (day : Day) → entered_at pay.mir history ≡ None → outcome_of chart history pay ≡ Booked
    → fold_of chart history (pay ∷ []) day ≡ history ++ booked_on day pay ∷ []
one_booked chart history pay day new funded =
    ap (λ (o : Option ℕ). if is_some o then history else history ++ entry_of chart history pay day ∷ []) new
    ∙ ap (λ (x : Outcome). history ++ record { pay = pay; day = day; outcome = x } ∷ []) funded

either : (b : Bool) (x y : List Entry) → ((if b then x else y) ≡ x) ⊎ ((if b then x else y) ≡ y)
either true x y = inl refl
either false x y = inr refl

-- where its entering stopped, it is entered or not
pub one_entered : (chart : Chart) (history : List Entry) (pay : Pay) (day : Day) (left : List Entry) → entered_at pay.mir history ≡ None → outcome_of chart history pay ≡ Booked → EntersFront chart history (pay ∷ []) day left
    → (left ≡ history) ⊎ (left ≡ history ++ booked_on day pay ∷ [])
one_entered chart history pay day left new funded e = by_front e.front e.rest e.pays_are e.left_is
  where
    by_front : (front rest : List Pay) → pay ∷ [] ≡ front ++ rest → left ≡ entered_of chart history front day → (left ≡ history) ⊎ (left ≡ history ++ booked_on day pay ∷ [])
    by_front [] rest is left_is = inl left_is
    by_front (p ∷ []) rest is left_is =
        let same : p ≡ pay = cc (is) in
        let now = left_is ∙ ap (λ (x : Pay). history_with chart history x day) same in
        elim (either (lacks_room chart history pay day) history (next_history chart history pay day)) [
          | inl none ↦ inl (now ∙ none)
          | inr one ↦ inr (now ∙ one ∙ one_booked chart history pay day new funded)
        ]
    by_front (p ∷ q ∷ more) rest is left_is = absurd (cc (is))
