-- A legal history is what one thread makes of the pays of its entries, in their order.
use Rattle.std.proofs.Common.{◌≡◌, ℕ, suc, ◌+◌, Bool, false, List, [], ◌∷◌, ◌++◌, Option, Some, None, cond, length, map, take, refl, sym, ap, ◌∙◌, subst, arith, append_assoc, inl, inr}
use Rattle.std.specs.Prelude.{is_some, slice_get}
use Rattle.std.specs.List.{position_from}
use Rattle.std.proofs.lemmas.Bool.{cases_Bool, cond-false}
use Rattle.std.proofs.lemmas.List.{append-nil, take-append-le, take_all}
use Rattle.std.proofs.lemmas.Option.{slice_get_within}
use Rattle.std.proofs.lemmas.Slice.Eq.{bytes_eq-Decides}
use Rattle.corr_ids.specs.declared.day.Day.{Day}
use Rattle.day_model.specs.declared.entry.Entry.{Entry}
use Rattle.day_model.specs.Balance.{outcome_of}
use Rattle.day_model.specs.Chart.{Chart}
use Rattle.day_model.specs.Laws.{HistoryIsFold}
use Rattle.day_model.specs.Legal.{FollowsRules}
use Rattle.day_model.specs.Next.{entered_at, entry_of, fold_of, has_mir, next_history}
use Rattle.day_model.proofs.laws.Slices.{front_get}

-- a front stands before what follows it
pub get_at : {A : Type 0} (front : List A) (x : A) (more : List A) → slice_get (front ++ x ∷ more) (length front) ≡ Some x
get_at [] x more = refl
get_at (y ∷ front) x more = get_at front x more

-- where each fails, none passes
pub none_found : {A : Type 0} (t : A → Bool) (i : ℕ) (xs : List A) → ((k : ℕ) (x : A) → slice_get xs k ≡ Some x → t x ≡ false) → position_from t i xs ≡ None
none_found t i [] each = refl
none_found t i (x ∷ xs) each =
    cond-false (t x) (Some i) (position_from t (i + 1) xs) (each 0 x refl) ∙ none_found t (i + 1) xs (λ k y at. each (suc k) y at)

-- the reference of an entry of a history that follows the rules isn't entered before it
pub new_before : (chart : Chart) (front : List Entry) (e : Entry) (more : List Entry) → FollowsRules chart (front ++ e ∷ more)
    → entered_at e.pay.mir front ≡ None
new_before chart front e more rules = none_found (has_mir e.pay.mir) 1 front (λ k x at.
    elim (cases_Bool (has_mir e.pay.mir x)) [
      | inl same ↦
          let digits : x.pay.mir.0 ≡ e.pay.mir.0 = (bytes_eq-Decides x.pay.mir.0 e.pay.mir.0).0 same in
          let mir : x.pay.mir ≡ e.pay.mir = ap (λ (bs : List ℕ). record { 0 = bs }) digits in
          let place = rules.single k (length front) x e (front_get front (e ∷ more) k x at) (get_at front e more) mir in
          absurd (omega (arith, place, slice_get_within front k x at))
      | inr other ↦ other
    ])

-- the next entry of a history that follows the rules is that of its pay
pub next_of : (chart : Chart) (front : List Entry) (e : Entry) (more : List Entry) (day : Day) → FollowsRules chart (front ++ e ∷ more) → e.day ≡ day
    → next_history chart front e.pay day ≡ front ++ e ∷ []
next_of chart front e more day rules of_day =
    let none = new_before chart front e more rules in
    let here : take (length front) (front ++ e ∷ more) ≡ front =
    take-append-le (length front) front (e ∷ more) (omega arith) ∙ take_all (length front) front (omega arith) in
    let decided : e.outcome ≡ outcome_of chart front e.pay =
    rules.decided (length front) e (get_at front e more) ∙ ap (λ (h : List Entry). outcome_of chart h e.pay) here in
    let is : entry_of chart front e.pay day ≡ e = λ i. record { pay = e.pay; day = sym of_day i; outcome = sym decided i } in
    ap (λ (o : Option ℕ). cond (is_some o) front (front ++ entry_of chart front e.pay day ∷ [])) none ∙ ap (λ (x : Entry). front ++ x ∷ []) is

-- the entries of one day after a history are what one thread makes of their pays
pub legal_fold : HistoryIsFold
legal_fold chart front [] day rules days = append-nil front
legal_fold chart front (e ∷ added) day rules days =
    let next = next_of chart front e added day rules (days 0 e refl) in
    let whole : (front ++ e ∷ []) ++ added ≡ front ++ e ∷ added = append_assoc front (e ∷ []) added in
    sym whole ∙ legal_fold chart (front ++ e ∷ []) added day (subst (FollowsRules chart) (sym whole) rules) (λ i x at. days (suc i) x at)
    ∙ ap (λ (h : List Entry). fold_of chart h (map (λ (x : Entry). x.pay) added) day) (sym next)
