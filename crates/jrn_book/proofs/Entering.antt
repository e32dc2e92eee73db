-- What a new entry adds to a book.
use Rattle.std.proofs.Common.{◌≡◌, ℕ, ◌+◌, ◌<◌, ◌≤◌, All, Bool, true, false, cond, List, [], ◌∷◌, ◌++◌, length, get_or, take, Option, Some, None, refl, sym, ap, ◌∙◌, subst, arith, append_assoc, append-nil, length-append}
use Rattle.std.specs.Prelude.{◌⊎◌, is_some}
use Rattle.std.specs.List.{position_from}
use Rattle.std.specs.Str.{bytes_eq}
use Rattle.std.proofs.lemmas.List.{map-append}
use Rattle.std.proofs.lemmas.List.Elements.{All-nil}
use Rattle.std.proofs.lemmas.Slice.Eq.{bytes_eq-Decides}
use Rattle.corr_disk.specs.Disk.{LeavesOnly}
use Rattle.corr_ids.specs.declared.mir.Mir.{Mir}
use Rattle.corr_ids.specs.declared.day.Day.{Day}
use Rattle.day_model.specs.declared.pay.Leg.{Leg}
use Rattle.day_model.specs.declared.pay.Pay.{Pay}
use Rattle.day_model.specs.declared.entry.Entry.{Entry}
use Rattle.day_model.specs.declared.entry.Outcome.{Outcome}
use Rattle.day_model.specs.declared.entry.Outcome.TheVariants.{Booked, Unfunded}
use Rattle.day_model.specs.Balance.{is_booked}
use Rattle.day_model.specs.Chart.{AreBy, Chart}
use Rattle.day_model.specs.Fit.{FitsAccounts}
use Rattle.day_model.specs.Laws.{IsLatest}
use Rattle.day_model.specs.Legal.{IsLegal}
use Rattle.day_model.specs.Next.{entered_at, entry_of, has_mir, next_history}
use Rattle.day_model.specs.Totals.{Pair, Fits64, booked_legs, legs_pair, plus, totals_of}
use Rattle.day_model.proofs.laws.Growth.{one_pay_more}
use Rattle.day_model.proofs.laws.Pairs.{entry_adds_its_legs, legal_totals_fit, plus_nothing}
use Rattle.acct_locks.specs.Holdings.{CanSettle, Holding, HoldsOnce, held_totals, held_with}
use Rattle.jrn_file.specs.Journal.{IsFrame, StandsFor, frame_of}
use Rattle.jrn_file.specs.Reading.{most_record_bytes}
use Rattle.jrn_file.proofs.laws.Frames.{record_in-frame}
use Rattle.jrn_codec.specs.Header.{head_bytes}
use Rattle.jrn_codec.specs.Record.{entry_bytes}
use Rattle.jrn_book.specs.Deciding.{HoldsAll}
use Rattle.jrn_book.specs.Index.{references_of}
use Rattle.jrn_book.specs.inner.Index.{place_in}
use Rattle.jrn_book.specs.inner.Drafting.{records_of}
use Rattle.jrn_book.specs.Journal.{IsBeforeOrNext, item_records}
use Rattle.jrn_book.proofs.laws.Items.{by_later, records_more}

-- the next history of a pay whose reference is new
pub next_new : (chart : Chart) (history : List Entry) (pay : Pay) (day : Day) → entered_at pay.mir history ≡ None → next_history chart history pay day ≡ history ++ entry_of chart history pay day ∷ []
next_new chart history pay day new = ap (λ (o : Option ℕ). cond (is_some o) history (history ++ entry_of chart history pay day ∷ [])) new

-- which is legal
pub next_legal : (chart : Chart) (history : List Entry) (pay : Pay) (day : Day) → IsLegal chart history → FitsAccounts chart pay → IsLatest history day → length history < 100000 → entered_at pay.mir history ≡ None → IsLegal chart (history ++ entry_of chart history pay day ∷ [])
next_legal chart history pay day legal fits latest few new = one_pay_more chart history pay day legal fits latest few (ap is_some new)

-- the records of a history with several entries more
pub records_all : (chart : Chart) (history entries : List Entry) → AreBy (length history) chart → item_records chart (history ++ entries) ≡ item_records chart history ++ records_of entries
records_all chart history [] by = ap (item_records chart) (append-nil history) ∙ sym (append-nil (item_records chart history))
records_all chart history (e ∷ entries) by =
    let later = by_later chart (length history) (length (history ++ e ∷ [])) (omega (arith, length-append history (e ∷ []))) by in
    ap (item_records chart) (sym (append_assoc history (e ∷ []) entries))
    ∙ records_all chart (history ++ e ∷ []) entries later
    ∙ ap (λ (rs : List (List ℕ)). rs ++ records_of entries) (records_more chart history e by)
    ∙ append_assoc (item_records chart history) (entry_bytes e ∷ []) (records_of entries)

-- the references of one with an entry more
pub references_more : (history : List Entry) (e : Entry) → references_of (history ++ e ∷ []) ≡ references_of history ++ e.pay.mir.0 ∷ []
references_more history e = map-append (λ (x : Entry). x.pay.mir.0) history (e ∷ [])

-- those of a front
pub references_front : (history entries : List Entry) → take (length history) (references_of (history ++ entries)) ≡ references_of history
references_front [] entries = refl
references_front (e ∷ history) entries = ap (λ (rs : List (List ℕ)). e.pay.mir.0 ∷ rs) (references_front history entries)

-- the frame of a record that is short enough
pub is_frame : (r frame : List ℕ) → frame ≡ frame_of r → length r ≤ most_record_bytes → IsFrame frame
is_frame r frame is few =
    let same = record_in-frame r frame is in
    record { is = is ∙ ap frame_of (sym same); fits = subst (λ (x : List ℕ). length x ≤ most_record_bytes) (sym same) few }

-- two ways round
eq_flip : (a b : List ℕ) → bytes_eq a b ≡ bytes_eq b a
eq_flip a b = by (bytes_eq a b) (bytes_eq b a) refl refl
  where
    by : (x y : Bool) → bytes_eq a b ≡ x → bytes_eq b a ≡ y → x ≡ y
    by true true p q = refl
    by false false p q = refl
    by true false p q = sym ((bytes_eq-Decides b a).1 (sym ((bytes_eq-Decides a b).0 p))) ∙ q
    by false true p q = sym p ∙ (bytes_eq-Decides a b).1 (sym ((bytes_eq-Decides b a).0 q))

-- a reference's place among the references is its entry's place in the history
place_from : (mir : Mir) (i : ℕ) (history : List Entry) → position_from (bytes_eq mir.0) i (references_of history) ≡ position_from (has_mir mir) i history
place_from mir i [] = refl
place_from mir i (e ∷ history) =
    let rest = place_from mir (i + 1) history in
    let here = eq_flip mir.0 e.pay.mir.0 in
    λ j. cond (here j) (Some i) (rest j)

pub place_of : (mir : Mir) (history : List Entry) → place_in mir.0 (references_of history) ≡ entered_at mir history
place_of mir history = place_from mir 1 history

-- held purses that have the totals of the history can be settled
module _ (chart : Chart) (history : List Entry) (e : Entry) (held : List Holding) (next : IsLegal chart (history ++ e ∷ [])) (all : HoldsAll held e.pay.legs) where
  fits_at : (n : ℕ) → held_totals held n ≡ totals_of n history → Fits64 (plus (held_totals held n) (legs_pair n (booked_legs e)))
  fits_at n is =
      let more : totals_of n (history ++ e ∷ []) ≡ plus (held_totals held n) (legs_pair n (booked_legs e)) =
      entry_adds_its_legs history e n ∙ ap (λ (p : Pair). plus p (legs_pair n (booked_legs e))) (sym is) in
      subst Fits64 more (legal_totals_fit chart (history ++ e ∷ []) n next)

  by_outcome : (o : Outcome) → e.outcome ≡ o → (o ≡ Booked → All (λ (leg : Leg). held_totals held leg.account.0 ≡ totals_of leg.account.0 history) e.pay.legs) → CanSettle (booked_legs e) held
  by_outcome Booked is agreed =
      let legs : booked_legs e ≡ e.pay.legs = ap (λ (o : Outcome). cond (is_booked o) e.pay.legs []) is in
      let Fits : Leg → Type 0 = λ leg. Fits64 (plus (held_totals held leg.account.0) (legs_pair leg.account.0 (booked_legs e))) in
      let fits : All Fits e.pay.legs = λ k d lt. fits_at (get_or e.pay.legs k d).account.0 (agreed refl k d lt) in
      record { once = subst (HoldsAll held) (sym legs) all; fits = subst (All Fits) (sym legs) fits }
  by_outcome (Unfunded k b) is agreed =
      let none : booked_legs e ≡ [] = ap (λ (o : Outcome). cond (is_booked o) e.pay.legs []) is in
      let Fits : Leg → Type 0 = λ leg. Fits64 (plus (held_totals held leg.account.0) (legs_pair leg.account.0 (booked_legs e))) in
      record { once = subst (HoldsAll held) (sym none) (All-nil (λ (leg : Leg). HoldsOnce held leg.account.0)); fits = subst (All Fits) (sym none) (All-nil Fits) }

  pub can_settle : (e.outcome ≡ Booked → All (λ (leg : Leg). held_totals held leg.account.0 ≡ totals_of leg.account.0 history) e.pay.legs) → CanSettle (booked_legs e) held
  can_settle agreed = by_outcome e.outcome refl agreed

-- no legs leave held purses as they are
pub held_with-nil : (held : List Holding) → held_with [] held ≡ held
held_with-nil [] = refl
held_with-nil (h ∷ held) =
    let totals : plus h.pair (legs_pair h.number []) ≡ h.pair = plus_nothing h.pair in
    let rest = held_with-nil held in
    λ i. record { table = h.table; number = h.number; pair = totals i } ∷ rest i

-- the records of the next history
pub records_next : (chart : Chart) (history : List Entry) (pay : Pay) (day : Day) (e : Entry) (r : List ℕ) → AreBy (length history) chart → entered_at pay.mir history ≡ None → e ≡ entry_of chart history pay day
    → r ≡ entry_bytes e → item_records chart history ++ r ∷ [] ≡ item_records chart (next_history chart history pay day)
records_next chart history pay day e r by new is same =
    ap (λ (x : List ℕ). item_records chart history ++ x ∷ []) (same ∙ ap entry_bytes is)
    ∙ sym (records_more chart history (entry_of chart history pay day) by)
    ∙ ap (item_records chart) (sym (next_new chart history pay day new))

-- each moment of an append is one of the commit
pub moments : {D : Type 0} (moment : D → ℕ) (left_since : D → ℕ → List ℕ → Type 0) (old new : D) (chart : Chart) (history : List Entry) (pay : Pay) (day : Day) (rs : List (List ℕ))
    → rs ≡ item_records chart (next_history chart history pay day)
    → LeavesOnly moment left_since old new (λ image. StandsFor image (head_bytes chart) (item_records chart history) ⊎ StandsFor image (head_bytes chart) rs)
    → LeavesOnly moment left_since old new (IsBeforeOrNext chart history pay day)
moments moment left_since old new chart history pay day rs is leaves =
    subst (λ (more : List (List ℕ)). LeavesOnly moment left_since old new (λ image. StandsFor image (head_bytes chart) (item_records chart history) ⊎ StandsFor image (head_bytes chart) more)) is leaves
