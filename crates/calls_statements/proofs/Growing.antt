-- A history with one entry more, and its index.
use Rattle.std.proofs.Common.{◌≡◌, ◌<◌, false, List, [], ◌∷◌, ◌++◌, length, sym, subst, arith, inl, inr, pos, ◌≤ℤ◌}
use Rattle.std.specs.Prelude.{is_some}
use Rattle.std.proofs.lemmas.Int.{ints}
use Rattle.std.proofs.lemmas.List.Elements.{All-append, All-cons, All-nil}
use Rattle.day_model.specs.Balance.{outcome_of}
use Rattle.day_model.specs.Chart.{Chart}
use Rattle.day_model.specs.Fit.{FitsAccounts}
use Rattle.day_model.specs.Legal.{IsLegal}
use Rattle.day_model.specs.Next.{entered_at}
use Rattle.day_model.specs.Shape.{HasShape}
use Rattle.day_model.specs.declared.entry.Entry.{Entry}
use Rattle.day_model.specs.declared.entry.Outcome.{Outcome}
use Rattle.day_model.specs.declared.pay.Pay.{Pay}
use Rattle.day_model.proofs.laws.Growth.{one_pay_more}
use Rattle.day_model.proofs.laws.Slices.{in_pushed}
use Rattle.statement.proofs.laws.Fronts.{whole-front}
use Rattle.statement.specs.Index.{IsIndexOf, TakesNext, grown}
use Rattle.statement.specs.Seen.{SeenBook}
use Rattle.statement.specs.declared.index.HistoryIndex.{HistoryIndex}
use Rattle.calls_statements.specs.inner.Grown.{IsGrown, the_day}

-- the entry that a pay becomes
abbrev pub entry_with : Pay → Outcome → Entry
entry_with pay outcome = record { pay = pay; day = the_day; outcome = outcome }

same-day : pos 19877 ≤ℤ pos 19877
same-day = omega (arith, ints)

module _ (chart : Chart) (entries : List Entry) (pay : Pay) (outcome : Outcome) (index : HistoryIndex) (is : IsGrown chart entries index) (fit : FitsAccounts chart pay) (fresh : is_some (entered_at pay.mir entries) ≡ false) (room : length entries < 100) (same : outcome ≡ outcome_of chart entries pay) where
  next-legal : IsLegal chart (entries ++ entry_with pay outcome ∷ [])
  next-legal = subst (λ (o : Outcome). IsLegal chart (entries ++ entry_with pay o ∷ [])) (sym same) (one_pay_more chart entries pay the_day is.legal fit is.latest (omega (arith, room)) fresh)

  -- the index takes the entry
  pub takes-next : (book : SeenBook) × TakesNext index (entry_with pay outcome) book
  takes-next = (record { chart = chart; entries = entries }, record { is = is.indexed; legal = whole-front chart (entries ++ entry_with pay outcome ∷ []) next-legal })

  -- and is then that of the history with it
  pub grown-more : (new : HistoryIndex) → HasShape pay → ((book : SeenBook) → TakesNext index (entry_with pay outcome) book → IsIndexOf new (grown book (entry_with pay outcome))) → IsGrown chart (entries ++ entry_with pay outcome ∷ []) new
  grown-more new shape taken =
      let Shaped : Entry → Type 0 = λ e. HasShape e.pay in
      record {
        legal = next-legal;
        shaped = All-append Shaped entries (entry_with pay outcome ∷ []) is.shaped (All-cons Shaped (entry_with pay outcome) [] shape (All-nil Shaped));
        latest = λ i e at. elim (in_pushed entries (entry_with pay outcome) i e at) [
          | inl old ↦ is.latest i e old
          | inr new ↦ subst (λ (x : Entry). x.day.0 ≤ℤ pos 19877) new.1 same-day
        ];
        indexed = taken (record { chart = chart; entries = entries }) (record { is = is.indexed; legal = whole-front chart (entries ++ entry_with pay outcome ∷ []) next-legal });
      }
