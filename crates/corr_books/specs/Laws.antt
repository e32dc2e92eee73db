-- What calls of books told, and the history when the books are closed.
use Rattle.std.specs.Prelude.{◌≡◌, ℕ, ◌-◌, true, List, ◌++◌, Some, Ok, slice_get}
use mathlib.Core.List.{IsPrefix}
use Rattle.day_model.specs.declared.entry.Entry.{Entry}
use Rattle.day_model.specs.declared.entry.Outcome.{Outcome}
use Rattle.day_model.specs.declared.pay.Pay.{Pay}
use Rattle.day_model.specs.Same.{is_same_pay}
use Rattle.front_word.specs.declared.view.Act.{Act}
use Rattle.front_word.specs.Known.{PassKnows}
use Rattle.jrn_book.specs.declared.answer.Committed.TheVariants.{New, Kept}
use Rattle.corr_books.specs.Closing.{Closes}
use Rattle.corr_books.specs.Opening.{Opening}
use Rattle.corr_books.specs.Telling.{Told, entry_on}

-- the history has this entry at this place, from 1
abbrev pub HasAt : List Entry → ℕ → Entry → Type 0
HasAt history place entry = slice_get history (place - 1) ≡ Some entry

-- the history has an entry of the same pay at this place, with this outcome
pub record HasSame (history : List Entry) (pay : Pay) (place : ℕ) (outcome : Outcome) : Type 0 where
  pub entry : Entry
  pub there : HasAt history place entry
  pub same : is_same_pay pay entry.pay ≡ true
  pub outcome_is : entry.outcome ≡ outcome

-- the books were closed with this history, and one of their passes knows no less than this list
pub record ClosedWith (o : Opening) (history : List Entry) (known : List Act) : Type 0 where
  pub faults : ℕ
  pub passes : List PassKnows
  pub closes : Closes o history faults passes
  pub at : ℕ
  pub pass : PassKnows
  pub there : slice_get passes at ≡ Some pass
  pub knows : IsPrefix known pass.known

-- what was told New stands at its place when the books are closed
abbrev pub NewStands : Type 0
NewStands = (o : Opening) (pay : Pay) (old new : PassKnows) (place : ℕ) (outcome : Outcome) (history : List Entry)
    → Told o pay old (Ok (New place outcome)) new → ClosedWith o history new.known → HasAt history place (entry_on o pay outcome)

-- and what was told Kept, with its outcome
abbrev pub KeptStands : Type 0
KeptStands = (o : Opening) (pay : Pay) (old new : PassKnows) (place : ℕ) (outcome : Outcome) (history : List Entry)
    → Told o pay old (Ok (Kept place outcome)) new → ClosedWith o history new.known → HasSame history pay place outcome

-- what stood at the opening stands at its place
abbrev pub BaseStands : Type 0
BaseStands = (o : Opening) (history : List Entry) (faults : ℕ) (passes : List PassKnows) (place : ℕ) (entry : Entry)
    → Closes o history faults passes → HasAt o.base place entry → HasAt history place entry

-- an entry keeps its place where more are added: so whatever a crash leaves has it too
abbrev pub MoreKeepPlaces : Type 0
MoreKeepPlaces = (history more : List Entry) (place : ℕ) (entry : Entry) → HasAt history place entry → HasAt (history ++ more) place entry
