-- What a pass knows after a call of `book_all`, and what the answers say by it.
use Rattle.std.specs.Prelude.{◌≡◌, ℕ, ◌≤◌, All, List, [], ◌∷◌, length}
use Rattle.day_model.specs.declared.pay.Pay.{Pay}
use Rattle.day_model.specs.Chart.{Chart, accounts_of}
use Rattle.corr_ids.specs.declared.day.Day.{Day}
use Rattle.front_word.specs.Known.{PassKnows, WriterKnows}
use Rattle.jrn_book.specs.Answers.{Answer}
use Rattle.corr_books.specs.inner.Meeting.{IsNext, MeetsAfter, writer_after}
use Rattle.corr_books.specs.inner.Numbers.{IsOneOf}
use Rattle.corr_books.specs.TellingAll.{stops, OneOf}

-- numbers that don't fall, and are at least low
abbrev pub RiseOrStay : ℕ → List ℕ → Type 0
RiseOrStay low [] = Unit {0}
RiseOrStay low (n ∷ numbers) = (low ≤ n) × RiseOrStay n numbers

-- the accounts of all legs of these pays, in an order in which they don't fall
pub record HasAccountsOf (chart : Chart) (pays : List Pay) (numbers : List ℕ) : Type 0 where
  pub ordered : RiseOrStay 1 numbers
  pub there : All (λ n. n ≤ length (accounts_of chart)) numbers
  pub are : All (λ pay. All (λ leg. IsOneOf numbers leg.account.0) pay.legs) pays

-- What the answers to pays of a batch make of the writer, and how a pass of this number learns it, one after another up to the first that
-- stops the batch.
abbrev pub MeetsInTurn : WriterKnows → ℕ → List Pay → Day → List Answer → PassKnows → WriterKnows → PassKnows → Type 0
MeetsInTurn w number [] day answers old last new = (last ≡ w) × (new ≡ old)
MeetsInTurn w number (pay ∷ pays) day [] old last new = (last ≡ w) × (new ≡ old)
MeetsInTurn w number (pay ∷ pays) day (answer ∷ answers) old last new =
    let after = writer_after w number pay day answer in
    (next : PassKnows) × MeetsAfter w after answer old next × OneOf (stops answer) ((last ≡ after) × (new ≡ next)) (MeetsInTurn after number pays day answers next last new)

-- each place that is new is the next one of the writer's then
abbrev pub AreNextInTurn : WriterKnows → ℕ → List Pay → Day → List Answer → Type 0
AreNextInTurn w number [] day answers = Unit {0}
AreNextInTurn w number (pay ∷ pays) day [] = Unit {0}
AreNextInTurn w number (pay ∷ pays) day (answer ∷ answers) = IsNext w.base w.acts answer × AreNextInTurn (writer_after w number pay day answer) number pays day answers
