-- What a pass knows after a call of `book_all`, and what the answers say by it.
use Rattle.std.specs.Prelude.{◌≡◌, ℕ, ◌≤◌, All, Bool, true, false, List, [], ◌∷◌, length, Ok, Err}
use Rattle.std.specs.List.{list_all, list_any}
use Rattle.corr_text.specs.Faults.{Rose}
use Rattle.day_model.specs.declared.pay.Pay.{Pay}
use Rattle.front_word.specs.Known.{PassKnows}
use Rattle.jrn_book.specs.Answers.{Answer}
use Rattle.jrn_book.specs.Batches.{is_memory, is_new}
use Rattle.jrn_book.specs.declared.answer.CommitFault.TheVariants.{Conflict, Full, Broken, Memory}
use Rattle.corr_books.specs.Opening.{Opening}
use Rattle.corr_books.specs.Telling.{NothingAdded, Told}

-- an answer after which no further pay of a batch is tried
abbrev pub stops : Answer → Bool
stops (Ok committed) = false
stops (Err (Conflict place)) = false
stops (Err (Full entries end need)) = false
stops (Err _) = true

-- the answer is Broken, with the disk's count of faults at the opening, and one to which it has risen since, up to this mark
abbrev pub TellsOfRise : ℕ → ℕ → Answer → Type 0
TellsOfRise at_open mark (Ok committed) = ⊥
TellsOfRise at_open mark (Err (Broken from now)) = (from ≡ at_open) × Rose from now × (now ≤ mark)
TellsOfRise at_open mark (Err _) = ⊥

-- the answer behind one that stopped a batch is Memory, where that is; else it tells that the disk's count has risen
abbrev pub IsBehind : ℕ → ℕ → Answer → Answer → Type 0
IsBehind at_open mark (Ok committed) answer = ⊥
IsBehind at_open mark (Err Memory) answer = answer ≡ Err Memory
IsBehind at_open mark (Err _) answer = TellsOfRise at_open mark answer

-- The pays behind the answer that stopped a batch weren't tried: each has an answer that says so, by what the pass knows then.
pub record AreUntried (o : Opening) (new : PassKnows) (stopper : Answer) (pays : List Pay) (answers : List Answer) : Type 0 where
  pub each : All (IsBehind o.at_open new.mark stopper) answers
  pub many : length answers ≡ length pays

-- one fact or another
abbrev pub OneOf : Bool → Type 0 → Type 0 → Type 0
OneOf true P Q = P
OneOf false P Q = Q

-- What a pass knows after the answers to pays of a batch, one after another: as after so many calls of `book`, up to the first that
-- stops the batch. Those behind it weren't tried, and tell the pass nothing.
abbrev pub ToldAll : Opening → List Pay → PassKnows → List Answer → PassKnows → Type 0
ToldAll o [] old [] new = new ≡ old
ToldAll o [] old (answer ∷ answers) new = ⊥
ToldAll o (pay ∷ pays) old [] new = ⊥
ToldAll o (pay ∷ pays) old (answer ∷ answers) new =
    (next : PassKnows) × Told o pay old answer next × OneOf (stops answer) ((new ≡ next) × AreUntried o new answer pays answers) (ToldAll o pays next answers new)

-- no answer of a batch says that its pay was entered, and nothing tagged with the pass was added to what it knows
pub record NoneEntered (old new : PassKnows) (answers : List Answer) : Type 0 where
  pub told : list_any is_new answers ≡ false
  pub added : NothingAdded old new

-- there was no memory for any pay of a batch, and the pass is as before but for its room
pub record NoneTried (old new : PassKnows) (answers : List Answer) : Type 0 where
  pub all : list_all is_memory answers ≡ true
  pub pass : new ≡ record old { spare = new.spare }
