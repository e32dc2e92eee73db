-- Batches of messages, which a worker answers.
use Rattle.std.specs.Prelude.{◌≡◌, ℕ, zero, suc, ◌+◌, ◌≤◌, All, List, [], ◌∷◌, ◌++◌, length, replicate, Option, None, Some, Result, Ok, Err, IfOk, if◌then◌else◌, is_none}
use Rattle.corr_books.specs.Opening.{Opening}
use Rattle.day_model.specs.declared.pay.Pay.{Pay}
use Rattle.day_model.specs.Chart.{Chart}
use Rattle.day_model.specs.Fit.{FitsAccounts}
use Rattle.day_model.specs.Shape.{HasShape}
use Rattle.fin_frame.specs.File.{most_bytes}
use Rattle.fin_frame.specs.Pieces.{IsPlaceIn, at_places}
use Rattle.fin_frame.specs.declared.place.Place.{Place}
use Rattle.jrn_book.specs.Answers.{Answer}
use Rattle.jrn_book.specs.Batches.{most_batch}
use Rattle.corr_top.specs.declared.batching.Asked.{Asked}
use Rattle.corr_top.specs.declared.batching.Asked.TheVariants as asked
use Rattle.corr_top.specs.declared.batching.Made.{Made}
use Rattle.corr_top.specs.declared.batching.Made.TheVariants as made
use Rattle.corr_top.specs.declared.desk.Halt.{Halt}
use Rattle.corr_top.specs.declared.desk.Halt.TheVariants as halt
use Rattle.corr_top.specs.declared.desk.Served.{Served}
use Rattle.corr_top.specs.declared.desk.Served.TheVariants as served
use Rattle.corr_top.specs.declared.message.NoPay.{NoPay}
use Rattle.corr_top.specs.Message.{reply_for}
use Rattle.corr_top.specs.inner.Serving.{Serves, halt_of, served_of}
use Rattle.corr_top.specs.inner.Workers.{Worker}

-- ---- what a batch is

-- messages of a batch: some, and no more than entries ever come under one sync
pub record IsBatch (messages : List (List ℕ)) : Type 0 where
  pub some : 1 ≤ length messages
  pub few : length messages ≤ most_batch

-- a message has at most as many bytes as one may have
abbrev pub IsShort : List ℕ → Type 0
IsShort message = length message ≤ most_bytes

-- the messages at these places of a text stand in it, and are short
pub record AreInText (text : List ℕ) (places : List Place) : Type 0 where
  pub within : All (IsPlaceIn (length text)) places
  pub short : All IsShort (at_places text places)

-- the place stands between these bytes
abbrev pub StandsBetween : ℕ → ℕ → Place → Type 0
StandsBetween begin past place = (begin ≤ place.from) × (place.from + place.len ≤ past)

-- the place behind so many bytes more
abbrev pub behind : ℕ → Place → Place
behind begin place = record { from = begin + place.from; len = place.len }

-- the messages of batches, in their order
abbrev pub messages_in : List (List (List ℕ)) → List (List ℕ)
messages_in [] = []
messages_in (messages ∷ batches) = messages ++ messages_in batches

-- ---- what is made of it

-- a message after which a worker goes no further says so of itself
abbrev pub stopped_so : ℕ → Halt → List Served
stopped_so messages why = replicate messages (served.Stopped why)

-- what became of each message of a batch
abbrev pub made_in : Made → List Served
made_in (made.One one) = one ∷ []
made_in (made.Each each) = each.items
made_in (made.None messages why) = stopped_so messages why

-- and of each message of batches, in their order
abbrev pub all_made : List Made → List Served
all_made [] = []
all_made (one ∷ more) = made_in one ++ all_made more

-- What a worker makes of messages, one after another.
abbrev pub ServesInTurn : Opening → List (Result Pay NoPay) → Worker → Worker → List Served → Type 0
ServesInTurn o [] old new [] = new ≡ old
ServesInTurn o [] old new (one ∷ made) = ⊥
ServesInTurn o (reading ∷ readings) old new [] = ⊥
ServesInTurn o (reading ∷ readings) old new (one ∷ made) = (next : Worker) × Serves o reading old next one × ServesInTurn o readings next new made

-- ---- how it is made

-- a pay that was made of a message fits the accounts and has the shape of what is written down
abbrev pub IsSoundReading : Chart → Result Pay NoPay → Type 0
IsSoundReading chart reading = IfOk reading (λ pay. FitsAccounts chart pay × HasShape pay)

-- what a message asks for, once its pay was taken out
abbrev pub ask_of : Result Pay NoPay → Asked
ask_of (Ok pay) = asked.Pay pay.mir
ask_of (Err why) = asked.Reply (reply_for why)

-- what is made of messages by what they ask for and the answers to their pays, in turn, up to the first that stops their worker
abbrev pub made_by : List Asked → List Answer → List Served
made_by [] answers = []
made_by (asked.Reply told ∷ asks) answers = served.Reply told ∷ made_by asks answers
made_by (asked.Pay mir ∷ asks) [] = []
made_by (asked.Pay mir ∷ asks) (answer ∷ answers) = served_of mir answer ∷ (if is_none (halt_of (served_of mir answer)) then made_by asks answers else [])

-- and why that stopped it
abbrev pub halted_by : List Asked → List Answer → Option Halt
halted_by [] answers = None
halted_by (asked.Reply told ∷ asks) answers = halted_by asks answers
halted_by (asked.Pay mir ∷ asks) [] = Some halt.Memory
halted_by (asked.Pay mir ∷ asks) (answer ∷ answers) = if is_none (halt_of (served_of mir answer)) then halted_by asks answers else halt_of (served_of mir answer)

-- why a worker stopped: for this reason, or, where there is none, for want of memory
abbrev pub why_of : Option Halt → Halt
why_of (Some why) = why
why_of None = halt.Memory

-- why it serves no more after a batch, of which so many messages are left
abbrev pub halt_after : ℕ → Option Halt → Option Halt
halt_after zero halted = halted
halt_after (suc left) halted = Some (why_of halted)
