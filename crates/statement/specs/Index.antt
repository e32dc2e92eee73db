-- What an index of a history keeps.
use Rattle.std.specs.Prelude.{◌≡◌, All, ◌&&◌, Bool, ℕ, ◌+◌, List, [], ◌∷◌, ◌++◌, is_some, length, map, not, slice_get, Option, Some, None, if◌then◌else◌}
use Rattle.day_model.specs.Balance.{balance_of, is_booked}
use Rattle.day_model.specs.Chart.{Chart, HasCode, IsChart, IsListed, accounts_of}
use Rattle.day_model.specs.declared.account.Account.{Account}
use Rattle.day_model.specs.declared.entry.Entry.{Entry}
use Rattle.day_model.specs.declared.pay.Leg.{Leg}
use Rattle.pay_returns.specs.References.{quote_text}
use Rattle.pay_returns.specs.Opposite.{origin_of}
use Rattle.pay_returns.specs.Returns.{next_tag, tagged_of}
use Rattle.pay_returns.specs.declared.origin.Origin.{Origin}
use Rattle.statement.specs.Legs.{HasQuotes, legs_on}
use Rattle.statement.specs.Seen.{IsFront, SeenBook}
use Rattle.statement.specs.declared.index.HistoryIndex.{HistoryIndex}
use Rattle.statement.specs.declared.ledger.Ledger.{Ledger}
use Rattle.statement.specs.declared.movement.Movement.{Movement}

-- the entry that follows these is a return
abbrev pub is_next_return : Chart → List Entry → Entry → Bool
is_next_return chart before entry = is_some (next_tag chart before (tagged_of chart before) entry.pay)

-- a leg on account n of the entry that follows these, with the balance after it
abbrev pub movement_of : Chart → ℕ → List Entry → Entry → Leg → Movement
movement_of chart n before entry leg = record {
  place = length before + 1;
  day = entry.day;
  value = entry.pay.value;
  mt = entry.pay.mt;
  side = leg.side;
  returned = is_next_return chart before entry;
  amount = leg.amount;
  reference = quote_text (length before + 1) leg.quote;
  balance = balance_of chart (before ++ entry ∷ []) n;
}

-- the movements on account n of entries that follow these
abbrev pub movements_from : Chart → ℕ → List Entry → List Entry → List Movement
movements_from chart n before [] = []
movements_from chart n before (entry ∷ entries) =
    map (movement_of chart n before entry) (legs_on n entry) ++ movements_from chart n (before ++ entry ∷ []) entries

-- all movements on account n
abbrev pub movements_of : Chart → ℕ → List Entry → List Movement
movements_of chart n entries = movements_from chart n [] entries

-- what a return takes over from the entry that follows these, if it is booked and no return itself
abbrev pub payment_of : Chart → List Entry → Entry → Option Origin
payment_of chart before entry = if is_booked entry.outcome && not (is_next_return chart before entry) then Some (origin_of entry) else None

-- the payments of entries that follow these, each at its place
abbrev pub payments_from : Chart → List Entry → List Entry → List (Option Origin)
payments_from chart before [] = []
payments_from chart before (entry ∷ entries) = payment_of chart before entry ∷ payments_from chart (before ++ entry ∷ []) entries

-- the payments of a history, each at its place
abbrev pub payments_of : Chart → List Entry → List (Option Origin)
payments_of chart entries = payments_from chart [] entries

-- an account's columns with movements
abbrev pub ledger_with : Account → List Movement → Ledger
ledger_with account movements = record {
  id = account.id;
  kind = account.kind;
  owner = account.owner;
  ccy = account.ccy;
  decimals = account.decimals;
  opening = account.opening;
  movements = movements;
}

-- a ledger for each account, with all movements on it
pub record AreLedgersOf (ledgers : List Ledger) (chart : Chart) (entries : List Entry) : Type 0 where
  pub size : length ledgers ≡ length (accounts_of chart)
  pub each : (i : ℕ) (account : Account) → slice_get (accounts_of chart) i ≡ Some account
      → slice_get ledgers i ≡ Some (ledger_with account (movements_of chart (i + 1) entries))

-- an index is that of a book, with whose entries a legal history begins
pub record IsIndexOf (index : HistoryIndex) (book : SeenBook) : Type 0 where
  pub chart : IsChart book.chart
  pub legal : IsFront book.chart book.entries
  pub home : index.home ≡ book.chart.home
  pub count : index.entries ≡ length book.entries
  pub ledgers : AreLedgersOf index.ledgers.items book.chart book.entries
  pub payments : index.payments.items ≡ payments_of book.chart book.entries
  pub codes : All HasCode (accounts_of book.chart)
  pub quotes : All HasQuotes book.entries

-- an index is that of a book, and this entry comes next in a legal history
pub record TakesNext (index : HistoryIndex) (entry : Entry) (book : SeenBook) : Type 0 where
  pub is : IsIndexOf index book
  pub legal : IsFront book.chart (book.entries ++ entry ∷ [])

-- a book with an entry more
abbrev pub grown : SeenBook → Entry → SeenBook
grown book entry = record book { entries = book.entries ++ entry ∷ [] }

-- an index is that of a book which has account n
pub record HasAccount (index : HistoryIndex) (n : ℕ) (book : SeenBook) : Type 0 where
  pub is : IsIndexOf index book
  pub listed : IsListed book.chart n
