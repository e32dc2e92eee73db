-- What may be compared.
use Rattle.std.specs.Prelude.{◌≡◌, ℕ, ◌≤◌, ◌<◌, length}
use Rattle.corr_money.specs.Amounts.{amount_end}
use Rattle.day_model.specs.Chart.{Chart}
use Rattle.mt950.specs.declared.entry.Line61.{Line61}
use Rattle.mt950.specs.declared.joining.Statement.{Statement}
use Rattle.statement.specs.Index.{HasAccount, IsIndexOf}
use Rattle.statement.specs.Seen.{SeenBook}
use Rattle.statement.specs.Valid.{AreShaped}
use Rattle.statement.specs.declared.index.HistoryIndex.{HistoryIndex}
use Rattle.statement.specs.declared.movement.Movement.{Movement}
use Rattle.reconcile.specs.Bounds.{IsReceived}

-- an amount below 10^14 and a reference of at most 16 bytes
pub record IsLine (line : Line61) : Type 0 where
  pub amount : line.amount.0 < amount_end
  pub reference : length line.reference ≤ 16

-- the same of a booked entry
pub record CanBeKeyed (movement : Movement) : Type 0 where
  pub amount : movement.amount.0 < amount_end
  pub reference : length movement.reference ≤ 16

-- an index is that of a book with which a statement of account n can be compared
pub record Compares (index : HistoryIndex) (n : ℕ) (s : Statement) (book : SeenBook) : Type 0 where
  pub has : HasAccount index n book
  pub shaped : AreShaped book.entries
  pub received : IsReceived s

-- an index is that of a book of these accounts, whose pays can be written down
pub record IsIndexFor (index : HistoryIndex) (chart : Chart) (book : SeenBook) : Type 0 where
  pub is : IsIndexOf index book
  pub shaped : AreShaped book.entries
  pub same : book.chart ≡ chart
