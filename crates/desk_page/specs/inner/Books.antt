-- The books that a page shows.
use Rattle.std.specs.Prelude.{◌*◌, ℤ, pos, neg_ℤ, ◌≤ℤ◌, List, length}
use Rattle.corr_money.specs.Amounts.{amount_end}
use Rattle.day_model.specs.Chart.{Chart, accounts_of}
use Rattle.day_model.specs.Legal.{IsLegal}
use Rattle.day_model.specs.Totals.{HasTotals}
use Rattle.day_model.specs.declared.entry.Entry.{Entry}
use Rattle.desk_page.specs.declared.books.Books.{Books}

-- their accounts
abbrev pub chart_in : Books → Chart
chart_in books = books.accounts.now

-- their history
abbrev pub entries_in : Books → List Entry
entries_in books = books.history.now.entries

-- the history is legal, and the totals are those after it
pub record AreSound (books : Books) : Type 0 where
  pub legal : IsLegal (chart_in books) (entries_in books)
  pub totals : HasTotals books.totals.now (length (accounts_of (chart_in books))) (entries_in books)

-- at most twice the size of a balance
abbrev pub IsWide : ℤ → Type 0
IsWide n = (neg_ℤ (pos (2 * amount_end)) ≤ℤ n) × (n ≤ℤ pos (2 * amount_end))
