-- What holds of the pages of a statement.
use Rattle.std.specs.Prelude.{◌≡◌, ℕ, true, List, Some, Ok, All, map}
use Rattle.corr_ids.specs.Bic.{IsBic}
use Rattle.corr_ids.specs.Day.{InCentury}
use Rattle.corr_ids.specs.declared.bic.Bic.{Bic}
use Rattle.corr_ids.specs.declared.day.Day.{Day}
use Rattle.corr_ids.specs.declared.envelope.Envelope.{Envelope}
use Rattle.ref_tables.specs.Seen.{Tables, decimals_in, has_head}
use Rattle.fin_message.specs.Verdict.{sent_verdict_of}
use Rattle.fin_message.specs.declared.message.Message.TheVariants.{Page}
use Rattle.day_model.specs.Balance.{balance_of}
use Rattle.day_model.specs.Chart.{Chart, account_at}
use Rattle.day_model.specs.Shape.{HasShape}
use Rattle.day_model.specs.declared.account.Account.{Account}
use Rattle.day_model.specs.declared.entry.Entry.{Entry}
use Rattle.mt950.specs.Joining.{joined_of}
use Rattle.mt950.specs.declared.joining.Statement.{Statement}
use Rattle.mt950.specs.declared.page.Page950.{Page950}
use Rattle.statement.specs.Index.{HasAccount}
use Rattle.statement.specs.Legs.{before_day}
use Rattle.statement.specs.Lines.{lines_on, up_to_day}
use Rattle.statement.specs.Pages.{page_message, statement_of}
use Rattle.statement.specs.Seen.{SeenBook}
use Rattle.statement.specs.declared.index.HistoryIndex.{HistoryIndex}

-- entries whose pays can be written down, so that each quotes a reference
abbrev pub AreShaped : List Entry → Type 0
AreShaped entries = All (λ entry. HasShape entry.pay) entries

-- the statement that pages join to opens at the balance before the day, has the lines of the day, and closes at the balance by the
-- entries up to the day
pub record ClosesAt (chart : Chart) (entries : List Entry) (n : ℕ) (day : Day) (statement : Statement) : Type 0 where
  pub joined : joined_of (statement_of chart entries n day) ≡ Ok statement
  pub opening : statement.opening ≡ balance_of chart (before_day day entries) n
  pub lines : statement.lines ≡ map (λ placed. placed.line) (lines_on chart n day entries)
  pub closing : statement.closing ≡ balance_of chart (up_to_day day entries) n
  pub dated : statement.day ≡ day

-- the pages of account n are such a statement
abbrev pub ClosesAtBalance : Chart → List Entry → ℕ → Day → Type 0
ClosesAtBalance chart entries n day = (statement : Statement) × ClosesAt chart entries n day statement

-- tables hold an account's owner, and its currency with its decimals
pub record TablesKnow (t : Tables) (account : Account) : Type 0 where
  pub owner : has_head t account.owner.head ≡ true
  pub ccy : decimals_in t account.ccy.0 ≡ Some account.decimals

-- a text is one that the home bank may send, and says this page: no test of a sent message fails
abbrev pub IsAcceptedAs : Bic → Tables → List ℕ → Page950 → Type 0
IsAcceptedAs home t text page = (envelope : Envelope) × (sent_verdict_of home t text ≡ Ok (Page envelope page))

-- under all such tables so are the texts of account n's pages
abbrev pub PagesAreAccepted : Chart → List Entry → ℕ → Day → Type 0
PagesAreAccepted chart entries n day =
    (t : Tables) (account : Account) → account_at chart n ≡ Some account → TablesKnow t account
    → All (λ page. IsAcceptedAs chart.home t (page_message chart account page) page) (statement_of chart entries n day)

-- an index is that of a book whose statement of account n on this day can be printed
pub record Prints (index : HistoryIndex) (n : ℕ) (day : Day) (book : SeenBook) : Type 0 where
  pub has : HasAccount index n book
  pub shaped : AreShaped book.entries
  pub home : IsBic book.chart.home
  pub century : InCentury day
