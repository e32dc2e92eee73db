-- What holds of the pages of a statement.
use Rattle.std.specs.Prelude.{◌≡◌, ℕ, List, [], None, Ok, All}
use Rattle.corr_ids.specs.Day.{InCentury}
use Rattle.corr_ids.specs.declared.bic.Bic.{Bic}
use Rattle.corr_ids.specs.declared.day.Day.{Day}
use Rattle.ref_tables.specs.Seen.{Tables}
use Rattle.fin_blocks.specs.Blocks.{blocks_of}
use Rattle.fin_blocks.specs.Sending.{sent_blocks, sent_text}
use Rattle.fin_fields.specs.Faults.{field_fault}
use Rattle.fin_fields.specs.Fields.{fields_of}
use Rattle.fin_fields.specs.Writing.{fields_text}
use Rattle.fin_fields.specs.declared.field.Field.{Field}
use Rattle.day_model.specs.Chart.{HasCode, IsChart, IsListed, accounts_of}
use Rattle.mt950.specs.Page.{mt950_of}
use Rattle.mt950.specs.Writing.{fields_950}
use Rattle.mt950.specs.declared.page.Page950.{Page950}
use Rattle.statement.specs.Legs.{HasQuotes}
use Rattle.statement.specs.Seen.{IsFront, SeenBook}
use Rattle.statement.specs.Valid.{AreShaped}

-- a page's message is read into the blocks that it was written of, its lines are cut without fault, and wherever the page is read
-- of any fields it is read of these lines
pub record PageReadsBack (home to : Bic) (page : Page950) : Type 0 where
  pub blocks : blocks_of (sent_text home 950 to [] (fields_text (fields_950 page))) ≡ Ok (sent_blocks home 950 to [] (fields_text (fields_950 page)))
  pub cut : field_fault (fields_text (fields_950 page)) ≡ None
  pub again : (t : Tables) (fs : List Field) → mt950_of t fs ≡ Ok page → mt950_of t (fields_of (fields_text (fields_950 page))) ≡ Ok page

-- what a statement of account n on a day needs of its book: all of it is in `Prints`
pub record IsPrintable (book : SeenBook) (n : ℕ) (day : Day) : Type 0 where
  pub chart : IsChart book.chart
  pub legal : IsFront book.chart book.entries
  pub listed : IsListed book.chart n
  pub shaped : AreShaped book.entries
  pub century : InCentury day
  pub codes : All HasCode (accounts_of book.chart)
  pub quotes : All HasQuotes book.entries
