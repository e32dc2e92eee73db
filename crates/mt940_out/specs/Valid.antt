-- What holds of the pages of a customer's statement.
use Rattle.std.specs.Prelude.{◌≡◌, ◌⊎◌, ℕ, List, [], Some, None, Ok, All, IsTrue}
use Rattle.corr_ids.specs.declared.bic.Bic.{Bic}
use Rattle.corr_ids.specs.declared.day.Day.{Day}
use Rattle.ref_tables.specs.Seen.{Tables, decimals_in}
use Rattle.fin_blocks.specs.Blocks.{blocks_of}
use Rattle.fin_blocks.specs.Sending.{sent_blocks}
use Rattle.fin_fields.specs.Faults.{field_fault}
use Rattle.fin_fields.specs.Fields.{fields_of}
use Rattle.fin_fields.specs.Writing.{fields_text}
use Rattle.day_model.specs.Chart.{Chart, account_at}
use Rattle.day_model.specs.declared.account.Account.{Account}
use Rattle.day_model.specs.declared.entry.Entry.{Entry}
use Rattle.mt940_out.specs.Notes.{note_of}
use Rattle.mt940_out.specs.Page.{is_note_text, mt940_of}
use Rattle.mt940_out.specs.Pages.{customer_message, noted_pages_of}
use Rattle.mt940_out.specs.Writing.{fields_940}
use Rattle.mt940_out.specs.declared.page.Page940.{Page940}

-- the note of an entry is none, or has the form of an 86
abbrev pub TellsWell : Entry → Type 0
TellsWell entry = (note_of entry.pay ≡ []) ⊎ IsTrue (is_note_text (note_of entry.pay))

-- a page's message is read into the blocks that it was written of, and its lines are cut into the page's fields without fault
pub record IsSent (home : Bic) (page : Page940) : Type 0 where
  pub blocks : blocks_of (customer_message home page) ≡ Ok (sent_blocks home 940 home [] (fields_text (fields_940 page)))
  pub cut : field_fault (fields_text (fields_940 page)) ≡ None
  pub fields : fields_of (fields_text (fields_940 page)) ≡ fields_940 page

-- so it is, and its lines say the page
pub record ReadsAs (home : Bic) (t : Tables) (page : Page940) : Type 0 where
  pub sent : IsSent home page
  pub says : mt940_of t (fields_of (fields_text (fields_940 page))) ≡ Ok page

-- under all tables that hold the account's currency with its decimals so do the pages of account n, where each entry's note has
-- the form of an 86
abbrev pub PagesReadBack : Chart → List Entry → ℕ → Day → Type 0
PagesReadBack chart entries n day =
    (t : Tables) (account : Account) → account_at chart n ≡ Some account → decimals_in t account.ccy.0 ≡ Some account.decimals
    → All TellsWell entries → All (ReadsAs chart.home t) (noted_pages_of chart entries n day)
