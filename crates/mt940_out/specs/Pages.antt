-- The pages of a customer's statement.
use Rattle.std.specs.Prelude.{ℕ, List, [], map}
use Rattle.corr_ids.specs.declared.day.Day.{Day}
use Rattle.fin_blocks.specs.Sending.{sent_text}
use Rattle.fin_fields.specs.Writing.{fields_text}
use Rattle.corr_ids.specs.declared.bic.Bic.{Bic}
use Rattle.day_model.specs.Chart.{Chart}
use Rattle.day_model.specs.declared.entry.Entry.{Entry}
use Rattle.statement.specs.Pages.{placed_pages_of}
use Rattle.statement.specs.declared.page.PlacedPage.{PlacedPage}
use Rattle.mt940_out.specs.Notes.{note_at}
use Rattle.mt940_out.specs.Writing.{fields_940}
use Rattle.mt940_out.specs.declared.page.Page940.{Page940}

-- a page of a statement, each line with the note of its entry
abbrev pub noted_page : List Entry → PlacedPage → Page940
noted_page entries placed = record { page = placed.page; notes = map (note_at entries) placed.places }

-- the pages of account n's statement of a day, with notes
abbrev pub noted_pages_of : Chart → List Entry → ℕ → Day → List Page940
noted_pages_of chart entries n day = map (noted_page entries) (placed_pages_of chart entries n day)

-- a page as a message of type 940, which the home bank sends to itself: the bank of its customers
abbrev pub customer_message : Bic → Page940 → List ℕ
customer_message home page = sent_text home 940 home [] (fields_text (fields_940 page))

-- the messages of account n's statement of a day
abbrev pub customer_pages_of : Chart → List Entry → ℕ → Day → List (List ℕ)
customer_pages_of chart entries n day = map (λ placed. customer_message chart.home (noted_page entries placed)) (placed_pages_of chart entries n day)
