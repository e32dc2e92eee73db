-- The command `page`: the messages of the file and the books, as a page for a desk. Nothing is booked.
use Rattle.std.specs.Prelude.{◌≡◌, ℕ, List, [], ◌∷◌}
use Rattle.corr_ids.specs.declared.day.Day.{Day}
use Rattle.day_model.specs.Chart.{Chart}
use Rattle.day_model.specs.declared.entry.Entry.{Entry}
use Rattle.desk_page.specs.Page.{page_of}
use Rattle.ref_tables.specs.declared.fault.TableName.TheVariants as names
use Rattle.corr_top.specs.declared.directory.Directory.{Directory}
use Rattle.corr_top.specs.Inputs.{Inputs, directory_in}
use Rattle.corr_top.specs.Meaning.{Meaning}
use Rattle.corr_top.specs.Query.{QueryLeaves}
use Rattle.corr_top.specs.Shown.{rows_of}
use Rattle.corr_top.specs.Steps.{Step}

-- the tables of banks, currencies, countries, instructions and charges, the message file, and the journal
abbrev pub page_steps : List Step
page_steps =
    Step.table names.Bics ∷ Step.table names.Ccys ∷ Step.table names.Countries ∷ Step.table names.Ssi ∷ Step.table names.Charges
    ∷ Step.messages ∷ Step.open_journal ∷ []

-- the page of a day over a journal and the messages of a file
unfoldable pub day_page : Directory → Chart → List Entry → Day → List (List ℕ) → List ℕ
day_page directory chart entries day messages = page_of chart entries day (rows_of directory chart entries messages)

-- the page of what was read
unfoldable pub page_report : Inputs → List ℕ
page_report i = day_page (directory_in i) i.chart i.history i.day i.cut

-- it is of the day that the words name; it sends nothing, and writes nothing to the disk
abbrev pub page_meaning : Day → Meaning
page_meaning day = record {
  is_for = λ i. i.day ≡ day;
  steps = page_steps;
  report = page_report;
  out = λ i. [];
  valid = λ i. Unit {0};
  leaves = λ D disk old new i. QueryLeaves disk old new;
}
