-- Each page of a statement is accepted as a message that the home bank sends, under all tables that hold its account's owner and
-- currency.
use Rattle.std.proofs.Common.{◌≡◌, ℕ, zero, suc, ◌+◌, ◌≤◌, true, List, [], length, Option, Some, None, Ok, refl, sym, ap, arith, subst}
use Rattle.std.specs.Prelude.{All}
use Rattle.std.specs.List.{AllByRecursion}
use Rattle.std.specs.Option.{option_map_or}
use Rattle.std.proofs.lemmas.List.Elements.{All-from_recursion, recursion_from_All}
use Rattle.std.proofs.lemmas.Slice.Eq.{bytes_eq-Decides}
use Rattle.corr_text.specs.First.{first_of}
use Rattle.corr_ids.specs.declared.bic.Bic.{Bic}
use Rattle.corr_ids.specs.declared.day.Day.{Day}
use Rattle.ref_tables.specs.Seen.{Tables, has_head}
use Rattle.fin_blocks.specs.Sending.{sent_blocks, sent_text}
use Rattle.fin_blocks.specs.declared.blocks.Blocks.{Blocks}
use Rattle.fin_fields.specs.Faults.{field_fault}
use Rattle.fin_fields.specs.Fields.{fields_of}
use Rattle.fin_fields.specs.Writing.{fields_text}
use Rattle.fin_message.specs.Heading.{heading_tests}
use Rattle.fin_message.specs.Parts.{envelope_of}
use Rattle.fin_message.specs.Verdict.{judged, message_in, message_of as read_of, page_in as read_page}
use Rattle.fin_message.specs.declared.direction.Direction.TheVariants.{Sent}
use Rattle.fin_message.specs.declared.message.Message.{Message}
use Rattle.fin_message.specs.declared.message.Message.TheVariants.{Page}
use Rattle.mt950.specs.Page.{mt950_of}
use Rattle.mt950.specs.Writing.{fields_950}
use Rattle.mt950.specs.declared.page.Page950.{Page950}
use Rattle.mt950.proofs.laws.Pages.{page-reads-back}
use Rattle.day_model.specs.Chart.{Chart, account_at}
use Rattle.day_model.specs.declared.account.Account.{Account}
use Rattle.day_model.specs.declared.entry.Entry.{Entry}
use Rattle.statement.specs.Lines.{lines_on}
use Rattle.statement.specs.Pages.{page_at, pages_for, pages_from, statement_of}
use Rattle.statement.specs.Seen.{SeenBook}
use Rattle.statement.specs.Valid.{PagesAreAccepted, TablesKnow, IsAcceptedAs}
use Rattle.statement.specs.inner.Valid.{IsPrintable, PageReadsBack}
use Rattle.statement.proofs.laws.Readable.{page-written}

-- ---- the verdict on a page

-- blocks that pass their tests, lines that are cut without fault, and what they say
blocks-accepted : (home : Bic) (t : Tables) (b : Blocks) (x : Message) → first_of (heading_tests Sent home t b) ≡ None → field_fault b.text ≡ None → message_in t b ≡ Ok x → read_of Sent home t b ≡ Ok x
unfolding read_of
blocks-accepted home t b x heading cut says = rw (heading, cut) says

module _ (home : Bic) (t : Tables) (to : Bic) (text : List ℕ) where
  abbrev sent : Blocks
  sent = sent_blocks home 950 to [] text

  heading : has_head t to.head ≡ true → first_of (heading_tests Sent home t sent) ≡ None
  heading known = rw ((bytes_eq-Decides home.head home.head).1 refl, known) refl

  page-says : (page : Page950) → mt950_of t (fields_of text) ≡ Ok page → message_in t sent ≡ Ok (Page (envelope_of sent) page)
  unfolding read_page
  page-says page says = rw says refl

page-accepted : (home to : Bic) (t : Tables) (page : Page950) → PageReadsBack home to page → has_head t to.head ≡ true → mt950_of t (fields_950 page) ≡ Ok page → IsAcceptedAs home t (sent_text home 950 to [] (fields_text (fields_950 page))) page
unfolding judged
page-accepted home to t page back known says =
    let text : List ℕ = fields_text (fields_950 page) in
    let read = page-says home t to text page (back.again t (fields_950 page) says) in (
      envelope_of (sent_blocks home 950 to [] text),
      rw (back.blocks, blocks-accepted home t (sent_blocks home 950 to [] text) (Page (envelope_of (sent_blocks home 950 to [] text)) page) (heading home t to text known) back.cut read) refl,
    )

-- ---- all pages

module _ (book : SeenBook) (n : ℕ) (day : Day) (is : IsPrintable book n day) (t : Tables) (account : Account) (at : account_at book.chart n ≡ Some account) (holds : TablesKnow t account) where
  abbrev page : ℕ → Page950
  page k = page_at book.chart book.entries n day account k

  abbrev count : ℕ
  count = pages_for (length (lines_on book.chart n day book.entries))

  abbrev Back : Page950 → Type 0
  Back p = PageReadsBack book.chart.home account.owner p

  abbrev Accepted : Page950 → Type 0
  Accepted p = IsAcceptedAs book.chart.home t (sent_text book.chart.home 950 account.owner [] (fields_text (fields_950 p))) p

  pages-accepted : (k more : ℕ) → k + more ≤ count + 1 → AllByRecursion Back (pages_from page k more) → AllByRecursion Accepted (pages_from page k more)
  pages-accepted k zero low back = tt
  pages-accepted k (suc more) low back =
      let written = page-written book n day is account at t k holds.ccy (omega (arith, low)) in
      (page-accepted book.chart.home account.owner t (page k) back.0 holds.owner (page-reads-back t (page k) written), pages-accepted (k + 1) more (omega (arith, low)) back.1)

  pub statement-accepted : All Back (pages_from page 1 count) → All Accepted (pages_from page 1 count)
  statement-accepted back = All-from_recursion Accepted (pages_from page 1 count) (pages-accepted 1 count (omega arith) (recursion_from_All Back (pages_from page 1 count) back))

-- the messages of account n's pages read back
abbrev pub AreReadBack : Chart → List Entry → ℕ → Day → Type 0
AreReadBack chart entries n day =
    (account : Account) → account_at chart n ≡ Some account → All (PageReadsBack chart.home account.owner) (statement_of chart entries n day)

-- the pages of a statement that read back are accepted
pub accepted : (book : SeenBook) (n : ℕ) (day : Day) → IsPrintable book n day → AreReadBack book.chart book.entries n day → PagesAreAccepted book.chart book.entries n day
accepted book n day is back t account at holds =
    let pages : Option Account → List Page950 = λ o. option_map_or (λ a. pages_from (page_at book.chart book.entries n day a) 1 (pages_for (length (lines_on book.chart n day book.entries)))) o [] in
    let mine : pages (account_at book.chart n) ≡ pages (Some account) = ap pages at in
    subst (λ (ps : List Page950). All (Accepted book n day is t account at holds) ps) (sym mine)
    (statement-accepted book n day is t account at holds (subst (λ (ps : List Page950). All (Back book n day is t account at holds) ps) mine (back account at)))
