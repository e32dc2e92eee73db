-- The pages of a customer's statement read back, where the notes of the entries have the form of an 86.
use Rattle.std.proofs.Common.{◌≡◌, ℕ, zero, suc, ◌+◌, ◌≤◌, List, [], ◌∷◌, length, map, slice_get, Option, Some, None, Ok, refl, sym, ap, ◌∙◌, subst, arith, inl}
use Rattle.std.specs.Prelude.{All}
use Rattle.std.specs.List.{AllByRecursion}
use Rattle.std.specs.Option.{option_map_or}
use Rattle.std.proofs.lemmas.List.{length-map}
use Rattle.std.proofs.lemmas.List.Elements.{All-from_recursion, recursion_from_All}
use Rattle.corr_ids.specs.declared.day.Day.{Day}
use Rattle.ref_tables.specs.Seen.{Tables, decimals_in}
use Rattle.mt950.specs.declared.page.Page950.{Page950}
use Rattle.mt950.proofs.laws.Pages.{page-reads-back}
use Rattle.day_model.specs.Chart.{Chart, account_at}
use Rattle.day_model.specs.declared.account.Account.{Account}
use Rattle.day_model.specs.declared.entry.Entry.{Entry}
use Rattle.statement.specs.Lines.{Placed, lines_on}
use Rattle.statement.specs.Pages.{lines_of_page, page_at, pages_for, pages_from, placed_page, placed_pages_of, statement_of}
use Rattle.statement.specs.Seen.{SeenBook}
use Rattle.statement.specs.Valid.{Prints}
use Rattle.statement.specs.inner.Valid.{IsPrintable}
use Rattle.statement.specs.declared.index.HistoryIndex.{HistoryIndex}
use Rattle.statement.specs.declared.page.PlacedPage.{PlacedPage}
use Rattle.statement.proofs.laws.Readable.{page-written}
use Rattle.mt940_out.specs.Notes.{note_at, note_of}
use Rattle.mt940_out.specs.Page.{mt940_of}
use Rattle.mt940_out.specs.Pages.{noted_page, noted_pages_of}
use Rattle.mt940_out.specs.Valid.{IsSent, PagesReadBack, ReadsAs, TellsWell}
use Rattle.mt940_out.specs.Writing.{fields_940}
use Rattle.mt940_out.specs.declared.page.Page940.{Page940}
use Rattle.mt940_out.proofs.Noted.{HasForm}
use Rattle.mt940_out.proofs.Rounds.{page-noted}
use Rattle.mt940_out.proofs.Told.{all-get}

-- the notes at places have the form of an 86 where those of all entries have it
module _ (entries : List Entry) (well : AllByRecursion TellsWell entries) where
  form-by : (k : ℕ) (o : Option Entry) → slice_get entries k ≡ o → HasForm (option_map_or (λ entry. note_of entry.pay) o [])
  form-by k None at = inl refl
  form-by k (Some entry) at = all-get TellsWell entries k entry well at

  note-form : (place : ℕ) → HasForm (note_at entries place)
  note-form zero = inl refl
  note-form (suc k) = form-by k (slice_get entries k) refl

  notes-form : (places : List ℕ) → AllByRecursion HasForm (map (note_at entries) places)
  notes-form [] = tt
  notes-form (place ∷ places) = (note-form place, notes-form places)

module _ (book : SeenBook) (n : ℕ) (day : Day) (is : IsPrintable book n day) (t : Tables) (account : Account) (at : account_at book.chart n ≡ Some account)
    (known : decimals_in t account.ccy.0 ≡ Some account.decimals) (well : All TellsWell book.entries) where
  abbrev count : ℕ
  count = pages_for (length (lines_on book.chart n day book.entries))

  abbrev page : ℕ → Page950
  page k = page_at book.chart book.entries n day account k

  abbrev placed : ℕ → PlacedPage
  placed k = placed_page book.chart book.entries n day account k

  abbrev noted : PlacedPage → Page940
  noted p = noted_page book.entries p

  abbrev Sent : PlacedPage → Type 0
  Sent p = IsSent book.chart.home (noted p)

  -- a page has as many notes as lines
  as-many : (k : ℕ) → length (map (note_at book.entries) (placed k).places) ≡ length (page k).lines
  as-many k =
      let here : List Placed = lines_of_page k (lines_on book.chart n day book.entries) in
      length-map (map (λ p. p.place) here) (note_at book.entries) ∙ length-map here (λ (p : Placed). p.place) ∙ sym (length-map here (λ (p : Placed). p.line))

  page-says : (k : ℕ) → k ≤ count → mt940_of t (fields_940 (noted (placed k))) ≡ Ok (noted (placed k))
  page-says k low =
      let written = page-written book n day is account at t k known low in
      page-noted t (page k) (map (note_at book.entries) (placed k).places) (page-reads-back t (page k) written) (as-many k)
      (notes-form book.entries (recursion_from_All TellsWell book.entries well) (placed k).places)

  page-reads : (k : ℕ) → k ≤ count → Sent (placed k) → ReadsAs book.chart.home t (noted (placed k))
  page-reads k low sent = record { sent = sent; says = ap (mt940_of t) sent.fields ∙ page-says k low }

  pages-read : (k more : ℕ) → k + more ≤ count + 1 → AllByRecursion Sent (pages_from placed k more)
      → AllByRecursion (ReadsAs book.chart.home t) (map noted (pages_from placed k more))
  pages-read k zero low sent = tt
  pages-read k (suc more) low sent = (page-reads k (omega (arith, low)) sent.0, pages-read (k + 1) more (omega (arith, low)) sent.1)

  pub all-read : All Sent (pages_from placed 1 count) → All (ReadsAs book.chart.home t) (map noted (pages_from placed 1 count))
  all-read sent =
      All-from_recursion (ReadsAs book.chart.home t) (map noted (pages_from placed 1 count))
      (pages-read 1 count (omega arith) (recursion_from_All Sent (pages_from placed 1 count) sent))

-- what the index of a book tells
pub printable : (index : HistoryIndex) (n : ℕ) (day : Day) (book : SeenBook) → Prints index n day book → IsPrintable book n day
printable index n day book prints = record {
  chart = prints.has.is.chart;
  legal = prints.has.is.legal;
  listed = prints.has.listed;
  shaped = prints.shaped;
  century = prints.century;
  codes = prints.has.is.codes;
  quotes = prints.has.is.quotes;
}

-- the pages without their notes are those of the statement
pub pages-beside : (chart : Chart) (entries : List Entry) (n : ℕ) (day : Day)
    → map (λ (p : Page940). p.page) (noted_pages_of chart entries n day) ≡ statement_of chart entries n day
pages-beside chart entries n day = by (account_at chart n)
  where
    from : (account : Account) (k more : ℕ)
        → map (λ (p : Page940). p.page) (map (noted_page entries) (pages_from (placed_page chart entries n day account) k more))
        ≡ pages_from (page_at chart entries n day account) k more
    from account k zero = refl
    from account k (suc more) = ap (λ (ps : List Page950). page_at chart entries n day account k ∷ ps) (from account (k + 1) more)

    by : (o : Option Account)
        → map (λ (p : Page940). p.page) (map (noted_page entries)
        (option_map_or (λ account. pages_from (placed_page chart entries n day account) 1 (pages_for (length (lines_on chart n day entries)))) o []))
        ≡ option_map_or (λ account. pages_from (page_at chart entries n day account) 1 (pages_for (length (lines_on chart n day entries)))) o []
    by None = refl
    by (Some account) = from account 1 (pages_for (length (lines_on chart n day entries)))

-- pages that are sent read back
pub pages-back : (book : SeenBook) (n : ℕ) (day : Day) → IsPrintable book n day
    → All (λ placed. IsSent book.chart.home (noted_page book.entries placed)) (placed_pages_of book.chart book.entries n day)
    → PagesReadBack book.chart book.entries n day
pages-back book n day is sent t account at known well =
    let pages : Option Account → List PlacedPage = λ o. option_map_or (λ a. pages_from (placed_page book.chart book.entries n day a) 1 (pages_for (length (lines_on book.chart n day book.entries)))) o [] in
    let mine : pages (account_at book.chart n) ≡ pages (Some account) = ap pages at in
    subst (λ (ps : List PlacedPage). All (ReadsAs book.chart.home t) (map (noted_page book.entries) ps)) (sym mine)
    (all-read book n day is t account at known well
    (subst (λ (ps : List PlacedPage). All (λ (p : PlacedPage). IsSent book.chart.home (noted_page book.entries p)) ps) mine sent))
