-- The pages of a statement that are printed so far.
use Rattle.std.proofs.Common.{◌≡◌, ℕ, zero, suc, ◌+◌, ◌-◌, ◌*◌, ◌<◌, ◌≤◌, ◌==◌, List, [], ◌∷◌, ◌++◌, map, length, take, drop, true, inl, inr, Option, Some, refl, sym, ap, ◌∙◌, subst, arith, pos, ℤ}
use Rattle.std.specs.Prelude.{All, slice_get}
use Rattle.std.specs.Ordering.{int_eq}
use Rattle.std.specs.List.{AllByRecursion}
use Rattle.std.specs.Option.{option_map_or}
use Rattle.std.proofs.lemmas.Bool.{cases_Bool}
use Rattle.std.proofs.lemmas.Int.{ints}
use Rattle.std.proofs.lemmas.List.Elements.{All-append, All-drop, All-from_recursion, All-take, recursion_from_All}
use Rattle.std.proofs.lemmas.Option.{same_Some}
use Rattle.jiff_core.specs.Calendar.{IsBetween}
use Rattle.corr_ids.specs.Bic.{IsBic}
use Rattle.corr_ids.specs.Day.{InCentury}
use Rattle.corr_ids.specs.declared.bic.Bic.{Bic}
use Rattle.corr_ids.specs.declared.day.Day.{Day}
use Rattle.fin_contents.specs.Writing.{IsReadable}
use Rattle.day_model.specs.Balance.{balance_of}
use Rattle.day_model.specs.Chart.{Chart, IsListed, account_at}
use Rattle.day_model.specs.declared.account.Account.{Account}
use Rattle.day_model.specs.declared.account.AcctNo.{AcctNo}
use Rattle.day_model.specs.declared.entry.Entry.{Entry}
use Rattle.mt950.specs.Page.{mt950_of}
use Rattle.mt950.specs.declared.page.Page950.{Page950}
use Rattle.statement.specs.Index.{IsIndexOf, movements_of}
use Rattle.statement.specs.inner.Index.{balance_at, last_balance, on_day}
use Rattle.statement.specs.Legs.{before_day}
use Rattle.statement.specs.Lines.{lines_on}
use Rattle.statement.specs.Pages.{page_message, page_at, pages_for, pages_from, pages_of, placed_page, placed_pages_of, statement_of}
use Rattle.statement.specs.inner.Running.{message_by, page_by, placed_page_by}
use Rattle.statement.specs.Seen.{SeenBook}
use Rattle.statement.specs.Valid.{AreShaped, ClosesAtBalance, Prints}
use Rattle.statement.specs.inner.Valid.{IsPrintable, PageReadsBack}
use Rattle.statement.specs.declared.index.HistoryIndex.{HistoryIndex}
use Rattle.statement.specs.declared.ledger.Ledger.{Ledger}
use Rattle.statement.specs.declared.movement.Movement.{Movement}
use Rattle.statement.specs.declared.page.PlacedPage.{PlacedPage}
use Rattle.statement.proofs.Adding.{Kept, all-one, kept, kept-before}
use Rattle.statement.proofs.PageSteps.{line-count, page-is, pages-more, places-by}
use Rattle.statement.proofs.laws.Accepting.{AreReadBack}
use Rattle.statement.proofs.laws.Closing.{closes}
use Rattle.statement.proofs.laws.Readable.{page-readable, pages-few}

-- what can be printed from an index can be printed from its book
pub printable : (index : HistoryIndex) (n : ℕ) (day : Day) (book : SeenBook) → Prints index n day book → IsPrintable book n day
printable index n day book prints = record {
  chart = prints.has.is.chart;
  legal = prints.has.is.legal;
  listed = prints.has.listed;
  shaped = prints.shaped;
  century = prints.century;
  codes = prints.has.is.codes;
  quotes = prints.has.is.quotes;
}

-- a page begins among the lines
pub begins-within : (k lines : ℕ) → k < pages_for lines → 25 * k ≤ lines
begins-within k zero lt = omega (arith, lt)
begins-within k (suc lines) lt = omega (arith, lt)

-- an index of a legal history prints its statements
pub prints-history : (index : HistoryIndex) (chart : Chart) (entries : List Entry) (n : ℕ) (day : Day) → IsIndexOf index (record { chart = chart; entries = entries }) → IsListed chart n → AreShaped entries → IsBic chart.home → InCentury day
    → Prints index n day (record { chart = chart; entries = entries })
prints-history index chart entries n day is listed shaped home century = record { has = record { is = is; listed = listed }; shaped = shaped; home = home; century = century }

-- its pages close at the books
pub statement-closes : (index : HistoryIndex) (n : ℕ) (day : Day) (book : SeenBook) → Prints index n day book → ClosesAtBalance book.chart book.entries n day
statement-closes index n day book prints = closes book.chart book.entries n day prints.has.is.legal prints.has.listed

-- ---- movements of a day of the century

same-number : (a b : Day) → int_eq a.0 b.0 ≡ true → b.0 ≡ a.0
same-number a b e = grind (arith, ints)

dated : (day : Day) → InCentury day → (movements : List Movement) → AllByRecursion (λ m. InCentury m.day) (on_day day movements)
dated day century [] = tt
dated day century (m ∷ movements) =
    elim (cases_Bool (int_eq m.day.0 day.0)) [
      | inl met ↦ rw met ((subst (IsBetween (pos 3652) (pos 40176)) (same-number m.day day met) century, dated day century movements))
      | inr unmet ↦ rw unmet (dated day century movements)
    ]

pub part-dated : (day : Day) (ms here movements : List Movement) (first : ℕ) → InCentury day → ms ≡ on_day day movements → here ≡ take 25 (drop first ms) → All (λ m. InCentury m.day) here
part-dated day ms here movements first century are part =
    let P : Movement → Type 0 = λ m. InCentury m.day in
    let all : All P (on_day day movements) = All-from_recursion P (on_day day movements) (dated day century movements) in
    subst (All P) (sym (part ∙ ap (λ (xs : List Movement). take 25 (drop first xs)) are)) (All-take P 25 (drop first (on_day day movements)) (All-drop P first (on_day day movements) all))

-- ---- the pages so far

-- values are those of the first pages, each of which can be read
pub record PlacedSoFar (book : SeenBook) (n : ℕ) (day : Day) (count : ℕ) (pages : List PlacedPage) : Type 0 where
  pub value : (account : Account) → account_at book.chart n ≡ Some account → pages ≡ pages_from (placed_page book.chart book.entries n day account) 1 count
  pub readable : All (λ (placed : PlacedPage). IsReadable mt950_of placed.page) pages

-- what is made of each page
map-pages : {A B C : Type 0} (f : A → C) (g : B → C) (from : ℕ → A) (to : ℕ → B) → ((k : ℕ) → f (from k) ≡ g (to k)) → (first more : ℕ) → map f (pages_from from first more) ≡ map g (pages_from to first more)
map-pages f g from to same first zero = refl
map-pages f g from to same first (suc more) = λ i. same first i ∷ map-pages f g from to same (first + 1) more i

-- what holds of the parts of all pages
all-pages-from : {A B : Type 0} (P : B → Type 0) (from : ℕ → A) (to : ℕ → B) (part : A → B) → ((k : ℕ) → part (from k) ≡ to k) → (first more : ℕ) → All (λ x. P (part x)) (pages_from from first more)
    → All P (pages_from to first more)
all-pages-from {A = A} P from to part same first more all =
    All-from_recursion P (pages_from to first more) (by first more (recursion_from_All (λ (x : A). P (part x)) (pages_from from first more) all))
  where
    by : (k n : ℕ) → AllByRecursion (λ (x : A). P (part x)) (pages_from from k n) → AllByRecursion P (pages_from to k n)
    by k zero each = tt
    by k (suc n) each = (subst P (same k) each.0, by (k + 1) n each.1)

stated : (book : SeenBook) (n : ℕ) (day : Day) (account : Account) → account_at book.chart n ≡ Some account
    → statement_of book.chart book.entries n day ≡ pages_from (page_at book.chart book.entries n day account) 1 (pages_for (length (lines_on book.chart n day book.entries)))
stated book n day account there =
    ap (λ (o : Option Account). option_map_or (λ a. pages_from (page_at book.chart book.entries n day a) 1 (pages_for (length (lines_on book.chart n day book.entries)))) o []) there

told : (book : SeenBook) (n : ℕ) (day : Day) (account : Account) → account_at book.chart n ≡ Some account
    → pages_of book.chart book.entries n day ≡ map (page_message book.chart account) (pages_from (page_at book.chart book.entries n day account) 1 (pages_for (length (lines_on book.chart n day book.entries))))
told book n day account there =
    ap (λ (o : Option Account). option_map_or (λ a. map (page_message book.chart a) (statement_of book.chart book.entries n day)) o []) there
    ∙ ap (map (page_message book.chart account)) (stated book n day account there)

module _ (index : HistoryIndex) (number : AcctNo) (day : Day) (ledger : Ledger) (at : slice_get index.ledgers.items (number.0 - 1) ≡ Some ledger)
    (book : SeenBook) (prints : Prints index number.0 day book) where
  abbrev n : ℕ
  n = number.0

  abbrev of_book : Kept book n ledger
  of_book = kept index book n ledger prints.has.is prints.has.listed at

  abbrev account : Account
  account = of_book.account

  abbrev movements : List Movement
  movements = movements_of book.chart n book.entries

  pub owner-is : IsBic ledger.owner
  owner-is = subst (λ (l : Ledger). IsBic l.owner) (sym of_book.same) (prints.has.is.chart.rows.apart.formed (n - 1) account of_book.there).owner

  abbrev page : ℕ → Page950
  page k = page_at book.chart book.entries n day account k

  pub few-pages : (ms : List Movement) (count : ℕ) → ms ≡ on_day day ledger.movements → count ≡ pages_for (length ms) → count < 5000
  few-pages ms count are counted =
      let few = pages-few book n day (printable index n day book prints) account of_book.there in
      let same : ms ≡ on_day day movements = are ∙ ap (λ (l : Ledger). on_day day l.movements) of_book.same in
      let size : pages_for (length (lines_on book.chart n day book.entries)) ≡ count =
      ap pages_for (line-count book.chart book.entries n day) ∙ ap (λ (xs : List Movement). pages_for (length xs)) (sym same) ∙ sym counted in
      subst (λ (c : ℕ). c < 5000) size few

  -- the page that the ledger's movements make
  module _ (k : ℕ) (ms here : List Movement) (opening balance : ℤ) (count : ℕ)
      (ms_are : ms ≡ on_day day ledger.movements) (opening_is : opening ≡ balance_at ledger day) (balance_is : balance ≡ last_balance opening (take (k * 25) ms))
      (here_are : here ≡ take 25 (drop (k * 25) ms)) (count_is : count ≡ pages_for (length ms)) where
    place : k * 25 ≡ 25 * k
    place = omega arith

    are : ms ≡ on_day day movements
    are = ms_are ∙ ap (λ (l : Ledger). on_day day l.movements) of_book.same

    opens : opening ≡ balance_of book.chart (before_day day book.entries) n
    opens = opening_is ∙ kept-before index book n ledger day prints.has.is of_book

    balanced : balance ≡ last_balance (balance_of book.chart (before_day day book.entries) n) (take (25 * k) (on_day day movements))
    balanced = balance_is ∙ (λ i. last_balance (opens i) (take (place i) (are i)))

    here-is : here ≡ take 25 (drop (25 * k) (on_day day movements))
    here-is = here_are ∙ (λ i. take 25 (drop (place i) (are i)))

    counted : count ≡ pages_for (length (on_day day movements))
    counted = count_is ∙ ap (λ (xs : List Movement). pages_for (length xs)) are

    pub page-made : page_by ledger (record { account = number; day = day; page = k + 1; last = k + 1 == count }) balance here ≡ page (k + 1)
    page-made =
        (λ i. page_by (of_book.same i) (record { account = number; day = day; page = k + 1; last = k + 1 == counted i }) (balanced i) (here-is i))
        ∙ page-is book.chart book.entries n day account number refl k

    in-count : k < count → k + 1 ≤ pages_for (length (lines_on book.chart n day book.entries))
    in-count lt =
        let size = line-count book.chart book.entries n day in
        subst (λ (c : ℕ). k + 1 ≤ pages_for c) (sym size) (omega (arith, lt, counted))

    pub made-readable : k < count → IsReadable mt950_of (page_by ledger (record { account = number; day = day; page = k + 1; last = k + 1 == count }) balance here)
    made-readable lt =
        subst (IsReadable mt950_of) (sym page-made) (page-readable book n day (printable index n day book prints) account of_book.there (k + 1) (in-count lt))

    -- one page more
    pub more-placed : k < count → (pages new : List PlacedPage) (placed : PlacedPage) → PlacedSoFar book n day k pages
        → placed ≡ placed_page_by ledger (record { account = number; day = day; page = k + 1; last = k + 1 == count }) balance here → new ≡ pages ++ placed ∷ []
        → PlacedSoFar book n day (k + 1) new
    more-placed lt pages new placed so_far is added =
        let Reads : PlacedPage → Type 0 = λ p. IsReadable mt950_of p.page in
        record {
          value = λ other there.
              let same : account ≡ other = same_Some account other (sym of_book.there ∙ there) in
              let made = page-made ∙ ap (λ (a : Account). page_at book.chart book.entries n day a (k + 1)) same in
              let places = ap (map (λ m. m.place)) here-is ∙ places-by book.chart book.entries n day k in
              let next : placed ≡ placed_page book.chart book.entries n day other (k + 1) = is ∙ (λ i. record { page = made i; places = places i }) in
              added ∙ (λ i. so_far.value other there i ++ next i ∷ [])
              ∙ sym (pages-more (placed_page book.chart book.entries n day other) 1 k
              ∙ ap (λ (j : ℕ). pages_from (placed_page book.chart book.entries n day other) 1 k ++ placed_page book.chart book.entries n day other j ∷ []) (omega arith));
          readable = subst (All Reads) (sym added)
              (All-append Reads pages (placed ∷ []) so_far.readable (all-one Reads placed (subst (λ (p : PlacedPage). IsReadable mt950_of p.page) (sym is) (made-readable lt))));
        }

  -- all pages
  done : (count : ℕ) → count ≡ pages_for (length (on_day day ledger.movements)) → count ≡ pages_for (length (lines_on book.chart n day book.entries))
  done count counted =
      counted ∙ ap (λ (l : Ledger). pages_for (length (on_day day l.movements))) of_book.same ∙ sym (ap pages_for (line-count book.chart book.entries n day))

  pub all-placed : (pages : List PlacedPage) (count : ℕ) → count ≡ pages_for (length (on_day day ledger.movements))
      → ((other : Account) → account_at book.chart n ≡ Some other → pages ≡ pages_from (placed_page book.chart book.entries n day other) 1 count) → pages ≡ placed_pages_of book.chart book.entries n day
  all-placed pages count counted so_far =
      so_far account of_book.there
      ∙ ap (pages_from (placed_page book.chart book.entries n day account) 1) (done count counted)
      ∙ sym (ap (λ (o : Option Account). option_map_or (λ a. pages_from (placed_page book.chart book.entries n day a) 1 (pages_for (length (lines_on book.chart n day book.entries)))) o []) of_book.there)

  -- ---- their messages

  -- the values at this account
  valued : placed_pages_of book.chart book.entries n day ≡ pages_from (placed_page book.chart book.entries n day account) 1 (pages_for (length (lines_on book.chart n day book.entries)))
  valued =
      ap (λ (o : Option Account). option_map_or (λ a. pages_from (placed_page book.chart book.entries n day a) 1 (pages_for (length (lines_on book.chart n day book.entries)))) o []) of_book.there

  owner-same : ledger.owner ≡ account.owner
  owner-same = ap (λ (l : Ledger). l.owner) of_book.same

  pub all-messages : (texts : List (List ℕ)) (pages : List PlacedPage) → pages ≡ placed_pages_of book.chart book.entries n day → texts ≡ map (λ placed. message_by index.home ledger.owner placed.page) pages
      → texts ≡ pages_of book.chart book.entries n day
  all-messages texts pages are made =
      let count : ℕ = pages_for (length (lines_on book.chart n day book.entries)) in
      made ∙ ap (map (λ placed. message_by index.home ledger.owner placed.page)) (are ∙ valued)
      ∙ (λ i. map (λ placed. message_by (prints.has.is.home i) (owner-same i) placed.page) (pages_from (placed_page book.chart book.entries n day account) 1 count))
      ∙ map-pages (λ placed. message_by book.chart.home account.owner placed.page) (page_message book.chart account) (placed_page book.chart book.entries n day account) page (λ k. refl) 1 count
      ∙ sym (told book n day account of_book.there)

  pub all-read-back : (pages : List PlacedPage) → pages ≡ placed_pages_of book.chart book.entries n day → All (λ (placed : PlacedPage). PageReadsBack index.home ledger.owner placed.page) pages
      → AreReadBack book.chart book.entries n day
  all-read-back pages are back = λ other there.
      let count : ℕ = pages_for (length (lines_on book.chart n day book.entries)) in
      let same : account ≡ other = same_Some account other (sym of_book.there ∙ there) in
      let here : All (λ (placed : PlacedPage). PageReadsBack book.chart.home account.owner placed.page) (pages_from (placed_page book.chart book.entries n day account) 1 count) =
      subst (λ (b : Bic). All (λ (placed : PlacedPage). PageReadsBack book.chart.home b placed.page) (pages_from (placed_page book.chart book.entries n day account) 1 count)) owner-same
      (subst (λ (b : Bic). All (λ (placed : PlacedPage). PageReadsBack b ledger.owner placed.page) (pages_from (placed_page book.chart book.entries n day account) 1 count)) prints.has.is.home
      (subst (All (λ (placed : PlacedPage). PageReadsBack index.home ledger.owner placed.page)) (are ∙ valued) back)) in
      subst (λ (a : Account). All (PageReadsBack book.chart.home a.owner) (statement_of book.chart book.entries n day)) same
      (subst (All (PageReadsBack book.chart.home account.owner)) (sym (stated book n day account of_book.there))
      (all-pages-from (PageReadsBack book.chart.home account.owner) (placed_page book.chart book.entries n day account) page (λ p. p.page) (λ k. refl) 1 count here))
