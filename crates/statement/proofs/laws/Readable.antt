-- The pages of a statement can be written, and are read under all tables that hold the account's currency with its decimals.
use Rattle.std.proofs.Common.{◌≡◌, ℕ, zero, suc, ◌-◌, ◌*◌, ◌<◌, ◌≤◌, ◌==◌, Bool, true, false, cond, List, [], ◌∷◌, map, length, get_or, take, drop, Some, refl, subst, arith, pos, ◌-ℤ◌, ◌≤ℤ◌, ℤ}
use Rattle.std.specs.Prelude.{IsTrue, slice_get}
use Rattle.std.specs.Ordering.{int_eq}
use Rattle.std.specs.List.{AllByRecursion}
use Rattle.std.proofs.lemmas.Bool.{cond_both, le-leb}
use Rattle.std.proofs.lemmas.Int.{ints}
use Rattle.std.proofs.lemmas.List.Elements.{All-from_recursion, recursion_from_All}
use Rattle.std.proofs.lemmas.Option.{slice_get-get_or}
use Rattle.std.proofs.lemmas.Slice.Eq.{bytes_eq-Decides}
use Rattle.jiff_core.specs.Calendar.{IsCivilDate, day_of_year}
use Rattle.jiff_core.proofs.CalendarLemmas.{day_of_year_bound, days_in_year_bounds}
use Rattle.jiff_core.proofs.SignedLemmas.{signed_arith}
use Rattle.corr_ids.specs.Day.{Civil, InCentury, civil_of, is_civil, place_in_year}
use Rattle.corr_ids.specs.declared.day.Day.{Day}
use Rattle.corr_ids.proofs.laws.Century.{civil-again, in_parts}
use Rattle.corr_ids.proofs.laws.Civil.{date_from}
use Rattle.corr_ids.proofs.laws.Spelling.{some_if}
use Rattle.ref_tables.specs.Seen.{Tables, decimals_in, few_decimals}
use Rattle.fin_contents.specs.Writing.{IsReadable}
use Rattle.day_model.specs.Chart.{Chart, HasCode, IsFormed, account_at, accounts_of}
use Rattle.day_model.specs.declared.account.Account.{Account}
use Rattle.day_model.specs.declared.entry.Entry.{Entry}
use Rattle.day_model.proofs.laws.Fitting.{listed_account}
use Rattle.mt950.specs.Page.{mt950_of}
use Rattle.mt950.specs.Writing.{IsBalance, IsWritableLine}
use Rattle.mt950.specs.inner.Writing.{IsContinued, IsPage}
use Rattle.mt950.proofs.laws.Pages.{page-given}
use Rattle.statement.specs.Lines.{Placed, is_return, lines_on}
use Rattle.statement.specs.Pages.{carried, day_before, lines_of_page, page_at, pages_for}
use Rattle.statement.specs.Seen.{SeenBook}
use Rattle.statement.specs.inner.Valid.{IsPrintable}
use Rattle.statement.proofs.Fine.{IsFine, IsFit, abs-small, after-small, entry-fit, lines-few, lines-fine}
use Rattle.statement.proofs.laws.Fronts.{front-fits, front-rules}
use Rattle.statement.proofs.Walking.{one-leg}
use Rattle.statement.proofs.Words.{quoted-page, word-run}

-- ---- lists

all-take : {A : Type 0} (P : A → Type 0) (k : ℕ) (xs : List A) → AllByRecursion P xs → AllByRecursion P (take k xs)
all-take P zero xs all = tt
all-take P (suc k) [] all = tt
all-take P (suc k) (x ∷ xs) all = (all.0, all-take P k xs all.1)

all-drop : {A : Type 0} (P : A → Type 0) (k : ℕ) (xs : List A) → AllByRecursion P xs → AllByRecursion P (drop k xs)
all-drop P zero xs all = all
all-drop P (suc k) [] all = tt
all-drop P (suc k) (x ∷ xs) all = all-drop P k xs all.1

all-map : {A B : Type 0} (P : A → Type 0) (Q : B → Type 0) (f : A → B) → ((x : A) → P x → Q (f x)) → (xs : List A) → AllByRecursion P xs → AllByRecursion Q (map f xs)
all-map P Q f give [] all = tt
all-map P Q f give (x ∷ xs) all = (give x all.0, all-map P Q f give xs all.1)

all-get : {A : Type 0} (P : A → Type 0) (xs : List A) (i : ℕ) (x : A) → AllByRecursion P xs → slice_get xs i ≡ Some x → P x
all-get P [] i x all at = absurd (cc at)
all-get P (y ∷ xs) zero x all at = subst P (cc at) all.0
all-get P (y ∷ xs) (suc i) x all at = all-get P xs i x all.1 at

all-written : (decimals most : ℕ) (ps : List Placed) → AllByRecursion (IsFine decimals most) ps → AllByRecursion (λ (p : Placed). IsWritableLine decimals p.line) ps
all-written decimals most [] all = tt
all-written decimals most (p ∷ ps) all = (all.0.entry, all-written decimals most ps all.1)

-- ---- days

before-in : (d : ℤ) → pos 3652 ≤ℤ d → d ≤ℤ pos 40176 → int_eq d (pos 3652) ≡ false → (pos 3652 ≤ℤ (d -ℤ pos 1)) × ((d -ℤ pos 1) ≤ℤ pos 40176)
before-in d low high e = (grind (arith, ints), grind (arith, ints))

century-before : (day : Day) → InCentury day → InCentury (day_before day)
century-before day century =
    cond_both (int_eq day.0 (pos 3652)) day (record { 0 = day.0 -ℤ pos 1 }) InCentury (λ _. century) (λ e. before-in day.0 century.0 century.1 e)

year-few : (y m d : ℕ) → y < 3000 → is_civil y m d ≡ true → day_of_year (pos y) m d ≤ 366
year-few y m d early civil =
    let date = date_from y m d early civil in
    let is : IsCivilDate (pos y) m d = (date.0, omega (arith, signed_arith), omega (arith, signed_arith)) in
    let within = day_of_year_bound (pos y) m d is in
    let days = days_in_year_bounds (pos y) in
    omega (arith, within, days)

year-place : (day : Day) → InCentury day → place_in_year day ≤ 366
year-place day century =
    let c : Civil = civil_of day in
    let early : c.year < 3000 = omega (arith, (in_parts day century).year_in) in
    year-few c.year c.month c.day early (some_if (is_civil c.year c.month c.day) _ day (civil-again day century)).0

few-pages : (lines : ℕ) → lines ≤ 100000 → pages_for lines < 5000
few-pages zero few = omega arith
few-pages (suc lines) few = omega (arith, few)

module _ (book : SeenBook) (n : ℕ) (day : Day) (is : IsPrintable book n day) where
  abbrev chart : Chart
  chart = book.chart

  abbrev entries : List Entry
  entries = book.entries

  abbrev lines : List Placed
  lines = lines_on chart n day entries

  all-fit : AllByRecursion (IsFit n) entries
  all-fit =
      recursion_from_All (IsFit n) entries (λ k d lt.
      let e : Entry = get_or entries k d in
      let fits = front-fits chart entries is.legal k e (slice_get-get_or entries k d lt) in
      entry-fit chart n e fits (is.shaped k d lt) (is.quotes k d lt) (one-leg chart n e fits))

  module _ (account : Account) (at : account_at chart n ≡ Some account) where
    formed : IsFormed account
    formed = is.chart.rows.apart.formed (n - 1) account at

    all-fine : AllByRecursion (IsFine account.decimals (length entries)) lines
    all-fine = lines-fine n day account.decimals (length entries) formed.decimals is.century (front-rules chart entries is.legal).short (is_return chart entries) 1 entries (omega arith) all-fit

    pub pages-few : pages_for (length lines) < 5000
    pages-few =
        let few = lines-few (is_return chart entries) n day 1 entries all-fit in
        let short = (front-rules chart entries is.legal).short in
        few-pages (length lines) (omega (arith, few, short))

    three : length account.ccy.0 ≡ 3
    three = all-get HasCode (accounts_of chart) (n - 1) account (recursion_from_All HasCode (accounts_of chart) is.codes) at

    balance-fine : (last : Bool) (d : Day) (k : ℕ) → InCentury d → IsBalance account.decimals (record { last = last; day = d; signed = carried chart entries n day k })
    balance-fine last d k century = record {
      day = century;
      small = abs-small (carried chart entries n day k) (after-small chart entries n day is.chart is.legal is.listed account.decimals (take (25 * k) lines) (all-take _ (25 * k) lines all-fine));
      few = formed.decimals;
    }

    page-lines : (k : ℕ) → AllByRecursion (IsFine account.decimals (length entries)) (lines_of_page k lines)
    page-lines k = all-take _ 25 (drop (25 * (k - 1)) lines) (all-drop _ (25 * (k - 1)) lines all-fine)

    -- a page can be written, and is read under such tables
    pub page-written : (t : Tables) (k : ℕ) → decimals_in t account.ccy.0 ≡ Some account.decimals → k ≤ pages_for (length lines) → IsPage t (page_at chart entries n day account k)
    page-written t k known low =
        let few = pages-few in
        let most = is.chart.rows.apart.few in
        let within = is.listed.1 in
        let quoted = quoted-page day n k is.century (omega (arith, most, within)) (omega (arith, few, low)) in
        record {
          reference = quoted.run;
          slashes = quoted.stray;
          account = word-run 35 account.id formed.id_plain formed.id_given (omega (arith, formed.id_short));
          number = omega (arith, year-place day is.century);
          page = omega (arith, few, low);
          three = three;
          capitals = formed.ccy;
          known = known;
          opening = balance-fine (k == 1) (cond (k == 1) (day_before day) day) (k - 1) (cond_both (k == 1) (day_before day) day InCentury (λ _. century-before day is.century) (λ _. is.century));
          lines = All-from_recursion (IsWritableLine account.decimals) _ (all-map (IsFine account.decimals (length entries)) (IsWritableLine account.decimals) (λ p. p.line) (λ p fine. fine.entry) (lines_of_page k lines) (page-lines k));
          closing = balance-fine (k == pages_for (length lines)) day k is.century;
          available = tt;
        }

    -- so it is one that is read of fields of a text
    pub page-readable : (k : ℕ) → k ≤ pages_for (length lines) → IsReadable mt950_of (page_at chart entries n day account k)
    page-readable k low =
        let t : Tables = record { bics = []; ccys = (account.ccy.0, account.decimals) ∷ []; countries = [] } in
        let known : decimals_in t account.ccy.0 ≡ Some account.decimals = rw ((bytes_eq-Decides account.ccy.0 account.ccy.0).1 refl) refl in
        let few : IsTrue (few_decimals t.ccys) = rw (le-leb account.decimals 4 formed.decimals) refl in
        page-given t (page_at chart entries n day account k) few (page-written t k known low)
        (All-from_recursion IsContinued _ (all-map (IsFine account.decimals (length entries)) IsContinued (λ p. p.line) (λ p fine. rw fine.plain tt) (lines_of_page k lines) (page-lines k)))

-- each line of a day can be written
pub lines-written : (book : SeenBook) (n : ℕ) (day : Day) → IsPrintable book n day → (decimals : ℕ) × AllByRecursion (λ (p : Placed). IsWritableLine decimals p.line) (lines_on book.chart n day book.entries)
lines-written book n day is =
    let account = listed_account book.chart n is.listed in
    (account.0.decimals, all-written account.0.decimals (length book.entries) (lines_on book.chart n day book.entries) (all-fine book n day is account.0 account.1))
