-- One entry more in an index.
use Rattle.std.proofs.Common.{◌≡◌, ℕ, zero, suc, ◌+◌, ◌-◌, ◌<◌, Bool, false, List, [], ◌∷◌, ◌++◌, map, length, take, Option, Some, refl, sym, ap, ◌∙◌, subst, arith, ℤ, length-append, Global}
use Rattle.std.specs.Prelude.{All, int_lt, slice_get}
use Rattle.std.specs.List.{filter}
use Rattle.std.specs.declared.vec.Vec.{Vec}
use Rattle.std.proofs.lemmas.List.{append-nil, length-map, take_all}
use Rattle.std.proofs.lemmas.List.Elements.{All-append, All-nil}
use Rattle.std.proofs.lemmas.Option.{same_Some}
use Rattle.corr_ids.specs.declared.day.Day.{Day}
use Rattle.day_model.specs.Balance.{balance_of, changed, is_booked}
use Rattle.day_model.specs.Chart.{Chart, HasCode, IsChart, IsListed, IsSmall, account_at, accounts_of}
use Rattle.day_model.specs.Legal.{IsLegal}
use Rattle.day_model.specs.declared.account.Account.{Account}
use Rattle.day_model.specs.declared.entry.Entry.{Entry}
use Rattle.day_model.specs.declared.pay.Leg.{Leg}
use Rattle.day_model.proofs.laws.Fitting.{LegsFit, fitting, listed_account}
use Rattle.day_model.proofs.laws.Slices.{push_last}
use Rattle.pay_returns.specs.References.{IsByteQuote, quote_text}
use Rattle.pay_returns.specs.declared.origin.Origin.{Origin}
use Rattle.statement.specs.Index.{AreLedgersOf, IsIndexOf, TakesNext, grown, is_next_return, ledger_with, movement_of, movements_of, payment_of}
use Rattle.statement.specs.inner.Index.{Rise, balance_at, is_of_earlier_day, last_balance}
use Rattle.statement.specs.Legs.{HasQuotes, before_day, legs_on}
use Rattle.statement.specs.Seen.{IsFront, SeenBook}
use Rattle.statement.specs.declared.index.HistoryIndex.{HistoryIndex}
use Rattle.statement.specs.declared.ledger.Ledger.{Ledger}
use Rattle.statement.specs.declared.movement.Movement.{Movement}
use Rattle.statement.proofs.Days.{entry_day, kept-balance, lt-down, movement_day, moves-rise, rise-at, rising}
use Rattle.statement.proofs.Legs.{one-moves}
use Rattle.statement.proofs.Moves.{last-balance, moves-append, opening-is}
use Rattle.statement.proofs.Payments.{payments-more}
use Rattle.statement.proofs.Prefixes.{map-get, take-next}
use Rattle.statement.proofs.laws.Fronts.{front-fits, front-rules, front-small, front-take}

pub on-none : (n : ℕ) (entry : Entry) → is_booked entry.outcome ≡ false → legs_on n entry ≡ []
on-none n entry e = rw e refl

pub all-one : {A : Type 0} (P : A → Type 0) (x : A) → P x → All P (x ∷ [])
all-one P x p zero d lt = p
all-one P x p (suc k) d lt = absurd (omega (arith, lt))

pub quotes-none : (entry : Entry) → is_booked entry.outcome ≡ false → HasQuotes entry
quotes-none entry e = rw e (All-nil (λ (leg : Leg). IsByteQuote leg.quote))

-- ---- movements of one entry more

pub more : (chart : Chart) (n : ℕ) (entries : List Entry) (entry : Entry) → movements_of chart n (entries ++ entry ∷ []) ≡ movements_of chart n entries ++ map (movement_of chart n entries entry) (legs_on n entry)
more chart n entries entry =
    moves-append chart n [] entries (entry ∷ []) ∙ ap (λ (ms : List Movement). movements_of chart n entries ++ ms) (append-nil (map (movement_of chart n entries entry) (legs_on n entry)))

pub more-none : (chart : Chart) (n : ℕ) (entries : List Entry) (entry : Entry) → legs_on n entry ≡ [] → movements_of chart n (entries ++ entry ∷ []) ≡ movements_of chart n entries
more-none chart n entries entry e =
    more chart n entries entry ∙ ap (λ (ls : List Leg). movements_of chart n entries ++ map (movement_of chart n entries entry) ls) e ∙ append-nil (movements_of chart n entries)

-- ---- the ledgers

module _ (chart : Chart) (entries : List Entry) (entry : Entry) (ledgers : List Ledger) (are : AreLedgersOf ledgers chart entries) where
  pub ledgers-same : is_booked entry.outcome ≡ false → AreLedgersOf ledgers chart (entries ++ entry ∷ [])
  ledgers-same e = record {
    size = are.size;
    each = λ i account at. are.each i account at ∙ ap (λ (ms : List Movement). Some (ledger_with account ms)) (sym (more-none chart (i + 1) entries entry (on-none (i + 1) entry e)));
  }

-- ---- the next entry

-- the legs of the next entry fit
pub next-fit : (index : HistoryIndex) (entry : Entry) (book : SeenBook) → TakesNext index entry book → LegsFit book.chart entry.pay.legs
next-fit index entry book next = fitting book.chart entry.pay.legs (front-fits book.chart (book.entries ++ entry ∷ []) next.legal (length book.entries) entry (push_last book.entries entry))

pub balance-small : (index : HistoryIndex) (book : SeenBook) (n : ℕ) → IsIndexOf index book → IsListed book.chart n → IsSmall (balance_of book.chart book.entries n)
balance-small index book n is listed =
    subst (λ (es : List Entry). IsSmall (balance_of book.chart es n)) (take_all (length book.entries) book.entries (omega arith)) (front-small book.chart book.entries is.legal n (length book.entries) is.chart listed (omega arith))

-- ---- what an index keeps of an account

-- a ledger that stands in an index is that of the account
pub record Kept (book : SeenBook) (n : ℕ) (ledger : Ledger) : Type 0 where
  pub account : Account
  pub there : account_at book.chart n ≡ Some account
  pub same : ledger ≡ ledger_with account (movements_of book.chart n book.entries)

pub kept : (index : HistoryIndex) (book : SeenBook) (n : ℕ) (ledger : Ledger) → IsIndexOf index book → IsListed book.chart n → slice_get index.ledgers.items (n - 1) ≡ Some ledger → Kept book n ledger
kept index book n ledger is listed at =
    let account = listed_account book.chart n listed in
    let place : n - 1 + 1 ≡ n = omega (arith, listed.0) in
    let there : slice_get index.ledgers.items (n - 1) ≡ Some (ledger_with account.0 (movements_of book.chart n book.entries)) =
    is.ledgers.each (n - 1) account.0 account.1 ∙ ap (λ (k : ℕ). Some (ledger_with account.0 (movements_of book.chart k book.entries))) place in
    record { account = account.0; there = account.1; same = same_Some ledger (ledger_with account.0 (movements_of book.chart n book.entries)) (sym at ∙ there) }

pub kept-balance-of : (book : SeenBook) (n : ℕ) (ledger : Ledger) → Kept book n ledger → last_balance ledger.opening ledger.movements ≡ balance_of book.chart book.entries n
kept-balance-of book n ledger k = ap (λ (l : Ledger). last_balance l.opening l.movements) k.same ∙ last-balance book.chart n k.account book.entries k.there

-- its movements stand in the order of their days, and tell the balance before a day
pub kept-rise : (index : HistoryIndex) (book : SeenBook) (n : ℕ) (ledger : Ledger) → IsIndexOf index book → Kept book n ledger → Rise ledger.movements
kept-rise index book n ledger is k =
    let up = moves-rise book.chart n [] book.entries (rising entry_day book.entries (front-rules book.chart book.entries is.legal).days) in
    subst (λ (l : Ledger). Rise l.movements) (sym k.same) (rise-at movement_day (movements_of book.chart n book.entries) up)

pub kept-before : (index : HistoryIndex) (book : SeenBook) (n : ℕ) (ledger : Ledger) (day : Day) → IsIndexOf index book → Kept book n ledger → balance_at ledger day ≡ balance_of book.chart (before_day day book.entries) n
kept-before index book n ledger day is k =
    let earlier : List Movement = filter (is_of_earlier_day day.0) (movements_of book.chart n book.entries) in
    ap (λ (l : Ledger). balance_at l day) k.same
    ∙ ap (λ (b : ℤ). last_balance b earlier) (sym (opening-is book.chart n k.account k.there))
    ∙ kept-balance book.chart n (λ d. int_lt d day.0) (lt-down day.0) [] book.entries (rising entry_day book.entries (front-rules book.chart book.entries is.legal).days)

pub within : (index : HistoryIndex) (book : SeenBook) (n : ℕ) → IsIndexOf index book → IsListed book.chart n → n - 1 < length index.ledgers.items
within index book n is listed = omega (arith, is.ledgers.size, listed.0, listed.1)

pub entry-short : (index : HistoryIndex) (entry : Entry) (book : SeenBook) → TakesNext index entry book → index.entries < 100000
entry-short index entry book next = omega (arith, (front-rules book.chart (book.entries ++ entry ∷ []) next.legal).short, length-append book.entries (entry ∷ []), next.is.count)

pub listed-too : (index : HistoryIndex) (book other : SeenBook) (n : ℕ) → IsIndexOf index book → IsIndexOf index other → IsListed book.chart n → IsListed other.chart n
listed-too index book other n is too listed = (listed.0, omega (arith, listed.1, is.ledgers.size, too.ledgers.size))

-- a leg of the next entry, with the balance after it
module _ (index : HistoryIndex) (entry : Entry) (leg : Leg) (book : SeenBook) (ledger : Ledger) (next : TakesNext index entry book) (listed : IsListed book.chart leg.account.0) (only : legs_on leg.account.0 entry ≡ leg ∷ [])
    (at : slice_get index.ledgers.items (leg.account.0 - 1) ≡ Some ledger) (text : List ℕ) (quotes : text ≡ quote_text (index.entries + 1) leg.quote)
    (returned : Bool) (is_return : returned ≡ is_next_return book.chart book.entries entry)
    (balance : ℤ) (tells : balance ≡ changed leg.side leg.amount.0 (last_balance ledger.opening ledger.movements)) where
  abbrev n : ℕ
  n = leg.account.0

  place-is : index.entries + 1 ≡ length book.entries + 1
  place-is = ap (λ (k : ℕ). k + 1) next.is.count

  quoted : text ≡ quote_text (length book.entries + 1) leg.quote
  quoted = quotes ∙ ap (λ (k : ℕ). quote_text k leg.quote) place-is

  balance-is : balance ≡ balance_of book.chart (book.entries ++ entry ∷ []) n
  balance-is =
      tells
      ∙ ap (changed leg.side leg.amount.0) (kept-balance-of book n ledger (kept index book n ledger next.is listed at))
      ∙ sym (one-moves book.chart book.entries entry leg only)

  pub moves-by : record { place = index.entries + 1; day = entry.day; value = entry.pay.value; mt = entry.pay.mt; side = leg.side; returned = returned; amount = leg.amount; reference = text; balance = balance } ≡ movement_of book.chart n book.entries entry leg
  moves-by = λ i. record { place = place-is i; day = entry.day; value = entry.pay.value; mt = entry.pay.mt; side = leg.side; returned = is_return i; amount = leg.amount; reference = quoted i; balance = balance-is i }

-- ---- an index made anew

pub begins : (chart : Chart) (index : HistoryIndex) → IsChart chart → All HasCode (accounts_of chart) → IsFront chart [] → index.home ≡ chart.home → index.entries ≡ 0 → index.payments.items ≡ [] → index.ledgers.items ≡ map (λ account. ledger_with account []) (accounts_of chart) → IsIndexOf index (record { chart = chart; entries = [] })
begins chart index sound codes legal home none empty made = record {
  chart = sound;
  legal = legal;
  home = home;
  count = none;
  ledgers = record {
    size = ap length made ∙ length-map (accounts_of chart) (λ account. ledger_with account []);
    each = λ i account at. ap (λ (ls : List Ledger). slice_get ls i) made ∙ map-get (λ account. ledger_with account []) (accounts_of chart) i account at;
  };
  payments = empty;
  codes = codes;
  quotes = All-nil HasQuotes;
}

-- the first k entries of a history
abbrev pub front : Chart → List Entry → ℕ → SeenBook
front chart entries k = record { chart = chart; entries = take k entries }

pub next-at : (chart : Chart) (entries : List Entry) (k : ℕ) (entry : Entry) (index : HistoryIndex) → IsLegal chart entries → slice_get entries (k + 1 - 1) ≡ Some entry → IsIndexOf index (front chart entries k) → TakesNext index entry (front chart entries k)
next-at chart entries k entry index legal at is = record { is = is; legal = subst (IsFront chart) (take-next entries k entry at) (front-take chart entries (k + 1) legal) }

-- the index with the next entry
pub grown-index : (index new : HistoryIndex) (entry : Entry) (book : SeenBook) → TakesNext index entry book → new.home ≡ index.home → new.entries ≡ index.entries + 1 → new.payments.items ≡ index.payments.items ++ payment_of book.chart book.entries entry ∷ []
    → AreLedgersOf new.ledgers.items book.chart (book.entries ++ entry ∷ []) → HasQuotes entry → IsIndexOf new (grown book entry)
grown-index index new entry book next home count payments ledgers quotes = record {
  chart = next.is.chart;
  legal = next.legal;
  home = home ∙ next.is.home;
  count = omega (arith, count, next.is.count, length-append book.entries (entry ∷ []));
  ledgers = ledgers;
  payments = payments ∙ ap (λ (os : List (Option Origin)). os ++ payment_of book.chart book.entries entry ∷ []) next.is.payments ∙ sym (payments-more book.chart book.entries entry);
  codes = next.is.codes;
  quotes = All-append HasQuotes book.entries (entry ∷ []) next.is.quotes (all-one HasQuotes entry quotes);
}

-- its payment is added and its entries are counted last
pub counted-index : (index mid : HistoryIndex) (payments : Vec (Option Origin) Global) (entry : Entry) (book : SeenBook) → TakesNext index entry book → mid.home ≡ index.home → mid.entries ≡ index.entries
    → payments.items ≡ index.payments.items ++ payment_of book.chart book.entries entry ∷ [] → AreLedgersOf mid.ledgers.items book.chart (book.entries ++ entry ∷ []) → HasQuotes entry
    → IsIndexOf (record mid { payments = payments; entries = mid.entries + 1 }) (grown book entry)
counted-index index mid payments entry book next home count added ledgers quotes =
    grown-index index (record mid { payments = payments; entries = mid.entries + 1 }) entry book next home (ap (λ (k : ℕ). k + 1) count) added ledgers quotes

-- one with the ledgers, the payments, the home and the count of an index
pub same-index : (index new : HistoryIndex) (book : SeenBook) → IsIndexOf index book → new.home ≡ index.home → new.entries ≡ index.entries → new.payments.items ≡ index.payments.items
    → new.ledgers.items ≡ index.ledgers.items → IsIndexOf new book
same-index index new book is home count payments ledgers = record {
  chart = is.chart;
  legal = is.legal;
  home = home ∙ is.home;
  count = count ∙ is.count;
  ledgers = subst (λ (ls : List Ledger). AreLedgersOf ls book.chart book.entries) (sym ledgers) is.ledgers;
  payments = payments ∙ is.payments;
  codes = is.codes;
  quotes = is.quotes;
}
