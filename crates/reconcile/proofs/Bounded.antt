-- The lines of a received statement and our entries of its day have small amounts and short references.
use Rattle.std.proofs.Common.{◌≡◌, ℕ, ◌<◌, ◌≤◌, ◌&&◌, true, List, [], ◌∷◌, map, length, option_map, Result, Ok, Err, sym, ap, subst, arith, ℤ, pos, negsuc, ◌+ℤ◌, ◌-ℤ◌}
use Rattle.std.specs.Prelude.{All, nat_le, neg_ℤ, unsigned_abs}
use Rattle.std.specs.List.{AllByRecursion, list_all}
use Rattle.std.proofs.lemmas.Bool.Decides.{nat_tests}
use Rattle.std.proofs.lemmas.Int.{ints}
use Rattle.std.proofs.lemmas.List.Elements.{All-append, All-from_recursion, All-nil, All-weaker, recursion_from_All}
use Rattle.corr_text.specs.First.{unless_fault, ◌>>=◌}
use Rattle.corr_text.specs.Sets.{is_in}
use Rattle.corr_text.specs.declared.set.Set.TheVariants.{X}
use mir.Syntax.{w64}
use mir.Val.{SFits}
use Rattle.corr_ids.specs.Day.{InCentury}
use Rattle.corr_money.specs.Amounts.{amount_end}
use Rattle.day_model.specs.Balance.{balance_of}
use Rattle.day_model.specs.Chart.{Chart, IsListed, IsSmall}
use Rattle.fin_contents.specs.Writing.{IsReadable}
use Rattle.mt950.specs.Entry.{effect_of, signed_amount}
use Rattle.mt950.specs.Joining.{first_gap, first_uncarried, joined_of, last_of, lines_of_pages, sum_test}
use Rattle.mt950.specs.Page.{mt950_of}
use Rattle.mt950.specs.Writing.{IsWritableLine}
use Rattle.mt950.specs.declared.entry.Line61.{Line61}
use Rattle.mt950.specs.declared.entry.Mark.{Mark}
use Rattle.mt950.specs.declared.entry.Mark.TheVariants.{C, D, RC, RD}
use Rattle.mt950.specs.declared.joining.PageFault.{PageFault}
use Rattle.mt950.specs.declared.joining.PageFault.TheVariants.{Gap}
use Rattle.mt950.specs.declared.joining.Statement.{Statement}
use Rattle.mt950.specs.declared.page.Page950.{Page950}
use Rattle.mt950.proofs.laws.Pages.{readable-page}
use Rattle.statement.specs.Legs.{before_day}
use Rattle.statement.specs.Lines.{Placed, lines_on, up_to_day}
use Rattle.statement.specs.Running.{placed_by}
use Rattle.statement.specs.Seen.{SeenBook}
use Rattle.statement.specs.inner.Valid.{IsPrintable}
use Rattle.statement.specs.declared.index.HistoryIndex.{HistoryIndex}
use Rattle.statement.specs.declared.movement.Movement.{Movement}
use Rattle.statement.proofs.laws.Balances.{small-before, small-up-to}
use Rattle.statement.proofs.laws.Readable.{lines-written}
use Rattle.reconcile.specs.Bounds.{IsReceived}
use Rattle.reconcile.specs.inner.Bounds.{CanBeKeyed, Compares, IsLine, IsIndexFor}
use Rattle.reconcile.proofs.Tests.{middle}

short-run : (most : ℕ) (text : List ℕ) → (nat_le 1 (length text) && nat_le (length text) most && list_all (is_in X) text) ≡ true → length text ≤ most
short-run most text e =
    let few : nat_le (length text) most ≡ true = middle (nat_le 1 (length text)) (nat_le (length text) most) (list_all (is_in X) text) e in
    grind (arith, nat_tests)

-- what a line takes from a balance fits too
marked-turns : (mark : Mark) (amount : ℕ) → amount < amount_end → SFits w64 (pos 0 -ℤ signed_amount mark amount)
marked-turns C amount lt = omega (arith, ints, lt)
marked-turns RD amount lt = omega (arith, ints, lt)
marked-turns D amount lt = omega (arith, ints, lt)
marked-turns RC amount lt = omega (arith, ints, lt)

pub effect-turns : (line : Line61) → line.amount.0 < amount_end → SFits w64 (pos 0 -ℤ effect_of line)
effect-turns line lt = marked-turns line.mark line.amount.0 lt

pub turned : (z : ℤ) → pos 0 -ℤ z ≡ neg_ℤ z
turned z = grind (arith, ints)

entry-line : (decimals : ℕ) (line : Line61) → IsWritableLine decimals line → IsLine line
entry-line decimals line e = record { amount = e.small; reference = short-run 16 line.reference e.reference }

-- the account of a page is short
pub account-short : (page : Page950) → IsReadable mt950_of page → length page.account < 36
account-short page given = let few = short-run 35 page.account (readable-page page given).account in omega (arith, few)

page-lines : (pages : List Page950) → AllByRecursion (IsReadable mt950_of) pages → All IsLine (lines_of_pages pages)
page-lines [] all = All-nil IsLine
page-lines (p ∷ pages) all =
    All-append IsLine p.lines (lines_of_pages pages) (All-weaker (IsWritableLine p.decimals) IsLine (entry-line p.decimals) p.lines (readable-page p all.0).lines) (page-lines pages all.1)

-- pages that join to a statement have its lines
ok-value : (a b c : Result (Unit {0}) PageFault) (v s : Statement) → (a >>= λ _. b >>= λ _. c >>= λ _. Ok v) ≡ Ok s → v ≡ s
ok-value (Ok a) (Ok b) (Ok c) v s e = cc e
ok-value (Ok a) (Ok b) (Err c) v s e = absurd (cc e)
ok-value (Ok a) (Err b) c v s e = absurd (cc e)
ok-value (Err a) b c v s e = absurd (cc e)

joined-lines : (pages : List Page950) (s : Statement) → joined_of pages ≡ Ok s → s.lines ≡ lines_of_pages pages
unfolding joined_of
joined-lines [] s e = absurd (cc e)
joined-lines (first ∷ pages) s e =
    let all : List Page950 = first ∷ pages in
    let last : Page950 = last_of first all in
    let v : Statement = record {
      account = first.account;
      ccy = first.ccy;
      decimals = first.decimals;
      opening = first.opening.signed;
      lines = lines_of_pages all;
      closing = last.closing.signed;
      day = last.closing.day;
    } in
    sym (ap (λ (x : Statement). x.lines)
    (ok-value (unless_fault (option_map Gap (first_gap first (length all) 0 all))) (unless_fault (first_uncarried first all)) (sum_test first.opening.signed (lines_of_pages all) last.closing.signed) v s e))

pub received-lines : (s : Statement) → IsReceived s → All IsLine s.lines
received-lines s is =
    subst (All IsLine) (sym (joined-lines is.pages s is.joined)) (page-lines is.pages (recursion_from_All (IsReadable mt950_of) is.pages is.read))

keyed-by : (decimals : ℕ) (ms : List Movement) → AllByRecursion (λ (p : Placed). IsWritableLine decimals p.line) (map placed_by ms) → AllByRecursion CanBeKeyed ms
keyed-by decimals [] all = tt
keyed-by decimals (m ∷ ms) all = (record { amount = all.0.small; reference = short-run 16 m.reference all.0.reference }, keyed-by decimals ms all.1)

pub entries-keyed : (decimals : ℕ) (ms : List Movement) (ours : List Placed) → map placed_by ms ≡ ours → AllByRecursion (λ (p : Placed). IsWritableLine decimals p.line) ours → All CanBeKeyed ms
entries-keyed decimals ms ours e all = All-from_recursion CanBeKeyed ms (keyed-by decimals ms (subst (AllByRecursion (λ (p : Placed). IsWritableLine decimals p.line)) (sym e) all))

-- ---- a book with which a statement is compared

module _ (index : HistoryIndex) (n : ℕ) (s : Statement) (book : SeenBook) (is : Compares index n s book) where
  printable : IsPrintable book n s.day
  printable = record {
    chart = is.has.is.chart;
    legal = is.has.is.legal;
    listed = is.has.listed;
    shaped = is.shaped;
    century = is.received.sound.day;
    codes = is.has.is.codes;
    quotes = is.has.is.quotes;
  }

  pub ours-keyed : (ms : List Movement) → map placed_by ms ≡ lines_on book.chart n s.day book.entries → All CanBeKeyed ms
  ours-keyed ms e = let written = lines-written book n s.day printable in entries-keyed written.0 ms (lines_on book.chart n s.day book.entries) e written.1

small-number : (z : ℤ) → unsigned_abs z < amount_end → IsSmall z
small-number (pos k) lt = grind (arith, ints)
small-number (negsuc k) lt = grind (arith, ints)

-- two numbers below 10^14 in size may be added
pub small-sum : (a b : ℤ) → IsSmall a → unsigned_abs b < amount_end → SFits w64 (a +ℤ b)
small-sum a b small lt = let both = small-number b lt in omega (arith, ints, small, both)

-- our balance before the day of a statement may be added to its opening, and the one after it to its closing
module _ (index : HistoryIndex) (n : ℕ) (s : Statement) (book : SeenBook) (is : Compares index n s book) where
  pub sum-before : SFits w64 (balance_of book.chart (before_day s.day book.entries) n +ℤ s.opening)
  sum-before =
      small-sum (balance_of book.chart (before_day s.day book.entries) n) s.opening
      (small-before book.chart book.entries n s.day is.has.is.chart is.has.is.legal is.has.listed) is.received.sound.opening

  pub sum-up-to : SFits w64 (balance_of book.chart (up_to_day s.day book.entries) n +ℤ s.closing)
  sum-up-to =
      small-sum (balance_of book.chart (up_to_day s.day book.entries) n) s.closing
      (small-up-to book.chart book.entries n s.day is.has.is.chart is.has.is.legal is.has.listed) is.received.sound.closing

-- a statement of an account that is listed can be compared with the book
pub compares : (index : HistoryIndex) (chart : Chart) (n : ℕ) (s : Statement) (book : SeenBook) → IsIndexFor index chart book → IsListed chart n → IsReceived s → Compares index n s book
compares index chart n s book tells listed received = record {
  has = record { is = tells.is; listed = subst (λ (c : Chart). IsListed c n) (sym tells.same) listed };
  shaped = tells.shaped;
  received = received;
}

-- ---- pages

pub page-day : (page : Page950) → IsReadable mt950_of page → InCentury page.closing.day
page-day page given = (readable-page page given).closing.day

pub page-decimals : (page : Page950) → IsReadable mt950_of page → page.decimals ≤ 4
page-decimals page given = (readable-page page given).closing.few
