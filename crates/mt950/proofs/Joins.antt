-- Pages joined one after the other.
use Rattle.std.proofs.Common.{◌≡◌, ℕ, suc, ◌+◌, ◌-◌, ◌<◌, ◌≤◌, Bool, true, false, List, [], ◌∷◌, length, get_or, drop, Option, Some, None, Result, Ok, Err, refl, sym, subst, ◌∙◌, arith, pos, ◌+ℤ◌, ◌≤ℤ◌, neg_ℤ, ℤ, option_map}
use Rattle.std.proofs.lemmas.Bool.Decides.{Decides-int_eq}
use Rattle.std.proofs.lemmas.Int.{ints}
use Rattle.std.specs.Prelude.{IfOk}
use Rattle.std.specs.List.{All, AllByRecursion}
use Rattle.std.specs.Ordering.{int_eq}
use Rattle.std.proofs.lemmas.List.{drop_all, drop_more}
use Rattle.std.proofs.lemmas.List.Elements.{All-append, All-head, All-tail}
use Rattle.corr_text.specs.Answers.{Refuses}
use Rattle.corr_text.specs.First.{first_of, unless, unless_fault, ◌>>=◌}
use Rattle.corr_money.specs.Amounts.{amount_end}
use Rattle.fin_contents.specs.Writing.{IsReadable}
use Rattle.fin_contents.proofs.laws.Back.{each-weaker}
use Rattle.fin_contents.proofs.laws.Placed.{all-of, each-of}
use Rattle.fin_contents.proofs.laws.Steps.{checked, read-then}
use Rattle.mt950.specs.Entry.{effect_of, signed_amount}
use Rattle.mt950.specs.declared.entry.Mark.{Mark}
use Rattle.mt950.specs.declared.entry.Mark.TheVariants.{C, D, RC, RD}
use Rattle.mt950.specs.declared.joining.Statement.{Statement}
use Rattle.mt950.specs.Joining.{IsSmallLine, IsAddable, Joins, carried_tests, effects_of, first_gap, first_uncarried, follows, gap_tests, held, joined_with, last_of, lines_of_pages, sum_test, told}
use Rattle.mt950.specs.Page.{mt950_of}
use Rattle.mt950.specs.Writing.{IsWritableLine}
use Rattle.mt950.specs.declared.entry.Line61.{Line61}
use Rattle.mt950.specs.declared.joining.PageFault.{PageFault}
use Rattle.mt950.specs.declared.joining.PageFault.TheVariants.{DoesNotAdd, Gap, Memory, NotCarried}
use Rattle.mt950.specs.declared.page.Page950.{Page950}
use Rattle.mt950.proofs.Read.{readable-is}

goes-on : {F : Type 0} (b : Bool) (fault : F) (more : List (Option F)) → b ≡ true → first_of (unless b fault ∷ more) ≡ first_of more
goes-on b fault more e = rw e refl

stops : {F : Type 0} (b : Bool) (fault : F) (more : List (Option F)) → b ≡ false → first_of (unless b fault ∷ more) ≡ Some fault
stops b fault more e = rw e refl

module _ (first : Page950) (count : ℕ) (pages : List Page950) (at : ℕ) where
  pub gap-more : (page : Page950) → page ≡ get_or pages at page → at < length pages → follows first count at page ≡ true
      → first_gap first count at (drop at pages) ≡ first_gap first count (at + 1) (drop (at + 1) pages)
  gap-more page is lt holds =
      rw (drop_more pages at page lt, ← is) (goes-on (follows first count at page) (at + 1) (gap_tests first count (at + 1) (drop (at + 1) pages)) holds)

  pub gap-here : (page : Page950) → page ≡ get_or pages at page → at < length pages → follows first count at page ≡ false
      → first_gap first count at (drop at pages) ≡ Some (at + 1)
  gap-here page is lt fails =
      rw (drop_more pages at page lt, ← is) (stops (follows first count at page) (at + 1) (gap_tests first count (at + 1) (drop (at + 1) pages)) fails)

  pub gap-end : length pages ≤ at → first_gap first count at (drop at pages) ≡ None
  gap-end le = rw (drop_all at pages le) refl

module _ (closing : ℤ) (pages : List Page950) (at : ℕ) where
  pub carried-more : (page : Page950) → page ≡ get_or pages at page → at < length pages → int_eq page.opening.signed closing ≡ true
      → first_of (carried_tests (at + 1) closing (drop at pages)) ≡ first_of (carried_tests (at + 1 + 1) page.closing.signed (drop (at + 1) pages))
  carried-more page is lt holds =
      rw (drop_more pages at page lt, ← is)
      (goes-on (int_eq page.opening.signed closing) (NotCarried (at + 1) closing page.opening.signed)
      (carried_tests (at + 1 + 1) page.closing.signed (drop (at + 1) pages)) holds)

  pub carried-here : (page : Page950) → page ≡ get_or pages at page → at < length pages → int_eq page.opening.signed closing ≡ false
      → first_of (carried_tests (at + 1) closing (drop at pages)) ≡ Some (NotCarried (at + 1) closing page.opening.signed)
  carried-here page is lt fails =
      rw (drop_more pages at page lt, ← is)
      (stops (int_eq page.opening.signed closing) (NotCarried (at + 1) closing page.opening.signed)
      (carried_tests (at + 1 + 1) page.closing.signed (drop (at + 1) pages)) fails)

  pub carried-end : length pages ≤ at → first_of (carried_tests (at + 1) closing (drop at pages)) ≡ None
  carried-end le = rw (drop_all at pages le) refl

-- one line more
pub effects-more : (lines : List Line61) (i : ℕ) (line : Line61) → line ≡ get_or lines i line → i < length lines
    → effects_of (drop i lines) ≡ effect_of line +ℤ effects_of (drop (i + 1) lines)
effects-more lines i line is lt = rw (drop_more lines i line lt, ← is) refl

pub effects-end : (lines : List Line61) (i : ℕ) → length lines ≤ i → effects_of (drop i lines) ≡ pos 0
effects-end lines i le = rw (drop_all i lines le) refl

-- a line adds less than an amount's end, and takes less away
marked-within : (mark : Mark) (n : ℕ) → n < amount_end → (neg_ℤ (pos amount_end) ≤ℤ signed_amount mark n) × (signed_amount mark n ≤ℤ pos amount_end)
marked-within C n lt = (omega (arith, ints), omega (arith, ints))
marked-within RD n lt = (omega (arith, ints), omega (arith, ints))
marked-within D n lt = (omega (arith, ints), omega (arith, ints))
marked-within RC n lt = (omega (arith, ints), omega (arith, ints))

pub effect-within : (line : Line61) → IsSmallLine line → (neg_ℤ (pos amount_end) ≤ℤ effect_of line) × (effect_of line ≤ℤ pos amount_end)
effect-within line small = marked-within line.mark line.amount.0 small

-- ---- the tests in their order

-- a fault that a test tells is refused with it
told-refuses : (meant : Result Statement PageFault) (e : PageFault) → meant ≡ Err e → Refuses told meant e
told-refuses meant (Gap k) h = h
told-refuses meant (NotCarried k closing opening) h = h
told-refuses meant (DoesNotAdd opening sum closing) h = h
told-refuses meant Memory h = tt

stops-at : {A : Type 0} (r : Result (Unit {0}) PageFault) (next : Result A PageFault) (fault : PageFault) → r ≡ Err fault → (r >>= λ _. next) ≡ Err fault
stops-at r next fault e = rw e refl

goes-past : {A : Type 0} (r : Result (Unit {0}) PageFault) (next : Result A PageFault) (u : Unit {0}) → r ≡ Ok u → (r >>= λ _. next) ≡ next
goes-past r next u e = rw e refl

-- the last page
pub last-is : (first : Page950) (pages : List Page950) (x : Page950) → 1 ≤ length pages → x ≡ get_or pages (length pages - 1) x → last_of first pages ≡ x
last-is first [] x some is = absurd (omega (arith, some))
last-is first (p ∷ []) x some is = sym is
last-is first (p ∷ q ∷ pages) x some is =
    let place : length (p ∷ q ∷ pages) - 1 ≡ suc (length (q ∷ pages) - 1) = omega arith in
    last-is p (q ∷ pages) x (omega arith) (rw place at is)

module _ (first : Page950) (pages : List Page950) where
  abbrev statement_of : List Line61 → Page950 → Statement
  statement_of lines last = record {
    account = first.account;
    ccy = first.ccy;
    decimals = first.decimals;
    opening = first.opening.signed;
    lines = lines;
    closing = last.closing.signed;
    day = last.closing.day;
  }

  -- what is told after the gaps
  abbrev after_gaps : Result Statement PageFault
  after_gaps =
      unless_fault (first_uncarried first pages) >>= λ _.
      sum_test first.opening.signed (lines_of_pages pages) (last_of first pages).closing.signed >>= λ _.
      Ok (statement_of (lines_of_pages pages) (last_of first pages))

  abbrev after_balances : Result Statement PageFault
  after_balances =
      sum_test first.opening.signed (lines_of_pages pages) (last_of first pages).closing.signed >>= λ _.
      Ok (statement_of (lines_of_pages pages) (last_of first pages))

  abbrev gaps : Result (Unit {0}) PageFault
  gaps = unless_fault (option_map Gap (first_gap first (length pages) 0 pages))

  abbrev balances : Result (Unit {0}) PageFault
  balances = unless_fault (first_uncarried first pages)

  pub gap-told : (fault : PageFault) → gaps ≡ Err fault → Refuses told (joined_with first pages) fault
  gap-told fault e = told-refuses (joined_with first pages) fault (stops-at gaps after_gaps fault e)

  module _ (u : Unit {0}) (none : gaps ≡ Ok u) where
    no-gap : joined_with first pages ≡ after_gaps
    no-gap = goes-past gaps after_gaps u none

    pub carried-told : (fault : PageFault) → balances ≡ Err fault → Refuses told (joined_with first pages) fault
    carried-told fault e = told-refuses (joined_with first pages) fault (no-gap ∙ stops-at balances after_balances fault e)

    module _ (v : Unit {0}) (carried : balances ≡ Ok v) (lines : List Line61) (all : lines ≡ lines_of_pages pages) (last : Page950)
        (is : last_of first pages ≡ last) where
      to-sum : joined_with first pages ≡ (sum_test first.opening.signed lines last.closing.signed >>= λ _. Ok (statement_of lines last))
      to-sum = no-gap ∙ (goes-past balances after_balances v carried ∙ rw (is, ← all) refl)

      pub sum-told : (fault : PageFault) → sum_test first.opening.signed lines last.closing.signed ≡ Err fault
          → Refuses told (joined_with first pages) fault
      sum-told fault e =
          told-refuses (joined_with first pages) fault
          (to-sum ∙ stops-at (sum_test first.opening.signed lines last.closing.signed) (Ok (statement_of lines last)) fault e)

      pub joined-so : (w : Unit {0}) → sum_test first.opening.signed lines last.closing.signed ≡ Ok w
          → joined_with first pages ≡ Ok (statement_of lines last)
      joined-so w e = to-sum ∙ goes-past (sum_test first.opening.signed lines last.closing.signed) (Ok (statement_of lines last)) w e

-- ---- the lines of pages that were read are small

page-small : (p : Page950) → IsReadable mt950_of p → All IsSmallLine p.lines
page-small p r =
    all-of IsSmallLine p.lines
    (each-weaker (IsWritableLine p.decimals) IsSmallLine p.lines (each-of (IsWritableLine p.decimals) p.lines (readable-is p r).lines)
    (λ (line : Line61) is. is.small))

pub pages-small : (pages : List Page950) → All (IsReadable mt950_of) pages → All IsSmallLine (lines_of_pages pages)
pages-small [] given = λ k d lt. absurd (omega arith)
pages-small (p ∷ pages) given =
    All-append IsSmallLine p.lines (lines_of_pages pages) (page-small p (All-head (IsReadable mt950_of) p pages given))
    (pages-small pages (All-tail (IsReadable mt950_of) p pages given))

pub ruleset small_pages = (arith, pages-small)

-- ---- a statement of pages that were read

abbrev got : Statement → Result Statement PageFault
got s = Ok s

got-is : (x y : Statement) → got x ≡ got y → x ≡ y
got-is x y e = cc e

last-readable : (page : Page950) (pages : List Page950) → IsReadable mt950_of page → AllByRecursion (IsReadable mt950_of) pages
    → IsReadable mt950_of (last_of page pages)
last-readable page [] is given = is
last-readable page (next ∷ pages) is given = last-readable next pages given.0 given.1

module _ (first : Page950) (pages : List Page950) where
  -- such pages are this statement, and it adds up
  joined-is : (s : Statement) → joined_with first pages ≡ Ok s
      → (statement_of first pages (lines_of_pages pages) (last_of first pages) ≡ s)
      × (first.opening.signed +ℤ effects_of (lines_of_pages pages) ≡ (last_of first pages).closing.signed)
  joined-is s e =
      let lines = lines_of_pages pages in
      let closing = (last_of first pages).closing.signed in
      let past_gaps = read-then (gaps first pages) (λ _. after_gaps first pages) s e in
      let past_balances = read-then (balances first pages) (λ _. after_balances first pages) s past_gaps.2 in
      let added =
      checked (int_eq (first.opening.signed +ℤ effects_of lines) closing) (DoesNotAdd first.opening.signed (held (effects_of lines)) closing)
      (Ok (statement_of first pages lines (last_of first pages))) s past_balances.2 in (
        got-is (statement_of first pages lines (last_of first pages)) s added.1,
        (Decides-int_eq (first.opening.signed +ℤ effects_of lines) closing).0 added.0,
      )

pub joined-sound : (pages : List Page950) (first : Page950) (r : Result Statement PageFault) → All (IsReadable mt950_of) pages → 1 ≤ length pages
    → first ≡ get_or pages 0 first → Joins r (joined_with first pages) → IfOk r IsAddable
joined-sound pages first (Err e) given some is joins = tt
joined-sound [] first (Ok s) given some is joins = absurd (omega (arith, some))
joined-sound (p ∷ pages) first (Ok s) given some same joins =
    let each = each-of (IsReadable mt950_of) (p ∷ pages) given in
    let joined = joined-is p (p ∷ pages) s (subst (λ (x : Page950). joined_with x (p ∷ pages) ≡ Ok s) same joins) in
    let opens = readable-is p each.0 in
    let closes = readable-is (last_of p (p ∷ pages)) (last-readable p (p ∷ pages) each.0 each) in
    let is : IsAddable (statement_of p (p ∷ pages) (lines_of_pages (p ∷ pages)) (last_of p (p ∷ pages))) = record {
      few = opens.opening.few;
      opening = opens.opening.small;
      lines = pages-small (p ∷ pages) given;
      closing = closes.closing.small;
      day = closes.closing.day;
      adds = joined.1;
    } in
    subst IsAddable joined.0 is
