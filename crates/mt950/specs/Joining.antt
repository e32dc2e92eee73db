-- The pages of a statement joined: the statement that they are, or the first test that fails.
use Rattle.std.specs.Prelude.{◌≡◌, ℕ, ◌<◌, ◌≤◌, ◌+◌, ◌-◌, ◌^◌, ◌==◌, ◌&&◌, Bool, true, false, List, [], ◌∷◌, length, Option, Some, None, option_map, Result, Ok, Err, ℤ, pos, neg_ℤ, ◌+ℤ◌, int_le, unwrap_or, unsigned_abs, All, if◌then◌else◌}
use Rattle.std.specs.Ordering.{int_eq}
use Rattle.std.specs.List.{flat_map}
use Rattle.std.specs.Str.{bytes_eq}
use Rattle.corr_text.specs.Answers as answers
use Rattle.corr_text.specs.First.{check, first_of, unless, unless_fault, ◌>>=◌}
use Rattle.corr_ids.specs.Day.{InCentury}
use Rattle.corr_money.specs.Amounts.{amount_end, most_decimals}
use Rattle.mt950.specs.Entry.{effect_of}
use Rattle.mt950.specs.declared.entry.Line61.{Line61}
use Rattle.mt950.specs.declared.joining.PageFault.{PageFault}
use Rattle.mt950.specs.declared.joining.PageFault.TheVariants.{Gap, NotCarried, DoesNotAdd, Memory}
use Rattle.mt950.specs.declared.joining.Statement.{Statement}
use Rattle.mt950.specs.declared.page.Page950.{Page950}

-- how many pages are joined at most: as many as a file has messages
abbrev pub most_pages : ℕ
most_pages = 50000

-- two truths agree
abbrev pub both : Bool → Bool → Bool
both true b = b
both false true = false
both false false = true

-- a page's number, 1 where it isn't given
abbrev pub page_number : Page950 → ℕ
page_number page = unwrap_or page.page 1

-- of one account, in one currency, of one statement
abbrev pub is_same_statement : Page950 → Page950 → Bool
is_same_statement first page =
    bytes_eq page.account first.account && bytes_eq page.ccy.0 first.ccy.0 && (page.decimals == first.decimals) && (page.number == first.number)

-- a page belongs at a place, from 0, of so many after the first: it is of the same statement, its number follows, and it alone
-- opens the statement at the first place and closes it at the last
abbrev pub follows : Page950 → ℕ → ℕ → Page950 → Bool
follows first count at page =
    is_same_statement first page && (page_number page == page_number first + at) && both page.opening.last (at == 0) && both page.closing.last (at + 1 == count)

-- Gap: the least page that doesn't belong at its place
abbrev pub gap_tests : Page950 → ℕ → ℕ → List Page950 → List (Option ℕ)
gap_tests first count at [] = []
gap_tests first count at (page ∷ pages) = unless (follows first count at page) (at + 1) ∷ gap_tests first count (at + 1) pages

-- its number, from 1
abbrev pub first_gap : Page950 → ℕ → ℕ → List Page950 → Option ℕ
first_gap first count at pages = first_of (gap_tests first count at pages)

-- NotCarried: a page, the k-th of the list, that opens at another balance than the page before closed at
abbrev pub carried_tests : ℕ → ℤ → List Page950 → List (Option PageFault)
carried_tests k closing [] = []
carried_tests k closing (page ∷ pages) =
    unless (int_eq page.opening.signed closing) (NotCarried k closing page.opening.signed) ∷ carried_tests (k + 1) page.closing.signed pages

-- the least such page; before the first there is nothing to carry
abbrev pub first_uncarried : Page950 → List Page950 → Option PageFault
first_uncarried first pages = first_of (carried_tests 1 first.opening.signed pages)

-- what lines add to a balance together
abbrev pub effects_of : List Line61 → ℤ
effects_of [] = pos 0
effects_of (line ∷ lines) = effect_of line +ℤ effects_of lines

-- a number held to the ends of 64 bits
abbrev pub held : ℤ → ℤ
held n = if int_le n (neg_ℤ (pos (2 ^ 63))) then neg_ℤ (pos (2 ^ 63)) else if int_le (pos (2 ^ 63 - 1)) n then pos (2 ^ 63 - 1) else n

-- DoesNotAdd: an opening and lines that don't give the closing; the sum is exact
abbrev pub sum_test : ℤ → List Line61 → ℤ → Result (Unit {0}) PageFault
sum_test opening lines closing = check (int_eq (opening +ℤ effects_of lines) closing) (DoesNotAdd opening (held (effects_of lines)) closing)

-- a line whose amount is below the end of amounts
abbrev pub IsSmallLine : Line61 → Type 0
IsSmallLine line = line.amount.0 < amount_end

-- the last page, given the one before
abbrev pub last_of : Page950 → List Page950 → Page950
last_of page [] = page
last_of page (next ∷ pages) = last_of next pages

-- all lines of pages in their order
abbrev pub lines_of_pages : List Page950 → List Line61
lines_of_pages pages = flat_map (λ page. page.lines) pages

-- a statement whose balances and lines may be added, compared and printed: 4 decimals at most, a day from 1980 to 2079, balances
-- and amounts below 10^14, and the lines give the closing
pub record IsAddable (s : Statement) : Type 0 where
  pub few : s.decimals ≤ most_decimals
  pub opening : unsigned_abs s.opening < amount_end
  pub lines : All IsSmallLine s.lines
  pub closing : unsigned_abs s.closing < amount_end
  pub day : InCentury s.day
  pub adds : s.opening +ℤ effects_of s.lines ≡ s.closing

-- pages with a first one: the gaps, the balances that are carried, and the sum of opening and lines
abbrev pub joined_with : Page950 → List Page950 → Result Statement PageFault
joined_with first pages = do
  let last = last_of first pages
  let lines = lines_of_pages pages
  _ ← unless_fault (option_map Gap (first_gap first (length pages) 0 pages))
  _ ← unless_fault (first_uncarried first pages)
  _ ← sum_test first.opening.signed lines last.closing.signed
  Ok (record { account = first.account; ccy = first.ccy; decimals = first.decimals; opening = first.opening.signed; lines = lines; closing = last.closing.signed; day = last.closing.day })

-- the statement that pages are, or the first test that fails: without a page it is the gap at page 1
unfoldable pub joined_of : List Page950 → Result Statement PageFault
joined_of [] = Err (Gap 1)
joined_of (first ∷ pages) = joined_with first (first ∷ pages)

-- the fault that an answer tells, none where memory is out
abbrev pub told : PageFault → Option PageFault
told Memory = None
told fault = Some fault

-- pages are joined as is meant, or there was no memory
abbrev pub Joins : Result Statement PageFault → Result Statement PageFault → Type 0
Joins result meant = answers.Answers told meant result
