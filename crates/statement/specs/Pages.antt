-- The pages of an account's statement.
use Rattle.std.specs.Prelude.{ℕ, zero, suc, ◌+◌, ◌-◌, ◌/◌, ◌*◌, ◌==◌, List, [], ◌∷◌, ◌++◌, length, take, drop, map, Some, None, ℤ, pos, ◌-ℤ◌, if◌then◌else◌}
use Rattle.std.specs.Ordering.{int_eq}
use Rattle.std.specs.Option.{option_map_or}
use Rattle.corr_text.specs.Digits.{padded}
use Rattle.corr_ids.specs.Day.{place_in_year, yymmdd_of}
use Rattle.corr_ids.specs.declared.day.Day.{Day}
use Rattle.fin_blocks.specs.Sending.{sent_text}
use Rattle.fin_fields.specs.Writing.{fields_text}
use Rattle.day_model.specs.Balance.{balance_of}
use Rattle.day_model.specs.Chart.{Chart, account_at}
use Rattle.day_model.specs.declared.account.Account.{Account}
use Rattle.day_model.specs.declared.entry.Entry.{Entry}
use Rattle.mt950.specs.Writing.{fields_950}
use Rattle.mt950.specs.declared.balance.Balance.{Balance}
use Rattle.mt950.specs.declared.page.Page950.{Page950}
use Rattle.statement.specs.Legs.{before_day}
use Rattle.statement.specs.Lines.{Placed, lines_on}
use Rattle.statement.specs.declared.page.PlacedPage.{PlacedPage}

-- how many lines a page has at most
abbrev pub most_lines : ℕ
most_lines = 25

-- how many pages so many lines need: one for none too
abbrev pub pages_for : ℕ → ℕ
pages_for zero = 1
pages_for (suc lines) = lines / most_lines + 1

-- the lines of the k-th page, from 1
abbrev pub lines_of_page : ℕ → List Placed → List Placed
lines_of_page k lines = take most_lines (drop (most_lines * (k - 1)) lines)

-- the day before; 1980-01-01 itself, because the day before it can't be spelled
abbrev pub day_before : Day → Day
day_before day = if int_eq day.0 (pos 3652) then day else record { 0 = day.0 -ℤ pos 1 }

-- the reference of the k-th page, as `S2406030001P0001`
abbrev pub page_reference : Day → ℕ → ℕ → List ℕ
page_reference day n k = 83 ∷ yymmdd_of day ++ padded 4 n ++ 80 ∷ padded 4 k

-- the balance of account n after the last entry of lines, and before the day where there is none
abbrev pub balance_after : Chart → List Entry → ℕ → Day → List Placed → ℤ
balance_after chart entries n day [] = balance_of chart (before_day day entries) n
balance_after chart entries n day (placed ∷ []) = balance_of chart (take placed.place entries) n
balance_after chart entries n day (placed ∷ next ∷ lines) = balance_after chart entries n day (next ∷ lines)

-- the balance after the first k pages
abbrev pub carried : Chart → List Entry → ℕ → Day → ℕ → ℤ
carried chart entries n day k = balance_after chart entries n day (take (most_lines * k) (lines_on chart n day entries))

-- the opening of the k-th page: of the first page with the day before and the letter F
abbrev pub page_opening : Chart → List Entry → ℕ → Day → ℕ → Balance
page_opening chart entries n day k = record { last = k == 1; day = if k == 1 then day_before day else day; signed = carried chart entries n day (k - 1) }

-- the closing of the k-th page: of the last page with the letter F
abbrev pub closing_of : Chart → List Entry → ℕ → Day → ℕ → Balance
closing_of chart entries n day k = record { last = k == pages_for (length (lines_on chart n day entries)); day = day; signed = carried chart entries n day k }

-- the k-th page of account n, which has these columns
abbrev pub page_at : Chart → List Entry → ℕ → Day → Account → ℕ → Page950
page_at chart entries n day account k = record {
  reference = page_reference day n k;
  account = account.id;
  number = place_in_year day;
  page = Some k;
  ccy = account.ccy;
  decimals = account.decimals;
  opening = page_opening chart entries n day k;
  lines = map (λ placed. placed.line) (lines_of_page k (lines_on chart n day entries));
  closing = closing_of chart entries n day k;
  available = None;
}

-- so many pages, the first of which is the k-th
abbrev pub pages_from : {A : Type 0} → (ℕ → A) → ℕ → ℕ → List A
pages_from page k zero = []
pages_from page k (suc more) = page k ∷ pages_from page (k + 1) more

-- the pages of an account's statement of a day; none for a number that no account has
abbrev pub statement_of : Chart → List Entry → ℕ → Day → List Page950
statement_of chart entries n day =
    option_map_or (λ account. pages_from (page_at chart entries n day account) 1 (pages_for (length (lines_on chart n day entries)))) (account_at chart n) []

-- the k-th page with the places of its lines
abbrev pub placed_page : Chart → List Entry → ℕ → Day → Account → ℕ → PlacedPage
placed_page chart entries n day account k =
    record { page = page_at chart entries n day account k; places = map (λ placed. placed.place) (lines_of_page k (lines_on chart n day entries)) }

-- the pages of an account's statement of a day, with the places of their lines
abbrev pub placed_pages_of : Chart → List Entry → ℕ → Day → List PlacedPage
placed_pages_of chart entries n day =
    option_map_or (λ account. pages_from (placed_page chart entries n day account) 1 (pages_for (length (lines_on chart n day entries)))) (account_at chart n) []

-- a page as the message that its account's owner is sent
abbrev pub page_message : Chart → Account → Page950 → List ℕ
page_message chart account page = sent_text chart.home 950 account.owner [] (fields_text (fields_950 page))

-- the messages of an account's statement of a day
abbrev pub pages_of : Chart → List Entry → ℕ → Day → List (List ℕ)
pages_of chart entries n day =
    option_map_or (λ account. map (page_message chart account) (statement_of chart entries n day)) (account_at chart n) []
