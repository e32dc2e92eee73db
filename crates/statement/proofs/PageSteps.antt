-- Pages by running balances are the pages of the statement.
use Rattle.std.proofs.Common.{◌≡◌, ℕ, zero, suc, ◌+◌, ◌-◌, ◌*◌, ◌==◌, List, [], ◌∷◌, ◌++◌, map, length, take, drop, Some, None, refl, sym, ap, ◌∙◌, arith, ℤ}
use Rattle.std.specs.Prelude.{if◌then◌else◌}
use Rattle.std.proofs.lemmas.List.{drop-map, length-map, take-map}
use lib.Seq.{take-add}
use Rattle.corr_ids.specs.Day.{place_in_year}
use Rattle.corr_ids.specs.declared.day.Day.{Day}
use Rattle.day_model.specs.Balance.{balance_of}
use Rattle.day_model.specs.Chart.{Chart}
use Rattle.day_model.specs.declared.account.Account.{Account}
use Rattle.day_model.specs.declared.account.AcctNo.{AcctNo}
use Rattle.day_model.specs.declared.entry.Entry.{Entry}
use Rattle.statement.specs.Index.{ledger_with, movements_of}
use Rattle.statement.specs.inner.Index.{last_balance, on_day}
use Rattle.statement.specs.Legs.{before_day}
use Rattle.statement.specs.Lines.{lines_on}
use Rattle.statement.specs.Pages.{balance_after, carried, day_before, lines_of_page, page_at, page_reference, pages_for, pages_from}
use Rattle.statement.specs.Running.{line_by, placed_by}
use Rattle.statement.specs.inner.Running.{page_by}
use Rattle.statement.specs.declared.movement.Movement.{Movement}
use Rattle.statement.proofs.Moves.{last-append}
use Rattle.statement.proofs.Running.{balance-by, lines-are, moves-tell, tells-filter, tells-take}

map-map : {A B C : Type 0} (f : A → B) (g : B → C) (xs : List A) → map g (map f xs) ≡ map (λ x. g (f x)) xs
map-map f g [] = refl
map-map f g (x ∷ xs) = ap (λ ys. g (f x) ∷ ys) (map-map f g xs)

-- one page more
pub pages-more : {A : Type 0} (page : ℕ → A) (first count : ℕ) → pages_from page first (count + 1) ≡ pages_from page first count ++ page (first + count) ∷ []
pages-more page first zero = ap (λ (k : ℕ). page k ∷ []) (omega arith)
pages-more {A = A} page first (suc count) =
    let place : first + 1 + count ≡ first + suc count = omega arith in
    let longer : suc count + 1 ≡ suc (count + 1) = omega arith in
    ap (pages_from page first) longer ∙ ap (λ (ps : List A). page first ∷ ps) (pages-more page (first + 1) count ∙ ap (λ (k : ℕ). pages_from page (first + 1) count ++ page k ∷ []) place)

module _ (chart : Chart) (entries : List Entry) (n : ℕ) (day : Day) where
  abbrev here : List Movement
  here = on_day day (movements_of chart n entries)

  abbrev opening : ℤ
  opening = balance_of chart (before_day day entries) n

  pub placed : map placed_by here ≡ lines_on chart n day entries
  placed = lines-are chart n day entries [] entries refl

  pub line-count : length (lines_on chart n day entries) ≡ length here
  line-count = ap length (sym placed) ∙ length-map here placed_by

  -- the balance after the first k pages
  pub carried-by : (k : ℕ) → last_balance opening (take (25 * k) here) ≡ carried chart entries n day k
  carried-by k =
      let tells = tells-take chart entries n (25 * k) here (tells-filter chart entries n _ (movements_of chart n entries) (moves-tell chart entries n [] entries refl)) in
      sym (balance-by chart entries n day (take (25 * k) here) tells)
      ∙ ap (balance_after chart entries n day) (sym (take-map placed_by (25 * k) here) ∙ ap (take (25 * k)) placed)

  -- the lines of a page
  pub lines-by : (k : ℕ) → map line_by (take 25 (drop (25 * k) here)) ≡ map (λ p. p.line) (lines_of_page (k + 1) (lines_on chart n day entries))
  lines-by k =
      let place : k + 1 - 1 ≡ k = omega arith in
      sym (map-map placed_by (λ p. p.line) (take 25 (drop (25 * k) here)))
      ∙ ap (map (λ p. p.line)) (sym (take-map placed_by 25 (drop (25 * k) here)) ∙ ap (take 25) (sym (drop-map placed_by (25 * k) here) ∙ ap (drop (25 * k)) placed) ∙ ap (λ (j : ℕ). take 25 (drop (25 * j) (lines_on chart n day entries))) (sym place))

  -- the places of the lines of a page
  pub places-by : (k : ℕ) → map (λ m. m.place) (take 25 (drop (25 * k) here)) ≡ map (λ p. p.place) (lines_of_page (k + 1) (lines_on chart n day entries))
  places-by k =
      let place : k + 1 - 1 ≡ k = omega arith in
      sym (map-map placed_by (λ p. p.place) (take 25 (drop (25 * k) here)))
      ∙ ap (map (λ p. p.place)) (sym (take-map placed_by 25 (drop (25 * k) here)) ∙ ap (take 25) (sym (drop-map placed_by (25 * k) here) ∙ ap (drop (25 * k)) placed) ∙ ap (λ (j : ℕ). take 25 (drop (25 * j) (lines_on chart n day entries))) (sym place))

  -- the balance at the end of a page
  pub closing-by : (k : ℕ) → last_balance (last_balance opening (take (25 * k) here)) (take 25 (drop (25 * k) here)) ≡ carried chart entries n day (k + 1)
  closing-by k =
      let more : 25 * (k + 1) ≡ 25 * k + 25 = omega arith in
      sym (last-append opening (take (25 * k) here) (take 25 (drop (25 * k) here)))
      ∙ ap (last_balance opening) (sym (take-add (25 * k) 25 here) ∙ ap (λ (j : ℕ). take j here) (sym more))
      ∙ carried-by (k + 1)

  module _ (account : Account) (number : AcctNo) (is : number.0 ≡ n) (k : ℕ) where
    -- a page by its running balance
    pub page-is : page_by (ledger_with account (movements_of chart n entries)) (record { account = number; day = day; page = k + 1; last = k + 1 == pages_for (length here) }) (last_balance opening (take (25 * k) here)) (take 25 (drop (25 * k) here))
        ≡ page_at chart entries n day account (k + 1)
    page-is =
        let before : last_balance opening (take (25 * k) here) ≡ carried chart entries n day (k + 1 - 1) = carried-by k ∙ ap (carried chart entries n day) (omega arith) in
        λ i. record {
          reference = page_reference day (is i) (k + 1);
          account = account.id;
          number = place_in_year day;
          page = Some (k + 1);
          ccy = account.ccy;
          decimals = account.decimals;
          opening = record { last = k + 1 == 1; day = if k + 1 == 1 then day_before day else day; signed = before i };
          lines = lines-by k i;
          closing = record { last = k + 1 == pages_for (sym line-count i); day = day; signed = closing-by k i };
          available = None;
        }
