-- The pages of a statement pass the tests of joining: they follow each other, carry their balances, and add up.
use Rattle.std.proofs.Common.{◌≡◌, ℕ, zero, suc, ◌+◌, ◌-◌, ◌*◌, ◌/◌, ◌≤◌, ◌==◌, ◌&&◌, Bool, true, false, List, [], ◌∷◌, ◌++◌, map, length, take, drop, None, Ok, refl, sym, ap, ◌∙◌, arith, ℤ, ◌+ℤ◌}
use Rattle.std.specs.Ordering.{int_eq}
use Rattle.std.specs.Str.{bytes_eq}
use Rattle.std.proofs.Math.Seq.{drop-nil, take-add}
use Rattle.std.proofs.lemmas.Bool.Decides.{Decides-int_eq, nat_tests}
use Rattle.std.proofs.lemmas.List.{map-append, take_all}
use Rattle.std.proofs.lemmas.Slice.Eq.{bytes_eq-Decides}
use Rattle.corr_text.specs.First.{first_of}
use Rattle.corr_ids.specs.declared.day.Day.{Day}
use Rattle.day_model.specs.Chart.{Chart}
use Rattle.day_model.specs.declared.account.Account.{Account}
use Rattle.day_model.specs.declared.entry.Entry.{Entry}
use Rattle.mt950.specs.Joining.{both, carried_tests, effects_of, first_gap, first_uncarried, follows, is_same_statement, joined_with, last_of, lines_of_pages}
use Rattle.mt950.specs.declared.entry.Line61.{Line61}
use Rattle.mt950.specs.declared.page.Page950.{Page950}
use Rattle.statement.specs.Lines.{Placed, lines_on}
use Rattle.statement.specs.Pages.{balance_after, carried, page_at, pages_for, pages_from}

-- ---- numbers and truths

same-bytes : (bs : List ℕ) → bytes_eq bs bs ≡ true
same-bytes bs = (bytes_eq-Decides bs bs).1 refl

same-number : (a b : ℕ) → a ≡ b → (a == b) ≡ true
same-number a b e = grind (arith, nat_tests)

pub same-balance : (a b : ℤ) → a ≡ b → int_eq a b ≡ true
same-balance a b e = (Decides-int_eq a b).1 e

alike : (b : Bool) → both b b ≡ true
alike true = refl
alike false = refl

first-number : (at : ℕ) → (at + 1 == 1) ≡ (at == 0)
first-number at = grind (arith, nat_tests)

four-true : (a b c d : Bool) → a ≡ true → b ≡ true → c ≡ true → d ≡ true → (a && b && c && d) ≡ true
four-true a b c d e f g h = rw (e, f, g, h) refl

-- ---- how many pages

pub some-page : (lines : ℕ) → (more : ℕ) × (pages_for lines ≡ suc more)
some-page zero = (0, refl)
some-page (suc lines) = (lines / 25, omega arith)

pub pages-hold : (lines : ℕ) → lines ≤ 25 * pages_for lines
pages-hold zero = omega arith
pages-hold (suc lines) = omega arith

drop-more : {A : Type 0} (n m : ℕ) (xs : List A) → drop m (drop n xs) ≡ drop (n + m) xs
drop-more n m [] = ap (drop m) (drop-nil n) ∙ drop-nil m ∙ sym (drop-nil (n + m))
drop-more zero m (x ∷ xs) = ap (λ (k : ℕ). drop k (x ∷ xs)) (omega arith)
drop-more (suc n) m (x ∷ xs) = let place : suc n + m ≡ suc (n + m) = omega arith in rw place (drop-more n m xs)

module _ (page : ℕ → Page950) where
  pub length-pages : (k more : ℕ) → length (pages_from page k more) ≡ more
  length-pages k zero = refl
  length-pages k (suc more) = let rest = length-pages (k + 1) more in omega (arith, rest)

  pub last-page : (k more : ℕ) → last_of (page k) (pages_from page (k + 1) more) ≡ page (k + more)
  last-page k zero = ap page (omega arith)
  last-page k (suc more) = last-page (k + 1) more ∙ ap page (omega arith)

module _ (chart : Chart) (entries : List Entry) (n : ℕ) (day : Day) (account : Account) where
  abbrev lines : List Placed
  lines = lines_on chart n day entries

  abbrev count : ℕ
  count = pages_for (length (lines_on chart n day entries))

  abbrev page : ℕ → Page950
  page k = page_at chart entries n day account k

  -- ---- no gap

  same-statement : (k : ℕ) → is_same_statement (page 1) (page k) ≡ true
  same-statement k =
      four-true (bytes_eq account.id account.id) (bytes_eq account.ccy.0 account.ccy.0) (account.decimals == account.decimals) _ (same-bytes account.id) (same-bytes account.ccy.0) (same-number account.decimals account.decimals refl)
      (same-number (page k).number (page 1).number refl)

  page-follows : (at : ℕ) → follows (page 1) count at (page (at + 1)) ≡ true
  page-follows at =
      let opens : both (at + 1 == 1) (at == 0) ≡ true = ap (λ (b : Bool). both b (at == 0)) (first-number at) ∙ alike (at == 0) in
      four-true (is_same_statement (page 1) (page (at + 1))) (at + 1 == 1 + at) (both (at + 1 == 1) (at == 0)) (both (at + 1 == count) (at + 1 == count)) (same-statement (at + 1)) (same-number (at + 1) (1 + at) (omega arith)) opens (alike (at + 1 == count))

  pub no-gap : (at more : ℕ) → first_gap (page 1) count at (pages_from page (at + 1) more) ≡ None
  no-gap at zero = refl
  no-gap at (suc more) = rw (page-follows at) (no-gap (at + 1) more)

  -- ---- each balance is carried

  pub all-carried : (k at more : ℕ) (closing : ℤ) → carried chart entries n day (k - 1) ≡ closing → first_of (carried_tests at closing (pages_from page k more)) ≡ None
  all-carried k at zero closing e = refl
  all-carried k at (suc more) closing e =
      let next : k + 1 - 1 ≡ k = omega arith in
      rw (same-balance (carried chart entries n day (k - 1)) closing e) (all-carried (k + 1) (at + 1) more (carried chart entries n day k) (ap (carried chart entries n day) next))

  -- ---- the lines of the pages are those of the day

  lines-in : (k more : ℕ) → lines_of_pages (pages_from page (k + 1) more) ≡ map (λ p. p.line) (take (25 * more) (drop (25 * k) lines))
  lines-in k zero = refl
  lines-in k (suc more) =
      let here : List Placed = take 25 (drop (25 * k) lines) in
      let there : List Placed = take (25 * more) (drop (25 * (k + 1)) lines) in
      let this : k + 1 - 1 ≡ k = omega arith in
      let place : 25 * k + 25 ≡ 25 * (k + 1) = omega arith in
      let size : 25 + 25 * more ≡ 25 * suc more = omega arith in
      let whole : take (25 * suc more) (drop (25 * k) lines) ≡ here ++ there =
      ap (λ (j : ℕ). take j (drop (25 * k) lines)) (sym size) ∙ take-add 25 (25 * more) (drop (25 * k) lines)
      ∙ ap (λ (ls : List Placed). here ++ take (25 * more) ls) (drop-more (25 * k) 25 lines ∙ ap (λ (j : ℕ). drop j lines) place) in
      let first : (page (k + 1)).lines ≡ map (λ p. p.line) here = ap (λ (j : ℕ). map (λ p. p.line) (take 25 (drop (25 * j) lines))) this in
      ap (λ (ls : List Line61). ls ++ lines_of_pages (pages_from page (k + 1 + 1) more)) first
      ∙ ap (λ (ls : List Line61). map (λ p. p.line) here ++ ls) (lines-in (k + 1) more)
      ∙ sym (map-append (λ p. p.line) here there)
      ∙ ap (map (λ p. p.line)) (sym whole)

  all-lines : take (25 * count) lines ≡ lines
  all-lines = take_all (25 * count) lines (pages-hold (length lines))

  pub lines-joined : lines_of_pages (pages_from page 1 count) ≡ map (λ p. p.line) lines
  lines-joined = lines-in 0 count ∙ ap (map (λ p. p.line)) all-lines

  pub carried-all : carried chart entries n day count ≡ balance_after chart entries n day lines
  carried-all = ap (balance_after chart entries n day) all-lines

-- ---- all tests together

pub joins : (first last : Page950) (pages : List Page950) (lines : List Line61) → last_of first pages ≡ last → lines_of_pages pages ≡ lines → first_gap first (length pages) 0 pages ≡ None → first_uncarried first pages ≡ None
    → int_eq (first.opening.signed +ℤ effects_of lines) last.closing.signed ≡ true
    → joined_with first pages ≡ Ok (record { account = first.account; ccy = first.ccy; decimals = first.decimals; opening = first.opening.signed; lines = lines; closing = last.closing.signed; day = last.closing.day })
joins first last pages lines ends are gap carries adds = rw (ends, are, gap, carries, adds) refl
