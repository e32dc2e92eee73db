-- The pages of a statement are joined to one that opens at the account's balance before the day and closes at its balance after it.
use Rattle.std.proofs.Common.{◌≡◌, ℕ, suc, ◌+◌, List, [], ◌∷◌, ◌++◌, length, map, Some, Ok, refl, sym, ap, ◌∙◌, subst, arith, ◌+ℤ◌}
use Rattle.std.specs.Prelude.{None, Option, slice_get}
use Rattle.std.specs.List.{AllByRecursion}
use Rattle.std.specs.Option.{option_map_or}
use Rattle.corr_ids.specs.declared.day.Day.{Day}
use Rattle.day_model.specs.Balance.{balance_of}
use Rattle.day_model.specs.Chart.{Chart, IsListed}
use Rattle.day_model.specs.declared.account.Account.{Account}
use Rattle.day_model.specs.declared.entry.Entry.{Entry}
use Rattle.day_model.proofs.laws.Fitting.{listed_account}
use Rattle.mt950.specs.Joining.{effects_of, first_gap, joined_of, joined_with, last_of}
use Rattle.mt950.specs.declared.joining.Statement.{Statement}
use Rattle.mt950.specs.declared.page.Page950.{Page950}
use Rattle.statement.specs.Legs.{before_day}
use Rattle.statement.specs.Lines.{Placed, is_return, lines_on, up_to_day}
use Rattle.statement.specs.Pages.{carried, page_at, pages_for, pages_from}
use Rattle.statement.specs.Seen.{IsFront}
use Rattle.statement.specs.Valid.{ClosesAtBalance}
use Rattle.statement.proofs.DayParts.{before-is, lines-are, parts, up-to-is}
use Rattle.statement.proofs.Days.{entry_day, rising}
use Rattle.statement.proofs.Joined.{all-carried, carried-all, joins, last-page, length-pages, lines-joined, no-gap, same-balance, some-page}
use Rattle.statement.proofs.laws.Fronts.{front-fits, front-rules}
use Rattle.statement.proofs.Walking.{Leads, OneLeg, after-is, effects-add, lines-lead, one-leg}

pub all-at : {A : Type 0} (P : A → Type 0) (xs : List A) → ((i : ℕ) (x : A) → slice_get xs i ≡ Some x → P x) → AllByRecursion P xs
all-at P [] f = tt
all-at P (x ∷ xs) f = (f 0 x refl, all-at P xs (λ i y e. f (suc i) y e))

pub all-front : {A : Type 0} (P : A → Type 0) (xs ys : List A) → AllByRecursion P (xs ++ ys) → AllByRecursion P xs
all-front P [] ys all = tt
all-front P (x ∷ xs) ys all = (all.0, all-front P xs ys all.1)

pub all-back : {A : Type 0} (P : A → Type 0) (xs ys : List A) → AllByRecursion P (xs ++ ys) → AllByRecursion P ys
all-back P [] ys all = all
all-back P (x ∷ xs) ys all = all-back P xs ys all.1

module _ (chart : Chart) (entries : List Entry) (n : ℕ) (day : Day) (legal : IsFront chart entries) where
  -- the lines of the day lead from the balance before it to the balance after it
  pub day-leads : Leads chart entries n (balance_of chart (before_day day entries) n) (lines_on chart n day entries) (balance_of chart (up_to_day day entries) n)
  day-leads =
      let (earlier, here, later, are) = parts day entries (rising entry_day entries (front-rules chart entries legal).days) in
      let all = all-at (OneLeg n) entries (λ i e at. one-leg chart n e (front-fits chart entries legal i e at)) in
      let legs = all-back (OneLeg n) earlier here (all-front (OneLeg n) (earlier ++ here) later (subst (AllByRecursion (OneLeg n)) are.whole all)) in
      rw (before-is day entries earlier here later are, up-to-is day entries earlier here later are, lines-are day entries earlier here later are (is_return chart entries) n)
      (lines-lead chart entries n (is_return chart entries) day earlier here later are.whole are.on legs)

  module _ (account : Account) where
    abbrev page : ℕ → Page950
    page k = page_at chart entries n day account k

    abbrev lines : List Placed
    lines = lines_on chart n day entries

    abbrev count : ℕ
    count = pages_for (length (lines_on chart n day entries))

    abbrev pages : List Page950
    pages = pages_from page 1 count

    abbrev statement : Statement
    statement = record {
      account = account.id;
      ccy = account.ccy;
      decimals = account.decimals;
      opening = balance_of chart (before_day day entries) n;
      lines = map (λ p. p.line) lines;
      closing = carried chart entries n day count;
      day = day;
    }

    -- the balance that the last page closes at
    pub closes-at : carried chart entries n day count ≡ balance_of chart (up_to_day day entries) n
    closes-at = carried-all chart entries n day account ∙ after-is chart entries n day lines ∙ day-leads.end

    adds : balance_of chart (before_day day entries) n +ℤ effects_of (map (λ p. p.line) lines) ≡ carried chart entries n day count
    adds = effects-add chart entries n (balance_of chart (before_day day entries) n) lines day-leads.walks ∙ sym (carried-all chart entries n day account ∙ after-is chart entries n day lines)

    with-first : (more : ℕ) → count ≡ suc more → joined_of pages ≡ joined_with (page 1) pages
    unfolding joined_of
    with-first more e = ap (λ (k : ℕ). joined_of (pages_from page 1 k)) e ∙ ap (λ (k : ℕ). joined_with (page 1) (pages_from page 1 k)) (sym e)

    last-is : (more : ℕ) → count ≡ suc more → last_of (page 1) pages ≡ page count
    last-is more e =
        let place : 1 + more ≡ count = omega (arith, e) in
        ap (λ (k : ℕ). last_of (page 1) (pages_from page 1 k)) e ∙ last-page page 1 more ∙ ap page place

    follow : first_gap (page 1) (length pages) 0 pages ≡ None
    follow = ap (λ (k : ℕ). first_gap (page 1) k 0 pages) (length-pages page 1 count) ∙ no-gap chart entries n day account 0 count

    pub joined : joined_of pages ≡ Ok statement
    joined =
        let some = some-page (length lines) in
        with-first some.0 some.1
        ∙ joins (page 1) (page count) pages (map (λ p. p.line) lines) (last-is some.0 some.1) (lines-joined chart entries n day account) follow (all-carried chart entries n day account 1 1 count _ refl) (same-balance _ _ adds)

-- the pages of an account's statement close at its fold
pub closes : (chart : Chart) (entries : List Entry) (n : ℕ) (day : Day) → IsFront chart entries → IsListed chart n → ClosesAtBalance chart entries n day
closes chart entries n day legal listed =
    let account = listed_account chart n listed in (
      statement chart entries n day legal account.0,
      record {
        joined =
            ap (λ (o : Option Account). joined_of (option_map_or (λ a. pages_from (page_at chart entries n day a) 1 (pages_for (length (lines_on chart n day entries)))) o [])) account.1
            ∙ joined chart entries n day legal account.0;
        opening = refl;
        lines = refl;
        closing = closes-at chart entries n day legal account.0;
        dated = refl;
      },
    )
