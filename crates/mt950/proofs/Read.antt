-- A page that was read can be written, and the fields that it is written as may stand in a text.
use Rattle.std.proofs.Common.{◌≡◌, ℕ, ◌≤◌, ◌==◌, ◌&&◌, not, Bool, true, false, List, Option, Some, None, option_map, Ok, refl, sym, ap, subst, ◌∙◌, arith}
use Rattle.std.specs.Prelude.{IfSome, unwrap_or}
use Rattle.std.specs.List.{AllByRecursion, list_any}
use Rattle.std.proofs.lemmas.Bool.Decides.{nat_tests}
use Rattle.corr_text.specs.First.{first_of}
use Rattle.corr_text.specs.Sets.{is_in}
use Rattle.corr_text.specs.Slashes.{has_stray_slash}
use Rattle.corr_text.specs.declared.set.Set.TheVariants.{X}
use Rattle.ref_tables.specs.Seen.{Tables}
use Rattle.ref_tables.proofs.laws.Decimals.{lookup_few}
use Rattle.std.specs.Str.{bytes_eq}
use Rattle.fin_fields.specs.declared.field.Field.{Field}
use Rattle.fin_fields.specs.Patterns.{is_run}
use Rattle.fin_layout.specs.Order.{places_from}
use Rattle.fin_layout.specs.Tests.{passed}
use Rattle.fin_layout.proofs.laws.Passed.{passed-none}
use Rattle.fin_contents.specs.Plain.{one_line, reference_of, short_line_of}
use Rattle.fin_contents.specs.Writing.{IsReadable}
use Rattle.fin_contents.proofs.laws.Back.{each-weaker, some-weaker}
use Rattle.fin_contents.proofs.laws.Placed.{all-of}
use Rattle.fin_contents.proofs.laws.Said.{HoldsInPlaces, Said as SaidAt, Stands, said-all, said-one, said-option, stand}
use Rattle.fin_contents.proofs.laws.Steps.{checked, read-then, there}
use Rattle.mt950.specs.Balances.{is_last, stated_of}
use Rattle.mt950.specs.Entry.{line_of}
use Rattle.mt950.specs.Number.{numbers_of}
use Rattle.mt950.specs.Order.{order_950}
use Rattle.mt950.specs.Page.{mt950_of, page_of, said_of, tests_950}
use Rattle.mt950.specs.Rules.{currency_rules}
use Rattle.mt950.specs.Writing.{IsBalance, IsWritableLine}
use Rattle.mt950.specs.inner.Writing.{IsPage}
use Rattle.mt950.specs.declared.balance.Stated.{Stated}
use Rattle.mt950.specs.declared.entry.Line61.{Line61}
use Rattle.mt950.specs.declared.page.Page950.{Page950}
use Rattle.mt950.specs.declared.said.Said.{Said}
use Rattle.mt950.proofs.BalanceFields.{StatedRead, stated-read}
use Rattle.mt950.proofs.LineFields.{line-read}
use Rattle.mt950.proofs.PageNumbers.{numbers-few}
use Rattle.mt950.proofs.Rows.{row_64}
use Rattle.mt950.proofs.Says.{Says, said-says}

-- any field
abbrev Any : Field → Type 0
Any f = Unit {0}

stand-any : (fs : List Field) → HoldsInPlaces (Stands order_950 Any) (places_from order_950 0 fs) fs
stand-any fs = stand order_950 Any 0 fs (λ k d lt. tt)

-- ---- what the fields of a page that was read say

-- what its fields say, which breaks no rule
pub record Found (t : Tables) (fs : List Field) (p : Page950) : Type 0 where
  pub said : Said
  pub says : Says t fs (places_from order_950 0 fs) said
  pub rules : first_of (currency_rules said) ≡ None
  pub same : page_of said ≡ p

pub found : (t : Tables) (fs : List Field) (p : Page950) → mt950_of t fs ≡ Ok p → Found t fs p
unfolding mt950_of
found t fs p e =
    let tests = read-then (passed (tests_950 t fs)) _ p e in
    let said = read-then (said_of t fs (places_from order_950 0 fs)) _ p tests.2 in
    let rules = read-then (passed (currency_rules said.0)) _ p said.2 in
    let same : page_of said.0 ≡ p = cc rules.2 in
    record {
      said = said.0;
      says = said-says t fs (places_from order_950 0 fs) said.0 said.1;
      rules = passed-none (currency_rules said.0) rules.0 rules.1;
      same = same;
    }

pub passes-950 : (t : Tables) (fs : List Field) (p : Page950) → mt950_of t fs ≡ Ok p → first_of (tests_950 t fs) ≡ None
unfolding mt950_of
passes-950 t fs p e = let tests = read-then (passed (tests_950 t fs)) _ p e in passed-none (tests_950 t fs) tests.0 tests.1

-- ---- contents that were read can be written

not-true : (b : Bool) → not b ≡ true → b ≡ false
not-true true e = absurd (cc e)
not-true false e = refl

reference-form : (f : Field) (x : List ℕ) → reference_of f ≡ Ok x → (is_run (is_in X) 16 x ≡ true) × (has_stray_slash x ≡ false)
unfolding reference_of
reference-form f x e =
    let line = there (one_line f) _ _ x e in
    let run = checked (is_run (is_in X) 16 line.0) _ _ x line.2 in
    let plain = checked (not (has_stray_slash line.0)) _ _ x run.1 in
    let same : line.0 ≡ x = cc plain.1 in
    rw (← same) (run.0, not-true (has_stray_slash line.0) plain.0)

account-form : (f : Field) (x : List ℕ) → short_line_of 35 f ≡ Ok x → is_run (is_in X) 35 x ≡ true
unfolding short_line_of
account-form f x e =
    let line = there (one_line f) _ _ x e in
    let run = checked (is_run (is_in X) 35 line.0) _ _ x line.2 in
    let same : line.0 ≡ x = cc run.1 in
    rw (← same) (run.0)

-- a 64 has no letter, so its balance is not the last
bare-letter : (o : Option ℕ) → list_any (λ b. b == unwrap_or o 32) row_64.options ≡ true → is_last o ≡ false
bare-letter None e = refl
bare-letter (Some c) e = grind (arith, nat_tests)

fits-letter : (tag : Bool) (o : Option ℕ) → (tag && list_any (λ b. b == unwrap_or o 32) row_64.options) ≡ true → is_last o ≡ false
fits-letter true o e = bare-letter o e
fits-letter false o e = absurd (cc e)

some-mapped : {A B : Type 0} (g : A → B) (P : B → Type 0) (o : Option A) → IfSome o (λ x. P (g x)) → IfSome (option_map g o) P
some-mapped g P None h = tt
some-mapped g P (Some x) h = h

module _ (t : Tables) (fs : List Field) (s : Said) (says : Says t fs (places_from order_950 0 fs) s) (few : s.opening.decimals ≤ 4) where
  abbrev here : List ℕ
  here = places_from order_950 0 fs

  abbrev At : ℕ → Field → Type 0
  At k f = Stands order_950 Any k f

  opening-read : StatedRead t s.opening.balance.last s.opening
  opening-read =
      let at = said-one At fs 3 (stated_of t) order_950 here s.opening (stand-any fs) says.opening in
      let read = stated-read t at.field s.opening at.says in
      subst (λ (b : Bool). StatedRead t b s.opening) (sym read.last_is) read

  closing-read : StatedRead t s.closing.balance.last s.closing
  closing-read =
      let at = said-one At fs 5 (stated_of t) order_950 here s.closing (stand-any fs) says.closing in
      let read = stated-read t at.field s.closing at.says in
      subst (λ (b : Bool). StatedRead t b s.closing) (sym read.last_is) read

  available-read : (x : Stated) → SaidAt (At 6) (stated_of t) x → IsBalance s.opening.decimals x.balance × (x.balance.last ≡ false)
  available-read x at =
      let read = stated-read t at.field x at.says in (
        record { day = read.day; small = read.small; few = few },
        read.last_is ∙ fits-letter (row_64.tag == at.field.tag) at.field.letter (at.holds.fitting row_64),
      )

  lines-read : AllByRecursion (IsWritableLine s.opening.decimals) s.lines
  lines-read =
      each-weaker (SaidAt (At 4) (line_of s.opening.decimals)) (IsWritableLine s.opening.decimals) s.lines
      (said-all At fs 4 (line_of s.opening.decimals) 0 here fs s.lines (stand-any fs) says.lines)
      (λ (x : Line61) at. (line-read s.opening.decimals at.field x few at.says).is)

  said-is : IsPage t (page_of s)
  said-is =
      let reference = said-one At fs 0 reference_of order_950 here s.reference (stand-any fs) says.reference in
      let form = reference-form reference.field s.reference reference.says in
      let account = said-one At fs 1 (short_line_of 35) order_950 here s.account (stand-any fs) says.account in
      let numbers = said-one At fs 2 numbers_of order_950 here s.numbers (stand-any fs) says.numbers in
      let are = numbers-few numbers.field s.numbers numbers.says in
      let opening = opening-read in
      let closing = closing-read in
      record {
        reference = form.0;
        slashes = form.1;
        account = account-form account.field s.account account.says;
        number = are.number;
        page = are.page;
        three = opening.three;
        capitals = opening.capitals;
        known = opening.known;
        opening = record { day = opening.day; small = opening.small; few = few };
        lines = all-of (IsWritableLine s.opening.decimals) s.lines lines-read;
        closing = record { day = closing.day; small = closing.small; few = few };
        available = some-mapped (λ (x : Stated). x.balance) _ s.available
            (some-weaker _ _ s.available (said-option At fs 6 (stated_of t) here s.available (stand-any fs) says.available) available-read);
      }

-- a page that was read can be written
pub page-is : (t : Tables) (fs : List Field) (p : Page950) → p.decimals ≤ 4 → mt950_of t fs ≡ Ok p → IsPage t p
page-is t fs p few e =
    let f = found t fs p e in
    let small : f.said.opening.decimals ≤ 4 = subst (λ (n : ℕ). n ≤ 4) (sym (ap (λ (q : Page950). q.decimals) f.same)) few in
    subst (λ (q : Page950). IsPage t q) f.same (said-is t fs f.said f.says small)

-- the currencies of the tables have few decimals
pub few-decimals : (p : Page950) → IsReadable mt950_of p → p.decimals ≤ 4
few-decimals p r =
    let f = found r.tables r.fields p r.says in
    let at =
    said-one (Stands order_950 Any) r.fields 3 (stated_of r.tables) order_950 (places_from order_950 0 r.fields) f.said.opening
    (stand-any r.fields) f.says.opening in
    let read = stated-read r.tables at.field f.said.opening at.says in
    let few : f.said.opening.decimals ≤ 4 =
    subst (λ (o : Option ℕ). IfSome o (λ d. d ≤ 4)) read.known (lookup_few (bytes_eq f.said.opening.ccy.0) r.tables.ccys r.few) in
    subst (λ (n : ℕ). n ≤ 4) (ap (λ (q : Page950). q.decimals) f.same) few

pub readable-is : (p : Page950) (r : IsReadable mt950_of p) → IsPage r.tables p
readable-is p r = page-is r.tables r.fields p (few-decimals p r) r.says
