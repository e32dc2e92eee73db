-- A transfer that was read is read again as it is written.
use Rattle.std.proofs.Common.{◌≡◌, ◌≢◌, ℕ, ◌==◌, List, [], ◌∷◌, None, Result, Ok, true, refl, ap, ◌∙◌, arith}
use Rattle.std.specs.List.{All, list_any}
use Rattle.corr_text.specs.First.{◌>>=◌, first_of}
use Rattle.ref_tables.specs.Seen.{Tables}
use Rattle.fin_fields.specs.declared.field.Field.{Field}
use Rattle.fin_fields.specs.Writing.{IsField}
use Rattle.fin_layout.specs.Order.{missing_from, places_from}
use Rattle.fin_layout.specs.Segments.{joined}
use Rattle.fin_layout.specs.inner.Segments.{Segments, places_of}
use Rattle.fin_layout.specs.Tests.{passed, structure_tests}
use Rattle.fin_layout.proofs.laws.FoundField.{grouped-taken}
use Rattle.fin_layout.proofs.laws.Grouped.{grouped-places, grouped-structure}
use Rattle.fin_contents.specs.Writing.{IsReadable}
use Rattle.fin_contents.proofs.laws.Placed.{Each, each-joined}
use Rattle.fin_contents.proofs.laws.Steps.{read-then}
use Rattle.mt103.specs.Instructions.{d98, e46}
use Rattle.mt103.specs.Message.{contents_of, field_tests, mt103_of}
use Rattle.mt103.specs.Writing.{mt103_fields, segments}
use Rattle.mt103.specs.inner.Writing.{AreAmounts}
use Rattle.mt103.specs.declared.message.Mt103.{Mt103}
use Rattle.mt103.specs.Order.{order_103}
use Rattle.mt103.proofs.Moved.{contents-moved}
use Rattle.mt103.proofs.Outcome.{as-contents}
use Rattle.mt103.proofs.Says.{contents-say}
use Rattle.mt103.proofs.Standing.{all-fit, amounts-are, in-order, some_place}

-- ---- what a transfer that was read has

-- what it says, and that its instructions stand together
pub record Read (t : Tables) (fs : List Field) (m : Mt103) : Type 0 where
  pub contents : contents_of t fs (places_from order_103 0 fs) ≡ Ok m
  pub instrs : passed (e46 m.instrs ∷ d98 m.instrs ∷ []) ≡ Ok tt

unit-ok : {F : Type 0} (r : Result (Unit {0}) F) (x : Unit {0}) → r ≡ Ok x → r ≡ Ok tt
unit-ok r x e = e

pub is-read : (t : Tables) (fs : List Field) (m : Mt103) → mt103_of t fs ≡ Ok m → Read t fs m
unfolding mt103_of
is-read t fs m e =
    let fields = read-then (passed (field_tests t fs)) _ m e in
    let contents = read-then (contents_of t fs (places_from order_103 0 fs)) _ m fields.2 in
    let instrs = read-then (passed (e46 contents.0.instrs ∷ d98 contents.0.instrs ∷ [])) _ m contents.2 in
    let same : contents.0 ≡ m = cc instrs.2 in
    rw (← same) (record { contents = contents.1; instrs = unit-ok (passed (e46 contents.0.instrs ∷ d98 contents.0.instrs ∷ [])) instrs.0 instrs.1 })

-- its amounts can be written, its fields stand in order and may stand in a text
pub record Stands (m : Mt103) : Type 0 where
  pub amounts : AreAmounts m
  pub order : Segments order_103 0 0 (segments m)
  pub fit : Each IsField (segments m)

pub stands : (m : Mt103) → IsReadable mt103_of m → Stands m
stands m w =
    let say = contents-say w.tables w.fields (places_from order_103 0 w.fields) m (is-read w.tables w.fields m w.says).contents in
    let same = say.same in
    rw (← same) (record {
      amounts = amounts-are w.tables w.few w.fields w.fit say.terms say.parties say.details say.terms_say say.parties_say say.details_say;
      order = in-order w.tables w.few w.fields w.fit say.terms say.parties say.details say.terms_say say.parties_say say.details_say;
      fit = all-fit w.tables w.few w.fields w.fit say.terms say.parties say.details say.terms_say say.parties_say say.details_say;
    })

-- ---- its fields

-- no mandatory place is missing where these are taken
none-missing : (found : List ℕ) → list_any (λ q. q == 0) found ≡ true → list_any (λ q. q == 2) found ≡ true → list_any (λ q. q == 5) found ≡ true → list_any (λ q. q == 8) found ≡ true → list_any (λ q. q == 15) found ≡ true → list_any (λ q. q == 17) found ≡ true
    → missing_from 0 order_103 found ≡ None
unfolding missing_from
none-missing found a b c d e f = rw (a, b, c, d, e, f) refl

pub fields-sound : (m : Mt103) → Segments order_103 0 0 (segments m) → first_of (structure_tests order_103 (joined (segments m))) ≡ None
fields-sound m order =
    grouped-structure order_103 some_place (segments m) order
    (none-missing (places_of 0 (segments m)) (grouped-taken (segments m) 0 0 _ _ refl) (grouped-taken (segments m) 0 2 _ _ refl) (grouped-taken (segments m) 0 5 _ _ refl)
    (grouped-taken (segments m) 0 8 _ _ refl) (grouped-taken (segments m) 0 15 _ _ refl) (grouped-taken (segments m) 0 17 _ _ refl))

finishes : (t : Tables) (fs : List Field) (m : Mt103) → contents_of t fs (places_from order_103 0 fs) ≡ Ok m → passed (e46 m.instrs ∷ d98 m.instrs ∷ []) ≡ Ok tt
    → (contents_of t fs (places_from order_103 0 fs) >>= λ n. passed (e46 n.instrs ∷ d98 n.instrs ∷ []) >>= λ _. Ok n) ≡ Ok m
finishes t fs m e p = rw (e, p) refl

-- under all tables under which a transfer may be read it is read again
pub mt103-again : (m : Mt103) → IsReadable mt103_of m → (t : Tables) (fs : List Field) → mt103_of t fs ≡ Ok m → mt103_of t (mt103_fields m) ≡ Ok m
unfolding mt103_fields
mt103-again m w t fs e =
    let s = stands m w in
    let read = is-read t fs m e in
    let placed : places_from order_103 0 (joined (segments m)) ≡ places_of 0 (segments m) = grouped-places order_103 some_place 0 0 0 (segments m) (omega arith) (omega arith) s.order in
    let contents : contents_of t (joined (segments m)) (places_from order_103 0 (joined (segments m))) ≡ Ok m =
    ap (λ (found : List ℕ). contents_of t (joined (segments m)) found) placed ∙ contents-moved t fs m s.amounts read.contents in
    as-contents t (joined (segments m)) (fields-sound m s.order) ∙ finishes t (joined (segments m)) m contents read.instrs

pub fields-fit : (m : Mt103) → IsReadable mt103_of m → All IsField (mt103_fields m)
unfolding mt103_fields
fields-fit m w = each-joined IsField (segments m) (stands m w).fit

pub some-field : (m : Mt103) → mt103_fields m ≢ []
unfolding mt103_fields
some-field m = λ e. absurd (cc e)
