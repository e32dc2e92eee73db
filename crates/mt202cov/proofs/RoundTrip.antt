-- A cover that may be read is written so that it is read again.
use Rattle.std.proofs.Common.{◌≡◌, ◌≢◌, ℕ, List, [], None, Ok, refl, sym, arith}
use Rattle.std.specs.List.{All}
use Rattle.corr_text.specs.First.{first_of}
use Rattle.ref_tables.specs.Seen.{Tables}
use Rattle.fin_fields.specs.declared.field.Field.{Field}
use Rattle.fin_fields.specs.Writing.{IsField}
use Rattle.fin_layout.specs.Order.{places_from}
use Rattle.fin_layout.specs.Segments.{joined}
use Rattle.fin_layout.specs.inner.Segments.{places_of}
use Rattle.fin_layout.specs.Tests.{passed}
use Rattle.fin_layout.proofs.laws.FoundField.{grouped-taken}
use Rattle.fin_layout.proofs.laws.Grouped.{grouped-places, grouped-structure}
use Rattle.fin_layout.proofs.laws.Passed.{passed-none}
use Rattle.fin_contents.specs.Money.{ccy_amount_of, value_of}
use Rattle.fin_contents.specs.Writing.{IsAmount, IsReadable}
use Rattle.fin_contents.proofs.laws.Again.{ccy_amount-is, value-is}
use Rattle.fin_contents.proofs.laws.Back.{some-weaker}
use Rattle.fin_contents.proofs.laws.Said.{Said, Stands, said-one, said-option, stand}
use Rattle.fin_contents.proofs.laws.Steps.{read-then}
use Rattle.mt202cov.specs.Message.{contents_of, field_tests, mt202cov_of}
use Rattle.mt202cov.specs.Rules.{all_rules}
use Rattle.mt202cov.specs.Writing.{mt202cov_fields, segments, value_said}
use Rattle.mt202cov.specs.inner.Writing.{AreAmounts}
use Rattle.mt202cov.specs.declared.message.Mt202Cov.{Mt202Cov}
use Rattle.mt202cov.specs.Order.{order_202}
use Rattle.mt202cov.proofs.Fit.{all-fit}
use Rattle.mt202cov.proofs.Outcome.{all-pass}
use Rattle.mt202cov.proofs.Readings.{readings, said-by}
use Rattle.mt202cov.proofs.Written.{any, in-segments, none-missing, reread}

-- what is known of a cover that was read
pub record Accepted (t : Tables) (fs : List Field) (m : Mt202Cov) : Type 0 where
  pub contents : contents_of t fs (places_from order_202 0 fs) ≡ Ok m
  pub rules : first_of (all_rules m) ≡ None

pub accepted : (t : Tables) (fs : List Field) (m : Mt202Cov) → mt202cov_of t fs ≡ Ok m → Accepted t fs m
unfolding mt202cov_of
accepted t fs m e =
    let p = read-then (passed (field_tests t fs)) _ m e in
    let c = read-then (contents_of t fs (places_from order_202 0 fs)) _ m p.2 in
    let q = read-then (passed (all_rules c.0)) _ m c.2 in
    let same : c.0 ≡ m = cc q.2 in
    rw (← same) (record { contents = c.1; rules = passed-none (all_rules c.0) q.0 q.1 })

abbrev Anything : Field → Type 0
Anything f = Unit {0}

-- under all tables under which it may be read, a cover is read again from the fields that it is written as
pub read-again : (t : Tables) (fs : List Field) (m : Mt202Cov) → AreAmounts m → mt202cov_of t fs ≡ Ok m → mt202cov_of t (mt202cov_fields m) ≡ Ok m
unfolding mt202cov_fields
read-again t fs m amounts e =
    let a = accepted t fs m e in
    let found : List ℕ = places_from order_202 0 fs in
    let h = stand order_202 Anything 0 fs (λ k d lt. tt) in
    let r = readings t fs found m a.contents in
    let segs = in-segments t fs found Anything h m r in
    let placed = grouped-places order_202 any 0 0 0 (segments m) (omega arith) (omega arith) segs in
    let back = said-by t (joined (segments m)) (places_of 0 (segments m)) m (reread t fs found Anything h m r amounts) in
    let none =
    none-missing (places_of 0 (segments m)) (grouped-taken (segments m) 0 0 _ [] refl) (grouped-taken (segments m) 0 1 _ [] refl)
    (grouped-taken (segments m) 0 3 _ [] refl) (grouped-taken (segments m) 0 9 _ [] refl) (grouped-taken (segments m) 0 11 _ [] refl)
    (grouped-taken (segments m) 0 15 _ [] refl) in
    let sound = grouped-structure order_202 any (segments m) segs none in
    all-pass t (joined (segments m)) (places_of 0 (segments m)) (sym placed) sound m back a.rules

module _ (m : Mt202Cov) (is : IsReadable mt202cov_of m) where
  -- the amounts of a cover that may be read can be written
  pub amounts-of : AreAmounts m
  amounts-of =
      let a = accepted is.tables is.fields m is.says in
      let found : List ℕ = places_from order_202 0 is.fields in
      let h = stand order_202 IsField 0 is.fields is.fit in
      let r = readings is.tables is.fields found m a.contents in
      let value = said-one (Stands order_202 IsField) is.fields 3 (value_of is.tables) order_202 found (value_said m) h r.value in
      let ordered = said-option (Stands order_202 IsField) is.fields 18 (ccy_amount_of is.tables) found m.ordered h r.ordered in
      record {
        value = value-is is.tables value.field (value_said m) is.few value.says;
        ordered = some-weaker (Said (Stands order_202 IsField 18) (ccy_amount_of is.tables)) IsAmount m.ordered ordered
            (λ x s. ccy_amount-is is.tables s.field x is.few s.says);
      }

  -- and its fields may stand in a text
  pub fields-fit : All IsField (mt202cov_fields m)
  unfolding mt202cov_fields
  fields-fit =
      let a = accepted is.tables is.fields m is.says in
      let found : List ℕ = places_from order_202 0 is.fields in
      let h = stand order_202 IsField 0 is.fields is.fit in
      all-fit is.tables is.fields found h m (readings is.tables is.fields found m a.contents) amounts-of

pub some-fields : (m : Mt202Cov) → mt202cov_fields m ≢ []
unfolding mt202cov_fields
some-fields m = λ e. absurd (cc e)
