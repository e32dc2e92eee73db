-- The contents of an MT950, read place by place, meet the first fault of the text.
use Rattle.std.proofs.Common.{◌≡◌, ℕ, List, Result, Ok, Err, refl, ◌∙◌}
use Rattle.corr_text.specs.First.{◌>>=◌}
use Rattle.corr_text.specs.declared.fault.Fault.{Fault}
use Rattle.ref_tables.specs.Seen.{Tables}
use Rattle.fin_fields.specs.declared.field.Field.{Field}
use Rattle.fin_layout.specs.Contents.{all_from, in_option, in_place}
use Rattle.fin_layout.proofs.laws.InOrder.{LiesFrom, all-met, none-left, one-met, option-met}
use Rattle.fin_contents.specs.Plain.{reference_of, short_line_of}
use Rattle.mt950.specs.Balances.{stated_of}
use Rattle.mt950.specs.Entry.{line_of}
use Rattle.mt950.specs.Number.{numbers_of}
use Rattle.mt950.specs.Order.{order_950}
use Rattle.mt950.specs.Page.{content_test, decimals_with, entry_decimals, said_of}
use Rattle.mt950.specs.declared.balance.Stated.{Stated}
use Rattle.mt950.specs.declared.number.Numbers.{Numbers}
use Rattle.mt950.specs.declared.said.Said.{Said}

-- the lines are read with the decimals of the opening, where there is one
with-decimals : {B : Type 0} (r : Result Stated Fault) (next : ℕ → Stated → Result B Fault)
    → (r >>= λ s. next s.decimals s) ≡ (r >>= λ s. next (decimals_with r) s)
with-decimals (Ok s) next = refl
with-decimals (Err fault) next = refl

module _ (t : Tables) (fs : List Field) (found : List ℕ) (fault : Fault) where
  -- what is read from the lines on
  abbrev from_lines : List ℕ → List ℕ → Numbers → ℕ → Stated → Result Said Fault
  from_lines reference account numbers decimals opening =
      all_from fs 4 (line_of decimals) 0 found fs >>= λ lines.
      in_place order_950 fs found 5 (stated_of t) >>= λ closing.
      in_option fs found 6 (stated_of t) >>= λ available.
      Ok
      (record {
        reference = reference;
        account = account;
        numbers = numbers;
        opening = opening;
        lines = lines;
        closing = closing;
        available = available;
      })

  pub refused : LiesFrom order_950 (content_test t (entry_decimals t fs found)) fs found fault 0 → said_of t fs found ≡ Err fault
  unfolding said_of
  refused l0 =
      one-met l0 reference_of (λ f. refl) refl _ refl refl _ (λ reference l1.
      one-met l1 (short_line_of 35) (λ f. refl) refl _ refl refl _ (λ account l2.
      one-met l2 numbers_of (λ f. refl) refl _ refl refl _ (λ numbers l3.
      with-decimals (in_place order_950 fs found 3 (stated_of t)) (from_lines reference account numbers)
      ∙ one-met l3 (stated_of t) (λ f. refl) refl _ refl refl (from_lines reference account numbers (entry_decimals t fs found)) (λ opening l4.
      all-met l4 (line_of (entry_decimals t fs found)) (λ f. refl) _ (λ lines l5.
      one-met l5 (stated_of t) (λ f. refl) refl _ refl refl _ (λ closing l6.
      option-met l6 (stated_of t) (λ f. refl) refl _ (λ available l7. none-left l7)))))))
