-- Where no test of an MT950's fields fails, its fields say balances and lines.
use Rattle.std.proofs.Common.{◌≡◌, ℕ, List, None, Ok, refl, sym, ap, ◌∙◌}
use Rattle.corr_text.specs.First.{first_of}
use Rattle.ref_tables.specs.Seen.{Tables}
use Rattle.fin_fields.specs.declared.field.Field.{Field}
use Rattle.fin_layout.specs.Contents.{all_from}
use Rattle.fin_layout.specs.Order.{places_from}
use Rattle.fin_layout.proofs.laws.Fine.{all-hold, many-fine, may-fine, must-fine}
use Rattle.fin_contents.specs.Plain.{reference_of, short_line_of}
use Rattle.mt950.specs.Balances.{stated_of}
use Rattle.mt950.specs.Entry.{line_of}
use Rattle.mt950.specs.Number.{numbers_of}
use Rattle.mt950.specs.Order.{order_950}
use Rattle.mt950.specs.Page.{content_test, decimals_with, entry_decimals, said_of, tests_950}
use Rattle.mt950.specs.declared.said.Said.{Said}
use Rattle.mt950.proofs.Says.{says-said}

pub complete_950 : (t : Tables) (fs : List Field) → first_of (tests_950 t fs) ≡ None
    → (said : Said) × (said_of t fs (places_from order_950 0 fs) ≡ Ok said)
complete_950 t fs none =
    let found = places_from order_950 0 fs in
    let decimals : ℕ = entry_decimals t fs found in
    let hold = all-hold order_950 (content_test t decimals) fs none in
    let reference = must-fine hold 0 reference_of (λ f. refl) _ refl refl in
    let account = must-fine hold 1 (short_line_of 35) (λ f. refl) _ refl refl in
    let numbers = must-fine hold 2 numbers_of (λ f. refl) _ refl refl in
    let opening = must-fine hold 3 (stated_of t) (λ f. refl) _ refl refl in
    let lines = many-fine hold 4 (line_of decimals) (λ f. refl) in
    let closing = must-fine hold 5 (stated_of t) (λ f. refl) _ refl refl in
    let available = may-fine hold 6 (stated_of t) (λ f. refl) in
    let same : decimals ≡ opening.0.decimals = ap decimals_with opening.1 in
    let read : all_from fs 4 (line_of opening.0.decimals) 0 found fs ≡ Ok lines.0 =
    ap (λ (d : ℕ). all_from fs 4 (line_of d) 0 found fs) (sym same) ∙ lines.1 in
    let said : Said = record {
      reference = reference.0;
      account = account.0;
      numbers = numbers.0;
      opening = opening.0;
      lines = lines.0;
      closing = closing.0;
      available = available.0;
    } in (
      said,
      says-said t fs found said
          (record {
            reference = reference.1;
            account = account.1;
            numbers = numbers.1;
            opening = opening.1;
            lines = read;
            closing = closing.1;
            available = available.1;
          }),
    )
