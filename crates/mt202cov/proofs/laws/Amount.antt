-- The amount of a cover that was read may be paid.
use Rattle.std.proofs.Common.{◌≡◌, ℕ, List, Result, Ok, Err}
use Rattle.std.specs.Prelude.{IfOk}
use Rattle.ref_tables.specs.Seen.{Tables}
use Rattle.fin_fields.specs.declared.field.Field.{Field}
use Rattle.fin_layout.specs.Order.{places_from}
use Rattle.fin_layout.specs.Reading.{Gives}
use Rattle.fin_layout.specs.declared.fault.MtFault.{MtFault}
use Rattle.fin_contents.specs.Money.{IsPayable}
use Rattle.fin_contents.proofs.laws.Again.{place-payable}
use Rattle.mt202cov.specs.Message.{mt202cov_of}
use Rattle.mt202cov.specs.Writing.{value_said}
use Rattle.mt202cov.specs.declared.message.Mt202Cov.{Mt202Cov}
use Rattle.mt202cov.specs.Order.{order_202}
use Rattle.mt202cov.proofs.Readings.{readings}
use Rattle.mt202cov.proofs.RoundTrip.{accepted}

-- the amount of a message that is read can be paid
pub amount-payable : (t : Tables) (fs : List Field) (m : Mt202Cov) → mt202cov_of t fs ≡ Ok m → IsPayable m.amount
amount-payable t fs m e =
    let found : List ℕ = places_from order_202 0 fs in
    place-payable t order_202 fs found 3 (value_said m) (readings t fs found m (accepted t fs m e).contents).value

pub given-payable : (t : Tables) (fs : List Field) (r : Result Mt202Cov MtFault) → Gives r (mt202cov_of t fs) → IfOk r (λ m. IsPayable m.amount)
given-payable t fs (Ok m) is = amount-payable t fs m is
given-payable t fs (Err e) is = tt
