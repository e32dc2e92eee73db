-- The amount of an advice that was read is one that may be paid.
use Rattle.std.proofs.Common.{◌≡◌, List, Result, Ok, Err}
use Rattle.std.specs.Prelude.{IfOk}
use Rattle.ref_tables.specs.Seen.{Tables}
use Rattle.fin_fields.specs.declared.field.Field.{Field}
use Rattle.fin_layout.specs.Order.{places_from}
use Rattle.fin_layout.specs.Reading.{Gives}
use Rattle.fin_layout.specs.declared.fault.MtFault.{MtFault}
use Rattle.fin_contents.specs.Money.{IsPayable}
use Rattle.fin_contents.proofs.laws.Again.{place-payable}
use Rattle.mt9_advice.specs.Advice.{mt900_of, mt910_of}
use Rattle.mt9_advice.specs.declared.credit.Mt910.{Mt910}
use Rattle.mt9_advice.specs.declared.debit.Mt900.{Mt900}
use Rattle.mt9_advice.specs.Order.{order_900, order_910}
use Rattle.mt9_advice.proofs.Again.{booking_900, booking_910, said-900, said-910}
use Rattle.mt9_advice.proofs.Written.{contents-of-900, contents-of-910}

-- of the confirmation of a debit
pub payable-900 : (t : Tables) (fs : List Field) (m : Mt900) → mt900_of t fs ≡ Ok m → IsPayable m.amount
payable-900 t fs m e =
    let said = said-900 t fs (places_from order_900 0 fs) m (contents-of-900 t fs m e) in
    place-payable t order_900 fs (places_from order_900 0 fs) 4 (booking_900 m).value said.booking.value

-- of the confirmation of a credit
pub payable-910 : (t : Tables) (fs : List Field) (m : Mt910) → mt910_of t fs ≡ Ok m → IsPayable m.amount
payable-910 t fs m e =
    let said = said-910 t fs (places_from order_910 0 fs) m (contents-of-910 t fs m e).0 in
    place-payable t order_910 fs (places_from order_910 0 fs) 4 (booking_910 m).value said.booking.value

-- so is that of what a reader gives
pub given-payable-900 : (t : Tables) (fs : List Field) (r : Result Mt900 MtFault) → Gives r (mt900_of t fs) → IfOk r (λ m. IsPayable m.amount)
given-payable-900 t fs (Ok m) is = payable-900 t fs m is
given-payable-900 t fs (Err e) is = tt

pub given-payable-910 : (t : Tables) (fs : List Field) (r : Result Mt910 MtFault) → Gives r (mt910_of t fs) → IfOk r (λ m. IsPayable m.amount)
given-payable-910 t fs (Ok m) is = payable-910 t fs m is
given-payable-910 t fs (Err e) is = tt
