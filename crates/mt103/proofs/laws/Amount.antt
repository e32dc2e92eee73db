-- The amount of a transfer that was read may be paid.
use Rattle.std.proofs.Common.{◌≡◌, List, Ok}
use Rattle.ref_tables.specs.Seen.{Tables}
use Rattle.fin_fields.specs.declared.field.Field.{Field}
use Rattle.fin_layout.specs.Order.{places_from}
use Rattle.fin_contents.specs.Money.{IsPayable}
use Rattle.fin_contents.proofs.laws.Again.{place-payable}
use Rattle.mt103.specs.Message.{mt103_of}
use Rattle.mt103.specs.declared.message.Mt103.{Mt103}
use Rattle.mt103.specs.Order.{order_103}
use Rattle.mt103.proofs.RoundTrip.{is-read}
use Rattle.mt103.proofs.Says.{contents-say}

-- the amount of a message that is read can be paid
pub amount-payable : (t : Tables) (fs : List Field) (m : Mt103) → mt103_of t fs ≡ Ok m → IsPayable m.amount
amount-payable t fs m e =
    let say = contents-say t fs (places_from order_103 0 fs) m (is-read t fs m e).contents in
    let same = say.same in
    rw (← same) (place-payable t order_103 fs (places_from order_103 0 fs) 5 say.terms.value say.terms_say.value)
