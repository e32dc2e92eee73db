use Rattle.std.proofs.Common.{◌∙◌, All, List, ap, length, subst, sym}
use Rattle.std.specs.List.{flat_map}
use Rattle.day_model.specs.declared.pay.Leg.{Leg}
use Rattle.day_model.specs.declared.pay.Order.{Order}
use Rattle.day_model.specs.Shape.{IsOrder}
use Rattle.jrn_codec.specs.Record.{leg_bytes, order_bytes}
use Rattle.jrn_codec.proofs.Lengths.{record_long}
use Rattle.jrn_codec.proofs.length.record_len.Goals as goal

pub orders_len-requires-clause-each : goal.orders_len-requires-clause-each
orders_len-requires-clause-each c =
    let legs = length c.args.e.now.pay.legs in
    (legs, subst (λ (orders : List Order). All (IsOrder legs) orders) (sym c.as_slice-2.ensures) c.requires.shape.each_order)

pub returns-clause-len : goal.returns-clause-len
returns-clause-len c =
    record_long c.args.e.now c.uetr_len.result c.outcome_len.result c.legs_len.result c.orders_len.result (length c.bytes.result.now) c.requires.shape c.uetr_len.ensures.len c.outcome_len.ensures.len
    (c.legs_len.ensures.len ∙ ap (λ (legs : List Leg). length (flat_map leg_bytes legs)) c.as_slice.ensures)
    (c.orders_len.ensures.len ∙ ap (λ (orders : List Order). length (flat_map order_bytes orders)) c.as_slice-2.ensures)
    (ap length c.bytes.ensures)
