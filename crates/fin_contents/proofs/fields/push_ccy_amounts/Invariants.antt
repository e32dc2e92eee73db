use Rattle.std.proofs.Common.{◌≡◌, map, take}
use Rattle.fin_contents.specs.Writing.{ccy_amount_field}
use Rattle.fin_contents.proofs.fields.push_ccy_amounts.Given as goal

abbrev pub invariant-loop-amount : goal.invariant-loop-amount
invariant-loop-amount l = l.added ≡ map (ccy_amount_field l.fn.tag l.fn.letter) (take l.amount-index l.amounts)
