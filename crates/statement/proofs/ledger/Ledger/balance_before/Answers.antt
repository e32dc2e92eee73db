use Rattle.std.proofs.Common.{rules, ◌≡◌, List, take, ap, ◌∙◌, to_z, of_z, w64}
use Rattle.std.specs.List.{filter}
use Rattle.std.proofs.lemmas.Int.{to_z-of_z}
use Rattle.statement.specs.inner.Index.{is_of_earlier_day, last_balance}
use Rattle.statement.specs.declared.movement.Movement.{Movement}
use Rattle.statement.proofs.Parted.{parted}
use Rattle.statement.proofs.ledger.Ledger.balance_before.Goals as goal

pub returns : goal.returns
returns c =
    let ms : List Movement = c.args.self.now.movements in
    let held : to_z w64 (of_z w64 c.balance_after.result) ≡ c.balance_after.result = to_z-of_z w64 c.balance_after.result (record { sfits = c.balance_after.type_inv }) in
    let here : take c.earlier.result c.as_slice-movements.result.now ≡ filter (is_of_earlier_day c.args.day.0) ms =
    ap (take c.earlier.result) c.as_slice-movements.ensures ∙ parted (is_of_earlier_day c.args.day.0) ms c.earlier.result c.earlier.ensures.parted in
    let opens : to_z w64 (of_z w64 c.args.self.now.opening) ≡ c.args.self.now.opening = search rules in
    held ∙ c.balance_after.ensures ∙ (λ i. last_balance (opens i) (here i))
