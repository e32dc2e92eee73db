use Rattle.std.proofs.Common.{◌≡◌, take}
use Rattle.advices.specs.Messages.{messages_from}
use Rattle.advices.specs.inner.Messages.{AllReadBack}
use Rattle.advices.proofs.entry.messages.Given as goal

-- the messages so far, how many they are, and that each is read back
abbrev pub invariant-loop-order : goal.invariant-loop-order
invariant-loop-order l =
    (l.k ≡ l.order-index) × (l.texts ≡ messages_from l.a l.pay l.place 1 (take l.order-index l.pay.orders))
    × AllReadBack l.a l.pay l.place 1 (take l.order-index l.pay.orders)
