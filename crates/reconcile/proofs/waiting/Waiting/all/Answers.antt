use Rattle.std.proofs.Common.{ap}
use Rattle.reconcile.proofs.Queues.{all-more, queue}
use Rattle.reconcile.proofs.waiting.Waiting.all.Goals as goal

pub loop-entry-init : goal.loop-entry-init
loop-entry-init c = λ key. ap (λ groups. queue (λ group. group.items) groups key) c.new.ensures.empty

pub loop-entry-preserved : goal.loop-entry-preserved
loop-entry-preserved c =
    all-more c.args.entries.now c.loop-entry.entry-index c.entry-item.result c.loop-entry.waiting c.add.new.self c.entry-item.is c.loop-entry-test.true c.loop-entry.invariant c.in_ok-add.ensures
