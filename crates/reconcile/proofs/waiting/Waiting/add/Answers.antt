use Rattle.std.proofs.Common.{◌≡◌, ◌++◌, ◌∷◌, [], ap, arith, ◌∙◌, unwrap_or}
use Rattle.std.specs.Map.{lookup}
use Rattle.reconcile.specs.inner.Keys.{is_key}
use Rattle.reconcile.proofs.Queues.{added, of-default, queue}
use Rattle.reconcile.proofs.waiting.Waiting.add.Goals as goal

pub returns : goal.returns
returns c = λ key.
    let old = c.args.self.now.groups.entries in
    let own = c.entry_key.result in
    let entry = c.args.entry.now in
    let updated = c.in_ok-self.ensures.update.0 c.push_back.new.self in
    let was : c.or_insert.result.now.items ≡ queue (λ group. group.items) old own =
    ap (λ group. group.items) (c.or_insert.ensures.value ∙ ap (λ o. unwrap_or o c.new.result) c.in_ok-self.ensures.value)
    ∙ of-default (λ group. group.items) (lookup (is_key own) old) c.new.result c.new.ensures.items in
    let more = c.in_ok-push_back.ensures.items ∙ ap (λ ps. ps ++ entry.place ∷ []) was in
    added c.args.self.now _ entry own c.push_back.new.self c.entry_key.ensures more key (let put = updated.0 key in grind arith)
