use Rattle.std.proofs.Common.{rules, [], drop, ap, ◌∙◌}
use Rattle.std.specs.Option.{option_map_or}
use Rattle.reconcile.proofs.Queues.{without-first}
use Rattle.reconcile.proofs.waiting.Waiting.take.Goals as goal

pub returns-clause-rest : goal.returns-clause-rest
returns-clause-rest c = λ other.
    let groups = c.args.self.now.groups.entries in
    let updated = (c.get_mut.follows.holds c.pop_front.new.self).3 (search rules) in
    let less = c.pop_front.ensures.rest ∙ ap (λ o. drop 1 (option_map_or (λ group. group.items) o [])) c.in_ok-get_mut.ensures.value in
    ap (λ o. option_map_or (λ group. group.items) o []) (updated.0 other) ∙ without-first (λ group. group.items) groups c.args.key.now c.pop_front.new.self other less
