use Rattle.std.proofs.Common.{◌≡◌, ◌∷◌, ◌++◌, [], suc, length, map, slice_get, ap, sym, ◌∙◌, arith, rules, append_assoc}
use Rattle.work_pool.proofs.Rule.{comes_back}
use Rattle.work_pool.proofs.Seated.{none_back, one_back}
use Rattle.work_pool.proofs.seating.take_back.Goals as goal

pub absorb-requires-clause-queue : goal.absorb-requires-clause-queue
absorb-requires-clause-queue g c =
    let i = c.loop-server.invariant in
    (i.of_line, (i.helpers 0 c.in-Some.server (ap (λ l. slice_get l 0) c.in-Some.ensures.steps.0)).0)

pub absorb-requires-clause-rule : goal.absorb-requires-clause-rule
absorb-requires-clause-rule g c =
    let i = c.loop-server.invariant in
    comes_back _ _ _ _ i.part (i.helpers 0 c.in-Some.server (ap (λ l. slice_get l 0) c.in-Some.ensures.steps.0)).2

pub loop-server-preserved : goal.loop-server-preserved
loop-server-preserved g c =
    let i = c.loop-server.invariant in
    let step = c.in-Some.ensures.steps.0 in
    let head = i.helpers 0 c.in-Some.server (ap (λ l. slice_get l 0) step) in
    record {
      of_line = (c.absorb.ensures.queue.0 ∙ i.of_line.0, c.absorb.ensures.queue.2 ∙ i.of_line.1);
      part = omega (arith, ap (λ v. v.parts) c.absorb.ensures.rule, i.part);
      all = append_assoc c.loop-server.yielded (c.in-Some.server ∷ []) c.next.new.self.rest.items ∙ ap (λ l. c.loop-server.yielded ++ l) (sym step) ∙ i.all;
      knows = one_back c.loop-server.yielded c.in-Some.server _ _ _ i.knows c.absorb.ensures.rule head.1;
      helpers = λ k s at. i.helpers (suc k) s (ap (λ l. slice_get l (suc k)) step ∙ at);
      works = ap (λ l. l ++ map (λ server. server.work) c.next.new.self.rest.items) c.push_reserved.ensures.items
          ∙ append_assoc c.loop-server.rest.items (c.in-Some.server.work ∷ []) (map (λ server. server.work) c.next.new.self.rest.items)
          ∙ ap (λ l. c.loop-server.rest.items ++ map (λ server. server.work) l) (sym step) ∙ i.works;
      room = omega (arith, c.push_reserved.ensures.len, c.push_reserved.ensures.capacity, ap length step, i.room);
    }

pub loop-server-init : goal.loop-server-init
loop-server-init g c =
    let is : c.into_iter-server-iterator.result.rest.items ≡ c.args.helpers.items = search rules in
    record {
      of_line = c.requires.token.0;
      part = c.requires.token.1;
      all = is;
      knows = none_back _;
      helpers = λ k s at. c.requires.helpers k s (ap (λ l. slice_get l k) (sym is) ∙ at);
      works = ap (λ l. l ++ map (λ server. server.work) c.into_iter-server-iterator.result.rest.items) c.requires.empty ∙ ap (map (λ server. server.work)) is;
      room = omega (arith, ap length c.requires.empty, ap length is, c.requires.room, c.args.helpers.ok.0);
    }
