use Rattle.std.proofs.Common.{◌∷◌, ◌++◌, [], length, length-append, map, ap, sym, ◌∙◌, subst, arith, rules, append_assoc}
use Rattle.std.proofs.lemmas.List.{map-append}
use Rattle.work_pool.specs.inner.Seating.{AreHelpers}
use Rattle.work_pool.proofs.Rule.{cuts}
use Rattle.work_pool.proofs.Seated.{one_helper_more}
use Rattle.work_pool.proofs.seating.seat_at_line.Goals as goal

pub another-token-requires-clause-rule : goal.another-token-requires-clause-rule
another-token-requires-clause-rule g c = let i = c.loop-pass.invariant in cuts _ _ (omega (arith, i.parts, i.few, ap length c.in-Some.ensures.steps.0))

pub loop-pass-preserved : goal.loop-pass-preserved
loop-pass-preserved g c =
    let i = c.loop-pass.invariant in
    let step = c.in-Some.ensures.steps.0 in
    let cut = c.another-token.ensures.rule in
    let one = c.another-token.ensures.queue in
    let pushed = c.push_reserved.ensures.items in
    let long = ap length pushed ∙ length-append c.loop-pass.helpers.items (_ ∷ []) in
    record {
      of_line = (one.0.0 ∙ i.of_line.0, one.0.2 ∙ i.of_line.1);
      parts = omega (arith, ap (λ v. v.parts) cut.0, i.parts, i.few, long, ap length step);
      alone = λ none. absurd (omega (arith, long, none));
      feeds = ap (λ v. v.feeds) cut.0 ∙ i.feeds;
      given = ap (λ v. v.given) cut.0 ∙ i.given;
      taken = ap (λ v. v.taken) cut.0 ∙ i.taken;
      helpers = subst (AreHelpers c.args.line.now) (sym pushed) (one_helper_more c.args.line.now c.loop-pass.helpers.items _ i.helpers (one.1, cut.1, search rules));
      passes = ap (λ l. c.remove-first.result ∷ (map (λ server. server.work.pass) l ++ c.next.new.self.rest.items)) pushed
          ∙ ap (λ l. c.remove-first.result ∷ (l ++ c.next.new.self.rest.items)) (map-append (λ server. server.work.pass) c.loop-pass.helpers.items (_ ∷ []))
          ∙ ap (λ l. c.remove-first.result ∷ l) (append_assoc (map (λ server. server.work.pass) c.loop-pass.helpers.items) (c.in-Some.pass ∷ []) c.next.new.self.rest.items)
          ∙ ap (λ l. c.remove-first.result ∷ (map (λ server. server.work.pass) c.loop-pass.helpers.items ++ l)) (sym step) ∙ i.passes;
      room = omega (arith, long, c.push_reserved.ensures.capacity, ap length step, i.room);
      few = omega (arith, long, ap length step, i.few);
      worker = omega (arith, long, i.worker);
    }
