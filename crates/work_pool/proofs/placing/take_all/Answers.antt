use Rattle.std.proofs.Common.{Some, length, map, ap, sym, ◌++◌, ◌∙◌, arith}
use Rattle.std.proofs.lemmas.Option.{slice_get_within, same_Some}
use Rattle.work_pool.proofs.Slots.{get_seam}
use Rattle.work_pool.proofs.placing.take_all.Goals as goal

pub unreachable-requires : goal.unreachable-requires
unreachable-requires g c =
    let before = map (λ reply. Some reply) c.loop-slot.replies.items in
    let all = ap (λ l. before ++ l) (sym c.in-Some.ensures.steps.0) ∙ c.loop-slot.invariant.taken in
    let here = get_seam before c.next.new.self.rest.items c.in-Some.slot c.args.slots.items all in
    let full = c.requires.full (length before) (omega (arith, slice_get_within c.args.slots.items (length before) c.in-Some.slot here, c.args.slots.ok.0)) in
    c.in_default.not-Some full.0 (same_Some c.in-Some.slot (Some full.0) (sym here ∙ full.1))
