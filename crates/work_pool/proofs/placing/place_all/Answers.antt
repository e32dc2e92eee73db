use Rattle.std.proofs.Common.{◌<◌, length, ap, sym, subst, ◌∙◌, refl, arith}
use Rattle.work_pool.specs.inner.Placing.{AreSlots}
use Rattle.work_pool.proofs.Placed.{none_below, turn, all_below, are_slots, are_distinct, one_below}
use Rattle.work_pool.proofs.placing.place_all.Goals as goal

pub loop-k-init : goal.loop-k-init
loop-k-init g c = none_below c.args.works.now c.args.slots.now.len c.args.slots.now.items (sym c.args.slots.now.ok.0)

pub place-requires-clause-within : goal.place-requires-clause-within
place-requires-clause-within g c =
    let l = c.loop-k in
    let inside : l.k < length l.works = omega arith in
    let mine = ap (λ v. v.items) c.replace-answers.ensures.value in
    let here = turn c.args.works.now c.args.slots.now.len l.k l.works l.slots.items c.index-works-k.result c.replace-answers.result.items l.invariant inside mine in
    subst (λ n. AreSlots n c.replace-answers.result.items) (sym l.invariant.slots_count ∙ sym l.slots.ok.0)
    (are_slots c.args.works.now c.args.slots.now.len c.requires.within c.requires.apart l.k c.replace-answers.result.items here)

pub place-requires-clause-apart : goal.place-requires-clause-apart
place-requires-clause-apart g c =
    let l = c.loop-k in
    let inside : l.k < length l.works = omega arith in
    let mine = ap (λ v. v.items) c.replace-answers.ensures.value in
    let here = turn c.args.works.now c.args.slots.now.len l.k l.works l.slots.items c.index-works-k.result c.replace-answers.result.items l.invariant inside mine in
    are_distinct c.args.works.now c.args.slots.now.len c.requires.within c.requires.apart l.k c.replace-answers.result.items here

pub loop-k-preserved : goal.loop-k-preserved
loop-k-preserved g c =
    let l = c.loop-k in
    let inside : l.k < length l.works = omega arith in
    let mine = ap (λ v. v.items) c.replace-answers.ensures.value in
    one_below c.args.works.now c.args.slots.now.len c.requires.within c.requires.apart l.k l.works c.index-works-k.result _ c.replace-answers.result.items l.slots.items c.place.new.slots.items l.invariant inside mine
    refl c.place.ensures.placed c.place.ensures.others

pub returns-clause-placed : goal.returns-clause-placed
returns-clause-placed g c =
    let l = c.loop-k in
    all_below c.args.works.now c.args.slots.now.len l.k l.works l.slots.items l.invariant (omega arith)
