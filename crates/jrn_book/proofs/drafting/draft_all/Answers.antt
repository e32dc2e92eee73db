use Rattle.std.proofs.Common.{◌≡◌, ◌∙◌, ◌≤◌, All, List, [], ◌∷◌, ◌++◌, length, reverse, ap, arith, length-append, refl, subst, sym, vec_capacity}
use Rattle.std.proofs.lemmas.List.{length-reverse, reverse-reverse}
use Rattle.day_model.specs.declared.pay.Pay.{Pay}
use Rattle.day_model.specs.Fit.{FitsAccounts}
use Rattle.day_model.specs.Shape.{HasShape}
use Rattle.jrn_book.specs.Answers.{Answer}
use Rattle.jrn_book.specs.inner.Drafting.{rooms_for}
use Rattle.jrn_book.proofs.Drafted.{IsDrafting, at_seam, drafts_begin, drafts_next, left_next, rooms_within}
use Rattle.jrn_book.proofs.drafting.draft_all.Goals as goal

pub loop-p-init : goal.loop-p-init
loop-p-init c =
    let rest = c.turned-rest.result.items in
    let pays = c.args.pays.items in
    let back : reverse rest ≡ pays = ap reverse c.turned-rest.ensures ∙ reverse-reverse pays in
    let size : length rest ≡ length pays = ap length c.turned-rest.ensures ∙ length-reverse pays in
    let enough = subst (λ (l : List Pay). rooms_for l ≤ c.args.draft.now.frames.spare) (sym back) c.requires.bytes in (
      drafts_begin c.args.a.now c.args.h.now.entries c.args.day rest c.args.draft.now.frames c.args.index.now c.args.pairs.now.items c.args.draft.now.entries.items c.args.answers.now.items (vec_capacity c.args.draft.now.entries)
          c.requires.drafted c.requires.none c.requires.answers (omega (arith, size, c.requires.seats)) (omega (arith, size, c.requires.entries)) enough,
      refl,
      refl,
    )

pub draft_one-answer-requires-clause-fits : goal.draft_one-answer-requires-clause-fits
draft_one-answer-requires-clause-fits c =
    let pays = c.args.pays.items in
    let so_far = c.loop-p.invariant.0 in
    let more = c.pop.new.self.items in
    let back : pays ≡ reverse c.turned-rest.result.items = sym (ap reverse c.turned-rest.ensures ∙ reverse-reverse pays) in
    let split : pays ≡ so_far.done ++ c.in-Some.p ∷ reverse more = back ∙ left_next (reverse c.turned-rest.result.items) so_far.done c.loop-p.rest.items more c.in-Some.p so_far.left c.in-Some.ensures.items in
    at_seam (FitsAccounts c.args.a.now) so_far.done c.in-Some.p (reverse more) (subst (All (FitsAccounts c.args.a.now)) split c.requires.fits)

pub draft_one-answer-requires-clause-shape : goal.draft_one-answer-requires-clause-shape
draft_one-answer-requires-clause-shape c =
    let pays = c.args.pays.items in
    let so_far = c.loop-p.invariant.0 in
    let more = c.pop.new.self.items in
    let back : pays ≡ reverse c.turned-rest.result.items = sym (ap reverse c.turned-rest.ensures ∙ reverse-reverse pays) in
    let split : pays ≡ so_far.done ++ c.in-Some.p ∷ reverse more = back ∙ left_next (reverse c.turned-rest.result.items) so_far.done c.loop-p.rest.items more c.in-Some.p so_far.left c.in-Some.ensures.items in
    at_seam HasShape so_far.done c.in-Some.p (reverse more) (subst (All HasShape) split c.requires.shape)

pub draft_one-answer-requires-clause-seat : goal.draft_one-answer-requires-clause-seat
draft_one-answer-requires-clause-seat c =
    let seats = c.loop-p.invariant.0.seats in
    omega (arith, seats, ap length c.in-Some.ensures.items, length-append c.pop.new.self.items (c.in-Some.p ∷ []))

pub draft_one-answer-requires-clause-entry : goal.draft_one-answer-requires-clause-entry
draft_one-answer-requires-clause-entry c =
    let room = c.loop-p.invariant.0.room in
    let capacity = c.loop-p.invariant.2 in
    omega (arith, room, capacity, ap length c.in-Some.ensures.items, length-append c.pop.new.self.items (c.in-Some.p ∷ []))

pub draft_one-answer-requires-clause-bytes : goal.draft_one-answer-requires-clause-bytes
draft_one-answer-requires-clause-bytes c =
    let so_far = c.loop-p.invariant.0 in
    let all = reverse c.turned-rest.result.items in
    let more = c.pop.new.self.items in
    let split : all ≡ so_far.done ++ c.in-Some.p ∷ reverse more = left_next all so_far.done c.loop-p.rest.items more c.in-Some.p so_far.left c.in-Some.ensures.items in
    let within = rooms_within so_far.done (reverse more) c.in-Some.p in
    let bytes = so_far.bytes in
    let enough = so_far.enough in
    omega (arith, within, bytes, enough, ap rooms_for split)

pub push_reserved-requires : goal.push_reserved-requires
push_reserved-requires c =
    let so_far = c.loop-p.invariant.0 in
    let pays = c.args.pays.items in
    let all = reverse c.turned-rest.result.items in
    let more = c.pop.new.self.items in
    let back : pays ≡ all = sym (ap reverse c.turned-rest.ensures ∙ reverse-reverse pays) in
    let split : pays ≡ so_far.done ++ c.in-Some.p ∷ reverse more = back ∙ left_next all so_far.done c.loop-p.rest.items more c.in-Some.p so_far.left c.in-Some.ensures.items in
    let many = so_far.many in
    let capacity = c.loop-p.invariant.1 in
    omega (arith, many, capacity, c.requires.room, c.loop-p.answers.ok.0, ap length split, length-append so_far.done (c.in-Some.p ∷ reverse more))

pub loop-p-preserved : goal.loop-p-preserved
loop-p-preserved c =
    let so_far = c.loop-p.invariant.0 in
    let step = c.draft_one-answer.ensures in
    let all = c.turned-rest.result.items in
    let more = c.pop.new.self.items in
    let capacity = vec_capacity c.args.draft.now.entries in
    let next = drafts_next c.args.a.now c.args.h.now.entries c.args.day all c.args.draft.now.frames.spare c.loop-p.rest.items more c.in-Some.p c.loop-p.draft.entries.items c.draft_one-answer.new.draft.entries.items
    c.loop-p.draft.frames c.draft_one-answer.new.draft.frames c.loop-p.index c.draft_one-answer.new.index c.loop-p.pairs.items c.draft_one-answer.new.pairs.items c.loop-p.answers.items c.draft_one-answer.result capacity
    so_far c.in-Some.ensures.items step.drafted step.history step.shows step.tried step.from step.left.0 step.left.1 in (
      subst (λ (xs : List Answer). IsDrafting c.args.a.now c.args.h.now.entries c.args.day all c.args.draft.now.frames.spare more c.draft_one-answer.new.draft.entries.items c.draft_one-answer.new.draft.frames c.draft_one-answer.new.index
          c.draft_one-answer.new.pairs.items xs capacity) (sym c.push_reserved.ensures.items) next,
      c.push_reserved.ensures.capacity ∙ c.loop-p.invariant.1,
      step.capacity ∙ c.loop-p.invariant.2,
    )
