use Rattle.std.proofs.Common.{◌≡◌, Some, Ok, length, ap, sym, subst, ◌∙◌, arith}
use Rattle.std.proofs.lemmas.List.{length-map}
use Rattle.work_pool.specs.Fed.{AreWithin}
use Rattle.work_pool.specs.inner.Placing.{lists_of}
use Rattle.work_pool.proofs.Placed.{are_full, are_replies}
use Rattle.work_pool.proofs.placing.collect_answers.Goals as goal

pub place_all-requires-clause-within : goal.place_all-requires-clause-within
place_all-requires-clause-within g c = subst (λ n. AreWithin (lists_of c.args.works.now) n) (sym c.in_ok-slots.ensures) (rw c.in_ok-count.was at c.requires.within)

pub take_all-requires-clause-full : goal.take_all-requires-clause-full
take_all-requires-clause-full g c = λ m below.
    are_full (lists_of c.args.works.now) c.place_all.new.slots.items c.place_all.ensures.placed c.in_ok-count.count m (rw c.in_ok-count.was at c.requires.whole)
    (omega (arith, below, c.place_all.ensures.count, c.in_ok-slots.ensures))

pub returns-clause-count : goal.returns-clause-count
returns-clause-count g c =
    let long : c.in_ok-count.count ≡ c.take_all.new.replies.len =
    omega (arith, c.place_all.ensures.count, c.in_ok-slots.ensures, c.place_all.new.slots.ok.0, c.take_all.new.replies.ok.0, ap length c.take_all.ensures, length-map c.take_all.new.replies.items (λ reply. Some reply)) in
    c.in_ok-count.was ∙ ap (λ n. Ok n) long

pub returns-clause-replies : goal.returns-clause-replies
returns-clause-replies g c = are_replies (lists_of c.args.works.now) c.place_all.new.slots.items c.place_all.ensures.placed c.take_all.new.replies.items c.take_all.ensures
