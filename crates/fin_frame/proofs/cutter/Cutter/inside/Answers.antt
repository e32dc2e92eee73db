use Rattle.std.proofs.Common.{◌≡◌, ◌+◌, ◌<◌, ◌≤◌, length, take, get_or, Some, arith, refl, sym, subst, ap, ◌⊎◌, IsTrue, ◌∙◌}
use Rattle.fin_frame.specs.File.{most_bytes, left_open}
use Rattle.fin_frame.specs.inner.Machine.{held_bytes, next_at, grows, state_of}
use Rattle.std.proofs.lemmas.List.{length-take-le, take-take}
use Rattle.fin_frame.specs.Tidy.{is_tidy}
use Rattle.fin_frame.specs.declared.stage.Stage.TheVariants.{Within}
use Rattle.fin_frame.proofs.laws.Running.{run-first, next-sound, within-full, took-within, state-same, deep-of}
use Rattle.fin_frame.proofs.cutter.Cutter.inside.Goals as goal

pub returns-then-held-ge-MOST_BYTES-clause-took : goal.returns-then-held-ge-MOST_BYTES-clause-took
returns-then-held-ge-MOST_BYTES-clause-took c = λ given.
    let s = state_of c.args.self.now given in
    let b = get_or c.args.rest.now 0 0 in
    let full : most_bytes ≤ length (held_bytes s) = omega (arith, c.held_len-held.ensures) in
    run-first s c.args.rest.now c.requires.some ∙ next-sound s b c.requires.sound ∙ ap (λ stage. next_at stage s b) c.requires.stage
    ∙ within-full c.args.from c.args.depth s b full

pub returns-clause-took : goal.returns-clause-took
returns-clause-took c given =
    let s = state_of c.args.self.now given in
    let len = c.within-len.result.0 in
    let reach = c.min-reach.result in
    let w = c.within-len.ensures in
    let tidy : IsTrue (is_tidy (Within c.args.from c.args.depth) c.args.self.now.fed) =
    subst (λ st. IsTrue (is_tidy st c.args.self.now.fed)) c.requires.stage c.args.self.now.tidy in
    let deep : 0 < c.args.depth = deep-of c.args.depth c.args.self.now.fed tidy in
    let size : length (take reach c.args.rest.now) ≡ reach = length-take-le reach c.args.rest.now (omega (arith, c.min-reach.ensures)) in
    let front : take len (take reach c.args.rest.now) ≡ take len c.args.rest.now = take-take len reach c.args.rest.now (omega (arith, w.most)) in
    let is : left_open c.args.depth (take len c.args.rest.now) ≡ Some c.within-len.result.1 =
    subst (λ xs. left_open c.args.depth xs ≡ Some c.within-len.result.1) front w.«open» in
    let end : (c.within-len.result.1 ≡ 0) ⊎ (len ≡ reach) = subst (λ n. (c.within-len.result.1 ≡ 0) ⊎ (len ≡ n)) size w.end in
    let has : length (take len c.args.rest.now) ≡ len = length-take-le len c.args.rest.now (omega (arith, w.most, c.min-reach.ensures)) in
    let hold = c.in_ok-hold.ensures.ok in
    took-within c.args.from c.args.depth c.within-len.result.1 len reach c.args.rest.now s _ c.requires.sound c.requires.stage deep
    (omega (arith, c.min-reach.ensures, c.held_len-held.ensures)) (omega (arith, c.min-reach.ensures))
    (omega (arith, c.min-reach.ensures, c.held_len-held.ensures)) (omega (arith, w.most)) is end
    (state-same _ (grows c.args.from c.within-len.result.1 (take len c.args.rest.now) s) c.landed-self.ensures (ap (λ k. k.held) hold)
    (ap (λ k. k.fed + len) hold ∙ ap (λ n. c.args.self.now.fed + n) (sym has)) (ap (λ k. k.begun) hold) (ap (λ k. k.failed) hold) refl)
