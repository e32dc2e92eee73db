use Rattle.std.proofs.Common.{◌≡◌, ◌<◌, ◌+◌, ◌∙◌, [], ◌∷◌, ℕ, Option, None, Some, false, refl, ap, arith, length, length-append, map, subst, sym, take}
use Rattle.std.specs.Option.{is_some}
use mathlib.Core.Bool.{true≢false}
use Rattle.corr_top.specs.declared.desk.Halt.{Halt}
use Rattle.corr_top.specs.inner.Batching.{ServesInTurn}
use Rattle.corr_top.specs.inner.Workers.{Worker}
use Rattle.corr_top.specs.Message.{pay_asked_of}
use Rattle.corr_top.proofs.Batched.{served_next}
use Rattle.corr_top.proofs.desk.RunDesk.answer_front.Goals as goal

-- the last message stopped the worker
pub returns-then-is_some-clause-served : goal.returns-then-is_some-clause-served
returns-then-is_some-clause-served g c =
    let o = g.N.BooksName.opening in
    let reading = pay_asked_of c.args.self.now.directory.now o.accounts in
    let so_far = c.loop-at.invariant in
    let one = c.answer_next-one.result in
    let within : c.loop-at.at < length c.args.batch.now = (let less = c.loop-at-test.true in let count = c.len-at-end.ensures.count in omega (arith, less, count)) in
    let put = c.push_reserved.ensures.items in
    let here = served_next o reading c.args.batch.now c.loop-at.at c.message.result.now c.args.pass.now c.loop-at.pass c.answer_next-one.new.pass c.loop-at.made.items c.push_reserved.new.self.items one within
    c.message.ensures.bytes so_far.served c.answer_next-one.ensures.served put in
    let long : c.loop-at.at + 1 ≡ length c.push_reserved.new.self.items =
    (let all = ap length put in let both = length-append c.loop-at.made.items (one ∷ []) in let count = so_far.count in omega (arith, all, both, count)) in
    subst (λ (n : ℕ). ServesInTurn o (map reading (take n c.args.batch.now)) c.args.pass.now c.answer_next-one.new.pass c.push_reserved.new.self.items) long here

none_if : (o : Option Halt) → is_some o ≡ false → o ≡ None
none_if None is = refl
none_if (Some why) is = absurd (true≢false is)

-- it goes on
pub loop-at-preserved : goal.loop-at-preserved
loop-at-preserved g c =
    let o = g.N.BooksName.opening in
    let reading = pay_asked_of c.args.self.now.directory.now o.accounts in
    let so_far = c.loop-at.invariant in
    let one = c.answer_next-one.result in
    let within : c.loop-at.at < length c.args.batch.now = (let less = c.loop-at-test.true in let count = c.len-at-end.ensures.count in omega (arith, less, count)) in
    let put = c.push_reserved.ensures.items in
    let same = ap (λ (w : Worker). w.halted) c.pass.view_is in
    record {
      belongs = c.answer_next-one.ensures.pass;
      on = none_if c.answer_next-one.new.pass.halted (ap is_some (sym same) ∙ sym c.is_some.ensures ∙ c.if-is_some.false);
      served = served_next o reading c.args.batch.now c.loop-at.at c.message.result.now c.args.pass.now c.loop-at.pass c.answer_next-one.new.pass c.loop-at.made.items c.push_reserved.new.self.items one within
          c.message.ensures.bytes so_far.served c.answer_next-one.ensures.served put;
      count = let all = ap length put in let both = length-append c.loop-at.made.items (one ∷ []) in let count = so_far.count in omega (arith, all, both, count);
      room = let room = so_far.room in let capacity = c.push_reserved.ensures.capacity in omega (arith, room, capacity);
      capacity = let before = so_far.capacity in let capacity = c.push_reserved.ensures.capacity in omega (arith, before, capacity);
    }
