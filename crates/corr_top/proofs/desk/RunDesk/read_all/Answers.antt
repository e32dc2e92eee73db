use Rattle.std.proofs.Common.{◌<◌, [], ◌∷◌, All, List, Result, length, sym, ◌∙◌, subst, arith}
use Rattle.std.proofs.lemmas.List.Elements.{All-append}
use Rattle.day_model.specs.declared.pay.Pay.{Pay}
use Rattle.corr_top.specs.declared.message.NoPay.{NoPay}
use Rattle.corr_top.specs.inner.Batching.{IsSoundReading}
use Rattle.corr_top.specs.Message.{pay_asked_of}
use Rattle.corr_top.proofs.Batched.{read_front, read_more}
use Rattle.corr_top.proofs.Replying.{all_one}
use Rattle.corr_top.proofs.desk.RunDesk.read_all.Goals as goal

pub returns-in_default-clause-front : goal.returns-in_default-clause-front
returns-in_default-clause-front g c =
    let reading = pay_asked_of c.args.self.now.directory.now g.N.BooksName.opening.accounts in
    read_front reading c.args.batch.now c.loop-at.at c.loop-at.readings.items c.loop-at.invariant.read

pub loop-at-preserved : goal.loop-at-preserved
loop-at-preserved g c =
    let accounts = g.N.BooksName.opening.accounts in
    let reading = pay_asked_of c.args.self.now.directory.now accounts in
    let so_far = c.loop-at.invariant in
    let one = c.in-Some.reading in
    let put = c.push_reserved.ensures.items in
    let capacity = c.push_reserved.ensures.capacity in
    let room = so_far.room in
    let is = c.in-Some.ensures.value in
    let within : c.loop-at.at < length c.args.batch.now = (let less = c.loop-at-test.true in let count = c.len-at-end.ensures.count in omega (arith, less, count)) in
    let all = All-append (IsSoundReading accounts) c.loop-at.readings.items (one ∷ []) so_far.sound (all_one (IsSoundReading accounts) one c.in-Some.ensures.sound) in
    record {
      read = put ∙ read_more reading c.args.batch.now c.loop-at.at c.message.result.now c.loop-at.readings.items one within c.message.ensures.bytes is so_far.read;
      sound = subst (λ (rs : List (Result Pay NoPay)). All (IsSoundReading accounts) rs) (sym put) all;
      room = omega (arith, room, capacity);
    }
