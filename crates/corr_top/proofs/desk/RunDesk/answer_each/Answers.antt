use Rattle.std.proofs.Common.{◌≡◌, ℕ, ◌-◌, ◌++◌, List, Option, Some, length, map, take, sym, ap, ◌∙◌, subst, arith}
use Rattle.std.proofs.lemmas.List.{length-map}
use Rattle.front_word.specs.Known.{PassKnows}
use Rattle.corr_top.specs.declared.desk.Halt.{Halt}
use Rattle.corr_top.specs.declared.desk.Halt.TheVariants as halt
use Rattle.corr_top.specs.declared.desk.Served.{Served}
use Rattle.corr_top.specs.inner.Batching.{ServesInTurn, halt_after, stopped_so, why_of}
use Rattle.corr_top.specs.Message.{pay_asked_of, readings_of}
use Rattle.corr_top.specs.inner.Workers.{Worker}
use Rattle.corr_top.proofs.Batched.{front_served, no_lists}
use Rattle.corr_top.proofs.desk.RunDesk.answer_each.Goals as goal

-- there was no memory for the list of the batch
pub returns-in_default-clause-served : goal.returns-in_default-clause-served
returns-in_default-clause-served g c =
    let o = g.N.BooksName.opening in
    let messages = c.args.batch.now in
    let reading = pay_asked_of c.args.self.now.directory.now o.accounts in
    let all = readings_of c.args.self.now.directory.now o.accounts messages in
    let long : length all ≡ length messages = length-map messages reading in
    let count : length all ≡ c.len-count.result = long ∙ sym c.len-count.ensures.count in
    let here = no_lists o all c.args.pass.now.pass (let some = c.len-count.ensures.batch.some in omega (arith, some, long)) in
    let same : c.args.pass.now.pass ≡ c.pass.inside.pass = sym (ap (λ (w : Worker). w.pass) c.pass.view_is) in
    subst (λ (x : PassKnows × (Option Halt × ℕ)). ServesInTurn o all (record { pass = c.args.pass.now.pass; halted = x.1.0 }) (record { pass = x.0; halted = Some halt.Memory }) (stopped_so x.1.1 halt.Memory))
    (λ i. (same i, (sym c.requires.on i, count i))) here

-- the messages up to one that stops the worker were answered, and what is left is stopped
pub returns-clause-served : goal.returns-clause-served
returns-clause-served g c =
    let o = g.N.BooksName.opening in
    let messages = c.args.batch.now in
    let reading = pay_asked_of c.args.self.now.directory.now o.accounts in
    let front = c.answer_front.new.made.items in
    let left : c.len-count.result - length front ≡ length messages - length front = ap (λ (n : ℕ). n - length front) c.len-count.ensures.count in
    let worker : c.answer_front.new.pass ≡ record { pass = c.pass-2.inside.pass; halted = c.pass-2.inside.halted } = sym c.pass-2.view_is in
    let here = front_served o reading messages (length front) c.args.pass.now c.pass-2.inside.pass c.pass-2.inside.halted front
    (subst (λ (w : Worker). ServesInTurn o (map reading (take (length front) messages)) c.args.pass.now w front) worker c.answer_front.ensures.served) in
    let made : front ++ stopped_so (length messages - length front) (why_of c.pass-2.inside.halted) ≡ c.put_left-pass-inside.new.made.items =
    sym (c.put_left-pass-inside.ensures.made ∙ ap (λ (n : ℕ). front ++ stopped_so n (why_of c.pass-2.inside.halted)) left) in
    let after : halt_after (length messages - length front) c.pass-2.inside.halted ≡ c.put_left-pass-inside.result =
    sym (c.put_left-pass-inside.ensures.halted ∙ ap (λ (n : ℕ). halt_after n c.pass-2.inside.halted) left) in
    subst (λ (x : Option Halt × List Served). ServesInTurn o (map reading messages) c.args.pass.now (record { pass = c.pass-2.inside.pass; halted = x.0 }) x.1) (λ i. (after i, made i)) here
