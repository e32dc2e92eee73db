use Rattle.std.proofs.Common.{◌≡◌, ℕ, Some, length, map, sym, ap, ◌∙◌, subst}
use Rattle.std.proofs.lemmas.List.{length-map}
use Rattle.corr_top.specs.inner.Batching.{ServesInTurn, stopped_so}
use Rattle.corr_top.specs.Message.{pay_asked_of}
use Rattle.corr_top.specs.inner.Workers.{Worker}
use Rattle.corr_top.proofs.Batched.{stopped}
use Rattle.corr_top.proofs.desk.RunDeskDesk.serve.Goals as goal

-- a worker that stopped before serves nothing of the batch
pub returns-in-Some-clause-serves : goal.returns-in-Some-clause-serves
returns-in-Some-clause-serves g c =
    let o = g.N.BooksName.opening in
    let reading = pay_asked_of c.args.self.now.directory.now o.accounts in
    let messages = c.args.job.now in
    let worker = c.args.pass.now in
    let why = c.in-Some.why in
    let is : worker.halted ≡ Some why = sym (ap (λ (w : Worker). w.halted) c.pass.view_is) ∙ c.in-Some.is in
    let count : length (map reading messages) ≡ c.len-count.result = length-map messages reading ∙ sym c.len-count.ensures.count in
    subst (λ (n : ℕ). ServesInTurn o (map reading messages) worker worker (stopped_so n why)) count (stopped o (map reading messages) worker why is)
