use Rattle.std.proofs.Common.{◌≡◌, ◌∙◌, true, false, List, ◌++◌, length, replicate, Err, IsSome, refl, rules, sym, subst, arith}
use Rattle.corr_text.specs.Faults.{Rose}
use Rattle.jrn_file.specs.File.{disk_of}
use Rattle.jrn_book.specs.declared.answer.CommitFault.TheVariants.{Broken}
use Rattle.jrn_book.specs.Answers.{Answer}
use Rattle.jrn_book.specs.Batches.{Stage, is_memory, is_new}
use Rattle.jrn_book.specs.Book.{Book}
use Rattle.jrn_book.specs.inner.CommitsAll.{CommitsAll}
use Rattle.jrn_book.proofs.Batched.{stays}
use Rattle.jrn_book.proofs.Chains.{any_same, chain_broken}
use Rattle.jrn_book.proofs.Commits.{risen}
use Rattle.jrn_book.proofs.book.JrnBook.answer_all.Goals as goal

pub returns-then-is_some-clause-commits : goal.returns-then-is_some-clause-commits
returns-then-is_some-clause-commits g c =
    let D = g.D.Disk in
    let held = g.H.Holder.held c.args.held.now in
    let pays = c.args.pays.items in
    let old : Book g.row.D.Denot = record {
      accounts = c.self.inside.accounts;
      history = c.self.inside.history.entries;
      table = c.self.inside.sides.table;
      file = c.self.inside.file;
      at_open = c.self.inside.at_open;
      failed = c.self.inside.failed;
      room = c.self.inside.room;
    } in
    let failed : IsSome c.self.inside.failed = search rules in
    let rose : Rose c.self.inside.at_open c.faults.result =
    subst (Rose c.self.inside.at_open) (sym c.faults.ensures) (risen c.self.inside.failed c.self.inside.at_open (D.faults (disk_of c.self.inside.file)) failed c.self.invariant.0.counts) in
    let broken : Answer = Err (Broken c.self.inside.at_open c.faults.result) in
    let stage : Stage = record { history = old.history; failed = old.failed; faults = D.faults (disk_of old.file) } in
    let chain = chain_broken old.accounts c.args.day (length pays) old.at_open c.faults.result stage pays failed c.faults.ensures rose in
    let count : c.len.result ≡ length pays = omega (arith, c.args.pays.ok.0, c.len.ensures) in
    let answers : c.answer_each.new.answers.items ≡ replicate (length pays) broken = c.answer_each.ensures.each ∙ (λ i. c.requires.answers i ++ replicate (count i) broken) in
    subst (λ (x : Book g.row.D.Denot × List Answer). CommitsAll D.moment D.left_since D.honest D.faults D.plan x.0 x.0 held held pays c.args.day x.1) (λ i. (c.self.view_is i, sym answers i))
    (stays D.honest D.reads D.may_leave D.moment D.left_since D.faults D.plan g.met.D.Disk.only_now old c.self.invariant.0 held pays c.args.day (replicate (length pays) broken) c.self.inside.room chain
    (any_same is_new (length pays) broken refl) (λ some. absurd (let e : false ≡ true = sym (any_same is_memory (length pays) broken refl) ∙ some in cc)))
