use Rattle.std.proofs.Common.{◌≡◌, List, length, sym, ap, ◌∙◌, subst, arith}
use Rattle.std.specs.Prelude.{slice_get}
use Rattle.std.proofs.lemmas.List.{length-map}
use Rattle.corr_books.specs.Closing.{Closes}
use Rattle.corr_books.specs.Passes.{Belongs}
use Rattle.front_word.specs.Known.{PassKnows}
use Rattle.corr_top.specs.inner.Workers.{Worker}
use Rattle.corr_top.proofs.Batches.{unmapped}
use Rattle.corr_top.proofs.serving.close_desk.Goals as goal

pub close_all-requires-clause-passes : goal.close_all-requires-clause-passes
close_all-requires-clause-passes g c k p at =
    let u = unmapped (λ (w : Worker). w.pass) c.args.workers.items k p (ap (λ (ps : List PassKnows). slice_get ps k) (sym c.vacate.ensures) ∙ at) in
    subst (Belongs g.N.BooksName.opening) u.2 (c.requires.passes k u.0 u.1)

pub close_all-requires-clause-all : goal.close_all-requires-clause-all
close_all-requires-clause-all g c =
    let given : length c.vacate.new.passes.items ≡ length c.args.workers.items = ap length c.vacate.ensures ∙ length-map c.args.workers.items (λ (w : Worker). w.pass) in
    omega (arith, given, c.requires.all)

pub returns-clause-closes : goal.returns-clause-closes
returns-clause-closes g c =
    let closed = c.close_all.result in
    subst (λ (ps : List PassKnows). Closes g.N.BooksName.opening closed.history.entries (g.D.Disk.faults closed.disk) ps) c.vacate.ensures c.close_all.ensures.closes
