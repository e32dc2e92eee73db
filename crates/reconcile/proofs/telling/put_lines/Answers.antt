use Rattle.std.proofs.Common.{◌≤◌, ◌++◌, List, map, subst, sym, ◌∙◌}
use Rattle.std.specs.Prelude.{All}
use Rattle.std.proofs.lemmas.Result.{on_ok_weaker}
use Rattle.statement.specs.Lines.{Placed}
use Rattle.statement.specs.inner.Lines.{PlacesFrom}
use Rattle.statement.specs.Running.{placed_by}
use Rattle.statement.proofs.laws.Placing.{places-rise}
use Rattle.reconcile.specs.inner.Bounds.{IsLine}
use Rattle.reconcile.specs.Comparison.{ours_of}
use Rattle.reconcile.specs.Lines.{compared_lines}
use Rattle.reconcile.specs.declared.comparing.Compared.{Compared}
use Rattle.reconcile.proofs.Bounded.{ours-keyed, received-lines}
use Rattle.reconcile.proofs.Printed.{theirs-numbered}
use Rattle.reconcile.proofs.telling.put_lines.Goals as goal

pub put_compared-requires-clause-entries : goal.put_compared-requires-clause-entries
put_compared-requires-clause-entries c =
    let (book, is) = c.requires.book in
    ours-keyed c.args.ix.now c.args.n.0 c.args.s.now book is c.booked_on-entries.result.now (c.booked_on-entries.ensures book is.has)

pub put_compared-requires-clause-rising : goal.put_compared-requires-clause-rising
put_compared-requires-clause-rising c =
    let (book, is) = c.requires.book in
    subst (PlacesFrom 1) (sym (c.booked_on-entries.ensures book is.has)) (places-rise book.chart book.entries c.args.n.0 c.args.s.now.day is.has.is.legal)

pub put_compared-requires-clause-lines : goal.put_compared-requires-clause-lines
put_compared-requires-clause-lines c =
    let (book, is) = c.requires.book in
    subst (All IsLine) (sym c.as_slice.ensures) (received-lines c.args.s.now is.received)

pub put_compared-requires-clause-numbers : goal.put_compared-requires-clause-numbers
put_compared-requires-clause-numbers c =
    let (book, is) = c.requires.book in
    subst (λ (compared : Compared). All (λ number. 1 ≤ number) compared.theirs) (sym (c.in_ok-compared.ensures book is)) (theirs-numbered (ours_of book.chart c.args.n.0 book.entries c.args.s.now) c.args.s.now.lines)

pub returns : goal.returns
returns c =
    let s = c.args.s.now in
    let out = c.args.out.now in
    let entries : List Placed = map placed_by c.booked_on-entries.result.now in
    on_ok_weaker c.put_compared.result (λ put book is.
    put ∙ (λ i. out ++ compared_lines s.decimals (c.booked_on-entries.ensures book is.has i) (c.as_slice.ensures i) (c.in_ok-compared.ensures book is i))) c.put_compared.ensures
