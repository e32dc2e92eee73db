use Rattle.std.proofs.Common.{◌≡◌, ◌∙◌, List, length, ap, arith, subst, sym}
use Rattle.day_model.specs.declared.entry.Entry.{Entry}
use Rattle.day_model.specs.Chart.{Chart}
use Rattle.jrn_book.specs.Journal.{IsJournal}
use Rattle.corr_books.specs.Closing.{LeavesClosed, LeavesInTurn}
use Rattle.corr_books.proofs.Closes.{closes, in_turn, leaves}
use Rattle.corr_books.proofs.closing.finish.Goals as goal

pub take_all-requires-clause-passes : goal.take_all-requires-clause-passes
take_all-requires-clause-passes g c = λ k p at. (c.requires.passes k p at).table ∙ sym c.requires.front

pub returns-clause-closes : goal.returns-clause-closes
returns-clause-closes g c =
    let o = g.N.BooksName.opening in
    let parts = c.into_parts-accounts.ensures in
    let count : length c.args.passes.items ≡ o.made = omega (arith, c.args.passes.ok.0, c.requires.count) in
    closes g.D.Disk o g.N.BooksName.past g.N.Name.table record { book = c.stand.inside.book; writer = c.stand.inside.writer; day = c.stand.inside.day } c.take_all.new.writer c.args.passes.items
    c.into_parts-accounts.result.1.entries (g.D.Disk.faults c.into_parts-accounts.result.2) c.stand.invariant c.take_all.ensures c.requires.passes count parts.history parts.legal (ap g.D.Disk.faults parts.disk)

pub returns-clause-journal : goal.returns-clause-journal
returns-clause-journal g c =
    let parts = c.into_parts-accounts.ensures in
    subst (λ (x : Chart × List Entry). IsJournal x.0 x.1) (λ i. (sym parts.accounts i, sym parts.history i)) parts.journal

pub returns-clause-disk : goal.returns-clause-disk
returns-clause-disk g c =
    let o = g.N.BooksName.opening in
    let D = g.D.Disk in
    let book = c.stand.inside.book in
    let parts = c.into_parts-accounts.ensures in
    subst (λ (x : List Entry × g.row.D.Denot). LeavesClosed D o x.0 x.1) (λ i. (sym parts.history i, sym parts.disk i))
    (leaves D o book.file book.accounts book.history book.at_open book.failed c.stand.invariant.failed c.stand.invariant.at_open c.stand.invariant.accounts parts.stands c.stand.invariant.counts)

pub returns-clause-any_moment : goal.returns-clause-any_moment
returns-clause-any_moment g c =
    let o = g.N.BooksName.opening in
    let past = g.N.BooksName.past in
    let D = g.D.Disk in
    let stand = c.stand.invariant in
    let book = c.stand.inside.book in
    let parts = c.into_parts-accounts.ensures in
    subst (λ (x : List Entry × g.row.D.Denot). LeavesInTurn D o past x.0 x.1) (λ i. (sym parts.history i, sym parts.disk i))
    (in_turn D o past book.file.disk book.history book.at_open book.failed stand.failed stand.at_open stand.counts stand.crash)
