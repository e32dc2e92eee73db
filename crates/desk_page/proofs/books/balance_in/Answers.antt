use Rattle.std.proofs.Common.{sym, ◌∙◌, subst, w64}
use Rattle.std.proofs.lemmas.Int.{to_z-of_z}
use Rattle.day_model.specs.Chart.{IsSmall}
use Rattle.desk_page.specs.inner.Books.{chart_in, entries_in}
use Rattle.desk_page.proofs.Balances.{balance_is, balance_small}
use Rattle.desk_page.proofs.books.balance_in.Goals as goal

pub balance_with-requires : goal.balance_with-requires
balance_with-requires c =
    let books = c.args.books in
    subst IsSmall (sym (balance_is (chart_in books) (entries_in books) books.totals.now c.args.n.0 c.get.result.now (0, 0) c.requires.listed c.get.ensures.value c.requires.sound.totals))
    (balance_small (chart_in books) (entries_in books) c.args.n.0 c.get.ensures.sound c.requires.sound.legal c.requires.listed)

pub returns-clause-value : goal.returns-clause-value
returns-clause-value c =
    let books = c.args.books in
    to_z-of_z w64 c.balance_with.result (record { sfits = c.balance_with.type_inv }) ∙ c.balance_with.ensures
    ∙ balance_is (chart_in books) (entries_in books) books.totals.now c.args.n.0 c.get.result.now (0, 0) c.requires.listed c.get.ensures.value c.requires.sound.totals

pub returns-clause-small : goal.returns-clause-small
returns-clause-small c =
    let books = c.args.books in
    let is = to_z-of_z w64 c.balance_with.result (record { sfits = c.balance_with.type_inv }) ∙ c.balance_with.ensures
    ∙ balance_is (chart_in books) (entries_in books) books.totals.now c.args.n.0 c.get.result.now (0, 0) c.requires.listed c.get.ensures.value c.requires.sound.totals in
    subst IsSmall (sym is) (balance_small (chart_in books) (entries_in books) c.args.n.0 c.get.ensures.sound c.requires.sound.legal c.requires.listed)
