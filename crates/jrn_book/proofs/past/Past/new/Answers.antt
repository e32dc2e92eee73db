use Rattle.std.proofs.Common.{List, length, ap, ◌∙◌, subst, sym}
use Rattle.day_model.specs.declared.entry.Entry.{Entry}
use Rattle.day_model.specs.Chart.{accounts_of}
use Rattle.day_model.specs.Totals.{HasTotals, Pair}
use Rattle.day_model.proofs.laws.Histories.{has_none}
use Rattle.jrn_book.specs.declared.version.Version.TheVariants.{Two}
use Rattle.jrn_book.specs.Index.{references_of}
use Rattle.jrn_book.specs.Journal.{IsJournal}
use Rattle.jrn_book.proofs.laws.Journals.{empty_journal}
use Rattle.jrn_book.proofs.past.Past.new.Goals as goal

pub invariant_of-result : goal.invariant_of-result
invariant_of-result c =
    let accounts = c.args.accounts in
    let count = length (accounts_of accounts) in
    let items = c.in_ok-pairs.ensures in
    let Totals : List Pair × List Entry → Type 0 = λ x. HasTotals x.0 count x.1 in (
      subst (IsJournal accounts) (sym c.new.ensures) (empty_journal Two accounts c.requires),
      subst Totals (λ i. (sym items i, sym c.new.ensures i)) (has_none count),
      c.new-2.ensures ∙ ap references_of (sym c.new.ensures),
    )
