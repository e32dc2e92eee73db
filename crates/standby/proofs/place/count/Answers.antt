use Rattle.std.proofs.Common.{◌∙◌, length, ap, arith}
use Rattle.day_model.specs.Chart.{Chart}
use Rattle.jrn_book.proofs.laws.Items.{records_count}
use Rattle.standby.proofs.place.count.Goals as goal

pub total-requires-clause-changes : goal.total-requires-clause-changes
total-requires-clause-changes c =
    omega (arith, c.history.ensures.legal.changes.few, ap length (c.changes.ensures ∙ ap (λ (x : Chart). x.changes) c.accounts.ensures.value))

pub returns : goal.returns
returns c =
    omega (
      arith,
      records_count c.args.past.now.accounts c.args.past.now.history c.history.ensures.legal,
      c.total.ensures,
      c.len.ensures.count,
      ap length (c.changes.ensures ∙ ap (λ (x : Chart). x.changes) c.accounts.ensures.value),
      ap length c.history.ensures.value,
    )
