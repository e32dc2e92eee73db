-- What holds of a comparison: the rule of pairing, each once, and the gaps.
use Rattle.std.proofs.Common.{ℕ, List}
use Rattle.day_model.specs.Balance.{balance_of}
use Rattle.day_model.specs.Chart.{Chart}
use Rattle.day_model.specs.Legal.{IsLegal}
use Rattle.day_model.specs.declared.entry.Entry.{Entry}
use Rattle.mt950.specs.declared.joining.Statement.{Statement}
use Rattle.statement.specs.Legs.{before_day}
use Rattle.statement.specs.Lines.{up_to_day}
use Rattle.statement.specs.inner.Lines.{PlacesFrom}
use Rattle.statement.proofs.laws.Balances.{lines-add}
use Rattle.statement.proofs.laws.Fronts.{whole-front}
use Rattle.statement.proofs.laws.Placing.{places-rise}
use Rattle.reconcile.specs.Bounds.{IsReceived}
use Rattle.reconcile.specs.Comparison.{AddsUp, StandOnce, TakesFirst, compared_of, ours_of}
use Rattle.reconcile.proofs.First.{by-the-rule}
use Rattle.reconcile.proofs.Gaps.{gaps-differ}
use Rattle.reconcile.proofs.Once.{entries-once, lines-once}

module _ (chart : Chart) (entries : List Entry) (n : ℕ) (s : Statement) (legal : IsLegal chart entries) where
  up : PlacesFrom 1 (ours_of chart n entries s)
  up = places-rise chart entries n s.day (whole-front chart entries legal)

  pub takes-first : TakesFirst chart n entries s (compared_of chart entries n s)
  takes-first = by-the-rule 1 (ours_of chart n entries s) s.lines up

  pub stand-once : StandOnce chart n entries s (compared_of chart entries n s)
  stand-once = record { entries_once = entries-once 1 (ours_of chart n entries s) s.lines up; lines_once = lines-once (ours_of chart n entries s) s.lines }

  pub adds-up : IsReceived s → AddsUp chart n entries s (compared_of chart entries n s)
  adds-up received =
      gaps-differ 1 (ours_of chart n entries s) s.lines up (balance_of chart (before_day s.day entries) n) (balance_of chart (up_to_day s.day entries) n) s.opening s.closing (lines-add chart entries n s.day (whole-front chart entries legal)) received.sound.adds
