-- What `reconcile` promises.
use Rattle.std.specs.Prelude.{ℕ, List, []}
use Rattle.corr_io.specs.declared.sink.Sink as sinks
use Rattle.mt950.specs.declared.joining.Statement.{Statement}
use Rattle.reconcile.specs.Bounds.{IsReceived}
use Rattle.reconcile.specs.Comparison.{AddsUp, StandOnce, TakesFirst, compared_of}
use Rattle.corr_top.specs.declared.room.Room.{Room}
use Rattle.corr_top.specs.declared.status.Status.{Status}
use Rattle.corr_top.specs.Inputs.{Inputs, tables_in}
use Rattle.corr_top.specs.MessageFile.{IsMessageFile}
use Rattle.corr_top.specs.Reconcile.{break_report}
use Rattle.corr_top.specs.promises.Books.{Wrote}

module _ {S K D : Type 0} (sink : sinks.Ghosts K) (old new : Room S K D) (s : Status) where
  -- the report; and each line takes the first free entry that says the same, stands once, and what is left over is the gap's change. A
  -- statement with which more than 300,000 of our entries would be compared is told as left out (`breaks_of`); none is where each account
  -- and day come once (`NoneLeftOut` of reconcile). `rule` is a law of whatever is compared, by `compared_of`; that the report says just
  -- that is `wrote`
  pub record ReconcilePromise (i : Inputs) : Type 0 where
    pub cut : List (List ℕ)
    pub file : IsMessageFile i.messages cut
    pub wrote : Wrote sink old new s (break_report i.chart i.history (tables_in i) cut) []
    pub rule : (n : ℕ) (t : Statement) → IsReceived t
        → TakesFirst i.chart n i.history t (compared_of i.chart i.history n t) × StandOnce i.chart n i.history t (compared_of i.chart i.history n t)
        × AddsUp i.chart n i.history t (compared_of i.chart i.history n t)
