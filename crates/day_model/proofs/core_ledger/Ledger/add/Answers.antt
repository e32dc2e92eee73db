use Rattle.std.proofs.Common.{List, sym, subst}
use Rattle.day_model.specs.declared.pay.Leg.{Leg}
use Rattle.day_model.specs.CoreLedger.{LedgerState}
use Rattle.day_model.specs.inner.CoreLedger.{CanAddAll}
use Rattle.day_model.proofs.CoreLedgers.{can_add_now}
use Rattle.day_model.proofs.core_ledger.Ledger.add.Goals as goal

pub settle-requires : goal.settle-requires
settle-requires c =
    subst (λ (ls : List Leg). CanAddAll c.self.inside.purses.items ls) (sym c.as_slice.ensures)
    (subst (λ (l : LedgerState). CanAddAll l.purses c.args.pay.now.legs) (sym c.self.view_is)
    (can_add_now c.args.self.now c.args.pay.now c.requires.sound c.requires.fits))
