use Rattle.std.proofs.Common.{◌≡◌, ◌∙◌, refl, sym}
use Rattle.jrn_codec.specs.declared.fault.EntryFault.TheVariants as faults
use Rattle.standby.proofs.Takes.{no-head-next}
use Rattle.standby.proofs.making.read_first.Goals as goal

pub returns-in-Err-NoEntry-clause-refused : goal.returns-in-Err-NoEntry-clause-refused
returns-in-Err-NoEntry-clause-refused c = (
  refl,
  λ may. no-head-next c.args.head.now may.0
      (λ chart is same.
      let other : faults.NoEntry ≡ faults.Memory = sym c.in-Err-NoEntry.field-0-is ∙ c.in-Err-NoEntry.ensures.only chart is same in
      absurd (cc other)) may.1,
)
