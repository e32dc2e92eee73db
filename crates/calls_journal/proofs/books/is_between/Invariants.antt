use Rattle.std.proofs.Common.{◌≡◌, ◌⊎◌, All, take}
use Rattle.day_model.specs.declared.pay.Leg.{Leg}
use Rattle.calls_journal.proofs.books.is_between.Given as goal

-- the legs so far are of account 1 or 2
abbrev pub invariant-loop-leg : goal.invariant-loop-leg
invariant-loop-leg l = All (λ (leg : Leg). (leg.account.0 ≡ 1) ⊎ (leg.account.0 ≡ 2)) (take l.leg-index l.legs)
