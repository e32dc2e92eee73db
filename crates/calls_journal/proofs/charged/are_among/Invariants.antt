use Rattle.std.proofs.Common.{◌≡◌, ◌⊎◌, All, take}
use Rattle.day_model.specs.declared.pay.Leg.{Leg}
use Rattle.calls_journal.proofs.charged.are_among.Given as goal

-- the legs so far are of account 1, 2 or 3
abbrev pub invariant-loop-leg : goal.invariant-loop-leg
invariant-loop-leg l = All (λ (leg : Leg). (leg.account.0 ≡ 1) ⊎ (leg.account.0 ≡ 2) ⊎ (leg.account.0 ≡ 3)) (take l.leg-index l.legs)
