use Rattle.std.proofs.Common.{◌≡◌, take}
use Rattle.day_model.proofs.listed.Listed.of.Given as goal

abbrev pub invariant-loop-account : goal.invariant-loop-account
invariant-loop-account l = l.listed ≡ take l.account-index l.accounts
