use Rattle.std.proofs.Common.{◌≡◌, map}
use Rattle.corr_top.specs.Inputs.{opened}
use Rattle.corr_top.proofs.accounts.open_rows.Given as goal

abbrev pub invariant-loop-row : goal.invariant-loop-row
invariant-loop-row l = l.accounts ≡ map opened l.yielded
