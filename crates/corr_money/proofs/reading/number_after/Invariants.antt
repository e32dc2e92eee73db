use Rattle.std.proofs.Common.{◌≡◌, take}
use Rattle.std.specs.Str.Parse.{digits_value_after}
use Rattle.corr_money.proofs.reading.number_after.Given as goal

-- n is the number of the digits so far
abbrev pub invariant-loop-c : goal.invariant-loop-c
invariant-loop-c l = l.n ≡ digits_value_after 10 l.before (take l.c-index l.b)
