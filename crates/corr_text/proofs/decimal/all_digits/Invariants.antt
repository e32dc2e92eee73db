use Rattle.std.proofs.Common.{◌≡◌, ◌&&◌, drop}
use Rattle.std.specs.Char.{is_ascii_digit}
use Rattle.std.specs.List.{list_all}
use Rattle.corr_text.proofs.decimal.all_digits.Given as goal

-- what is left decides with what was tested
abbrev pub invariant-loop-c : goal.invariant-loop-c
invariant-loop-c l = (l.all && list_all is_ascii_digit (drop l.c-index l.b)) ≡ list_all is_ascii_digit l.b
