use Rattle.std.proofs.Common.{◌≡◌, take}
use Rattle.std.specs.List.{list_any}
use Rattle.corr_text.specs.Braces.{is_brace}
use Rattle.corr_text.specs.inner.Braces.{one_if}
use Rattle.corr_text.proofs.brace.has_brace.Given as goal

-- one was found exactly where one is among the bytes so far
abbrev pub invariant-loop-b : goal.invariant-loop-b
invariant-loop-b l = l.found ≡ one_if (list_any is_brace (take l.b-index l.group))
