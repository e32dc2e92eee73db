use Rattle.std.proofs.Common.{◌≡◌, length}
use Rattle.std.specs.List.{list_all}
use Rattle.corr_text.specs.Lines.{lines_of}
use Rattle.pay_returns.specs.inner.Walking.{is_sound_line}
use Rattle.pay_returns.proofs.first.are_sound_lines.Given as goal

-- all lines are sound exactly where the rest of them are
abbrev pub invariant-loop-rest : goal.invariant-loop-rest
invariant-loop-rest l = list_all is_sound_line (lines_of l.text) ≡ list_all is_sound_line (lines_of l.rest)

abbrev pub decreases-loop-rest : goal.decreases-loop-rest
decreases-loop-rest l = length l.rest
