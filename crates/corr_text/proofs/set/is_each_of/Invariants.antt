use Rattle.std.proofs.Common.{◌≡◌, ◌&&◌, drop}
use Rattle.std.specs.List.{list_all}
use Rattle.corr_text.specs.Sets.{is_in}
use Rattle.corr_text.proofs.set.is_each_of.Given as goal

-- what is left decides with what was tested
abbrev pub invariant-loop-b : goal.invariant-loop-b
invariant-loop-b l = (l.all && list_all (is_in l.set) (drop l.b-index l.text)) ≡ list_all (is_in l.set) l.text
