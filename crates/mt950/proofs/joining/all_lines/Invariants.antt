use Rattle.std.proofs.Common.{◌≡◌, take}
use Rattle.mt950.specs.Joining.{lines_of_pages}
use Rattle.mt950.proofs.joining.all_lines.Given as goal

abbrev pub invariant-loop-page : goal.invariant-loop-page
invariant-loop-page l = l.lines ≡ lines_of_pages (take l.page-index l.pages)
