use Rattle.std.proofs.Common.{◌≡◌, ◌-◌, ◌++◌, take}
use Rattle.corr_report.specs.Lines.{numbered}
use Rattle.day_model.specs.Chart.{accounts_of}
use Rattle.desk_page.specs.Markup.{markup}
use Rattle.desk_page.specs.Nostros.{nostro_if}
use Rattle.desk_page.specs.declared.mark.Piece.TheVariants.{NostrosBegin}
use Rattle.desk_page.proofs.nostros.put_nostros.Given as goal

-- the rows so far
abbrev pub invariant-loop-n : goal.invariant-loop-n
invariant-loop-n l = l.out ≡ (l.fn.out ++ markup NostrosBegin) ++ numbered (nostro_if l.rows) 1 (take (l.n - 1) (accounts_of l.a))
