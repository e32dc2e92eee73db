use Rattle.std.proofs.Common.{[], refl, arith}
use Rattle.fin_frame.specs.File.IsFileOf.{start as file_start}
use Rattle.fin_frame.proofs.pieces.PieceCutter.new.Goals as goal

pub returns-clause-made : goal.returns-clause-made
returns-clause-made c = record { gap = []; is = file_start (refl, omega arith); fed = refl; begun = refl; marked = refl; apart = refl }
