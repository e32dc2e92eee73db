use Rattle.std.proofs.Common.{◌≡◌, ◌-◌, ◌∙◌, length, refl, arith}
use Rattle.std.specs.Fmt.{decimal}
use Rattle.corr_report.proofs.words.plain.Goals as goal

pub returns : goal.returns
returns c = let none : 0 - length (decimal c.args.n) ≡ 0 = omega arith in c.padded.ensures ∙ rw none refl
