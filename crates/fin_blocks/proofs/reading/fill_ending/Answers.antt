use Rattle.std.proofs.Common.{◌≡◌, length, sym, ap, ◌∙◌}
use Rattle.std.specs.Prelude.{Some}
use Rattle.std.proofs.lemmas.Grind.{common_steps}
use Rattle.std.proofs.Common.{arith}
use Rattle.fin_blocks.specs.Blocks.{ending_of}
use Rattle.fin_blocks.proofs.Pieces.{groups-none}
use Rattle.fin_blocks.proofs.reading.fill_ending.Goals as goal

pub returns-then-is_empty : goal.returns-then-is_empty
unfolding ending_of
returns-then-is_empty c =
    let none : length c.args.bytes.now ≡ 0 = grind (arith, common_steps) in
    ap ending_of (groups-none c.args.bytes.now none) ∙ ap Some (sym c.clear.ensures)
