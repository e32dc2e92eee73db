use Rattle.std.proofs.Common.{arith}
use Rattle.fin_fields.proofs.laws.Bounds.{lines_few}
use Rattle.mt940_out.proofs.note.fields_in.Goals as goal

pub cut_lines-requires : goal.cut_lines-requires
cut_lines-requires c = omega (arith, c.requires, lines_few c.args.text.now)
