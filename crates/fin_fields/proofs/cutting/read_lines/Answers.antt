use Rattle.std.proofs.Common.{sym}
use Rattle.fin_fields.specs.Headings.{heading_in}
use Rattle.fin_fields.proofs.Plain.{content-of-x}
use Rattle.fin_fields.proofs.cutting.read_lines.Goals as goal

pub begin_field-begun-requires : goal.begin_field-begun-requires
begin_field-begun-requires c = λ plain. content-of-x c.next_line-first.result.line.now (heading_in c.in-Some.heading) (sym c.in-Some.ensures) (c.next_line-first.ensures.plain plain).1
