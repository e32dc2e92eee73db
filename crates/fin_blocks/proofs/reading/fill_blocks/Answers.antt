use Rattle.std.proofs.lemmas.Result.{on_ok_weaker}
use Rattle.fin_blocks.proofs.laws.Named.{blocks-named}
use Rattle.fin_blocks.proofs.laws.Sizes.{text_bytes, text_lines}
use Rattle.fin_blocks.proofs.reading.fill_blocks.Goals as goal

pub returns-clause-lines : goal.returns-clause-lines
returns-clause-lines c = on_ok_weaker c.fill.result (text_lines c.args.m.now c.fill.new.blocks) c.fill.ensures.value

pub returns-clause-bytes : goal.returns-clause-bytes
returns-clause-bytes c = on_ok_weaker c.fill.result (text_bytes c.args.m.now c.fill.new.blocks) c.fill.ensures.value

pub returns-clause-names : goal.returns-clause-names
returns-clause-names c = on_ok_weaker c.fill.result (blocks-named c.args.m.now c.fill.new.blocks) c.fill.ensures.value
