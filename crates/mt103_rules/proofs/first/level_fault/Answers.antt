use Rattle.std.proofs.Common.{◌∙◌, sym}
use Rattle.mt103_rules.proofs.Silent.{no-level}
use Rattle.mt103_rules.proofs.first.level_fault.Goals as goal

pub returns-then-not-has_level : goal.returns-then-not-has_level
returns-then-not-has_level c = sym (no-level c.args.m.now (sym c.has_level.ensures ∙ c.if-not-has_level.true))
