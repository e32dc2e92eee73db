-- Rules that say nothing: those of service levels at another 23B, those of whom to tell without an instruction.
use Rattle.std.proofs.Common.{◌≡◌, false, [], None, refl}
use Rattle.std.specs.Prelude.{codes}
use Rattle.std.proofs.lemmas.Bool.{or_parts}
use Rattle.corr_text.specs.First.{first_of}
use Rattle.mt103.specs.declared.message.Mt103.{Mt103}
use Rattle.mt103_rules.specs.Rules.{contact_rules, e01, e02, e03, e04, e05, e07, e10, e44, e45, has_level, is_op, is_standard, level_rules}

-- a transfer without a service level breaks no rule of them
pub no-level : (m : Mt103) → has_level m ≡ false → first_of (level_rules m) ≡ None
unfolding level_rules e01 e02 e03 e04 e05 e07 e10
no-level m none =
    let each = or_parts (is_op m (codes "SPRI")) (is_standard m) none in
    rw (none, each.0, each.1) refl

-- a transfer without an instruction breaks no rule of whom to tell
pub no-instruction : (m : Mt103) → m.instrs ≡ [] → first_of (contact_rules m) ≡ None
unfolding contact_rules e44 e45
no-instruction m none = rw none refl
