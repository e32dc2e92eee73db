-- The counts that a cutter keeps.
use Rattle.std.specs.Prelude.{ℕ, Bool, true, ◌&&◌, nat_le, nat_lt}
use Rattle.fin_frame.specs.declared.stage.Stage.{Stage}
use Rattle.fin_frame.specs.declared.stage.Stage.TheVariants.{Between, Opening, Within, After}

-- what a place says fits how many bytes were fed
abbrev pub is_tidy : Stage → ℕ → Bool
is_tidy (Between marked) fed = true
is_tidy (Opening matched) fed = nat_le matched 2 && nat_le matched fed
is_tidy (Within from d) fed = nat_lt 0 d && nat_le d fed
is_tidy (After from matched) fed = nat_le matched 2 && nat_le matched fed
