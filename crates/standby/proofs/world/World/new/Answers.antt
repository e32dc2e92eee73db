use Rattle.std.proofs.Common.{subst, sym}
use Rattle.standby.specs.Worlds.{IsSoundWorld, WorldState, first_state}
use Rattle.standby.proofs.laws.Worlds.{first_sound, runs_sound}
use Rattle.standby.proofs.world.World.new.Goals as goal

pub returns-clause-runs : goal.returns-clause-runs
returns-clause-runs c = runs_sound first_state first_sound

pub invariant_of-result : goal.invariant_of-result
invariant_of-result c = subst (λ (s : WorldState). IsSoundWorld s) (sym c.new.ensures) first_sound
