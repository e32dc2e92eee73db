use Rattle.std.proofs.Common.{subst}
use Rattle.standby.specs.Worlds.{KeepsConfirmed, KeepsLeader, RunsAreSound, WorldState}
use Rattle.standby.proofs.laws.Worlds.{answer_keeps, answer_leads, answer_sound, runs_sound}
use Rattle.standby.proofs.world.World.step.Goals as goal

pub invariant_of-self : goal.invariant_of-self
invariant_of-self c = answer_sound c.self.inside.stage c.apply.new.self c.args.e.now c.self.invariant c.apply.result c.apply.ensures.ok c.apply.ensures.err

pub returns-clause-runs : goal.returns-clause-runs
returns-clause-runs c = subst (λ (s : WorldState). RunsAreSound s) c.self.view_is (runs_sound c.self.inside.stage c.self.invariant)

pub returns-clause-confirmed : goal.returns-clause-confirmed
returns-clause-confirmed c =
    subst (λ (s : WorldState). KeepsConfirmed s c.apply.new.self) c.self.view_is
    (answer_keeps c.self.inside.stage c.apply.new.self c.args.e.now c.self.invariant c.apply.result c.apply.ensures.ok c.apply.ensures.err)

pub returns-clause-leader : goal.returns-clause-leader
returns-clause-leader c =
    subst (λ (s : WorldState). KeepsLeader s c.apply.new.self) c.self.view_is
    (answer_leads c.self.inside.stage c.apply.new.self c.args.e.now c.self.invariant c.apply.result c.apply.ensures.ok c.apply.ensures.err)
