-- The taking of packets.
use Rattle.std.proofs.Common.{ℕ, List, refl, sym, ◌∙◌, subst}
use Rattle.standby.specs.declared.answer.TakeFault.{TakeFault}
use Rattle.standby.specs.declared.answer.TakeFault.TheVariants as taking
use Rattle.standby.specs.declared.packet.Packet.{Packet}
use Rattle.standby.specs.Held.{Held}
use Rattle.corr_top.specs.Followed.{IsTakeable}
use Rattle.corr_top.specs.Steps.{Step}
use Rattle.corr_top.specs.Stops.{status_of_taking}
use Rattle.corr_top.proofs.FollowedDisk.{taking_memory}
use Rattle.corr_top.proofs.Walking.{walked}
use Rattle.corr_top.proofs.steps.Laws.{Agrees, IsStop, StepLaws}

taking_line : (entries : ℕ) (stop : TakeFault) → IsStop (status_of_taking entries stop)
taking_line entries taking.NotAPacket = record { line = tt; silent = refl }
taking_line entries (taking.NotNext number) = record { line = tt; silent = refl }
taking_line entries (taking.Full end need) = record { line = tt; silent = refl }
taking_line entries (taking.DiskFault before after) = record { line = tt; silent = refl }
taking_line entries (taking.Broken at_open now) = record { line = tt; silent = refl }
taking_line entries taking.Memory = record { line = tt; silent = refl }

pub of_take : StepLaws Step.take
of_take = record {
  agrees = λ x ready passes. tt;
  memory = λ x s done after all ready stops.
      let held = walked (Agrees x.read x.told) done Step.begin all after.0 in
      let packets = walked (Agrees x.read x.told) done Step.packets all after.1 in
      let may = subst (λ (v : Held × List Packet). IsTakeable v.0 v.1) (λ k. (sym held k, sym packets k)) ready.1 in
      stops.2 ∙ taking_memory x.disk x.old.disk x.new.disk x.read.held x.read.packets stops.0 stops.1 ready.0 may stops.3;
  line = λ x s stops. subst IsStop (sym stops.2) (taking_line stops.1 stops.0);
}
