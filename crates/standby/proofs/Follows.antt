-- A follower after a packet.
use Rattle.std.proofs.Common.{◌≡◌, ℕ, Bool, true, false, List, refl}
use Rattle.std.specs.Prelude.{Result, Err}
use Rattle.standby.specs.declared.answer.Took.{Took}
use Rattle.standby.specs.declared.answer.TakeFault.{TakeFault}
use Rattle.standby.specs.declared.answer.TakeFault.TheVariants.{NotAPacket, NotNext, Full, DiskFault, Broken, Memory}
use Rattle.standby.specs.declared.place.Place.{Place}
use Rattle.standby.specs.Following.{Following, IsFollowing, IsKept, disk_in, held_in}
use Rattle.standby.specs.Held.{IsHeld}
use Rattle.standby.specs.Taking.{TakeShows, broken_after, is_disk_fault, leaves_all}
use Rattle.standby.proofs.Takes.{counts-after, same-after}

-- whether the disk failed in this call
pub broken-now : (fault : TakeFault) → broken_after {A = Took} false (Err fault) ≡ is_disk_fault fault
broken-now NotAPacket = refl
broken-now (NotNext number) = refl
broken-now (Full end need) = refl
broken-now (DiskFault from to) = refl
broken-now (Broken from now) = refl
broken-now Memory = refl

module _ {D : Type 0} (honest : D → Bool) (reads : D → List ℕ) (may_leave : D → List ℕ → Type 0) (faults : D → ℕ) where
  -- what holds of a follower whose disk hadn't failed, after the answer
  pub following-after : (place new : Place D) (at_open : ℕ) (packet : List ℕ) (answer : Result Took TakeFault) → IsFollowing honest reads may_leave faults place at_open false
      → TakeShows (held_in place) false 0 (faults (disk_in place)) (faults (disk_in new)) packet (held_in new) answer → IsHeld (held_in new)
      → (broken_after false answer ≡ false → IsKept honest reads may_leave new) → IsFollowing honest reads may_leave faults new at_open (broken_after false answer)
  following-after place new at_open packet answer before shows good kept = record {
    good = good;
    kept = kept;
    counts = counts-after (held_in place) at_open (faults (disk_in place)) (faults (disk_in new)) packet (held_in new) answer before.counts shows;
  }

-- an answer that leaves all as it was
pub nothing-new : {D : Type 0} (place new : Place D) (at_open old now : ℕ) (packet : List ℕ) (answer : Result Took TakeFault) (broken : Bool) → leaves_all answer ≡ true
    → TakeShows (held_in place) false 0 old now packet (held_in new) answer → disk_in new ≡ disk_in place → broken ≡ false
    → ◌≡◌ {A = Following D} (record { held = held_in new; disk = disk_in new; at_open = at_open; broken = broken }) (record { held = held_in place; disk = disk_in place; at_open = at_open; broken = false })
nothing-new place new at_open old now packet answer broken leaves shows same whole =
    let held = same-after (held_in place) old now packet (held_in new) answer leaves shows in
    λ i. record { held = held i; disk = same i; at_open = at_open; broken = whole i }
