-- What the answer to a packet tells, and what it leaves.
use Rattle.std.specs.Prelude.{◌≡◌, ℕ, List}
use Rattle.jrn_file.specs.declared.fault.MakeFault.{MakeFault}
use Rattle.jrn_file.specs.declared.fault.MakeFault.TheVariants as making
use Rattle.standby.specs.declared.answer.TakeFault.{TakeFault}
use Rattle.standby.specs.declared.answer.TakeFault.TheVariants.{NotAPacket, NotNext, Full, DiskFault, Broken, Memory}
use Rattle.standby.specs.Held.{Held, MayComeNext}

-- why a record was refused before anything was written: it may not stand next; out of memory tells nothing
abbrev pub RefusesRecord : Held → ℕ → List ℕ → TakeFault → Type 0
RefusesRecord held number r NotAPacket = ⊥
RefusesRecord held number r (NotNext n) = (n ≡ number) × (MayComeNext held r → ⊥)
RefusesRecord held number r (Full end need) = ⊥
RefusesRecord held number r (DiskFault from to) = ⊥
RefusesRecord held number r (Broken from now) = ⊥
RefusesRecord held number r Memory = Unit {0}

-- the fault that it is to a follower that a journal wasn't made; none was there before
abbrev pub fault_of : MakeFault → TakeFault
fault_of (making.Exists first) = Memory
fault_of (making.Full end need) = Memory
fault_of (making.DiskFault before after) = DiskFault before after
fault_of making.Memory = Memory
