-- The replies of all messages, from what was made of each.
use Rattle.std.specs.Prelude.{ℕ, All, List, Option, None, Some}
use Rattle.corr_text.specs.Faults.{Rose}
use Rattle.corr_top.specs.declared.answers.BookStop.{BookStop}
use Rattle.corr_top.specs.declared.answers.BookStop.TheVariants as booking
use Rattle.corr_top.specs.declared.desk.Halt.TheVariants as halt
use Rattle.corr_top.specs.declared.desk.Served.{Served}
use Rattle.corr_top.specs.declared.desk.Served.TheVariants as served
use Rattle.corr_top.specs.inner.Serving.{IsFirstFailed, IsFirstFull, IsTried}

-- the fault that a message tells, where it says that the disk failed over its pay
abbrev pub disk_fault_of : Served → Option BookStop
disk_fault_of (served.Stopped (halt.Disk before after)) = Some (booking.DiskFault before after)
disk_fault_of (served.Stopped halt.Broken) = None
disk_fault_of (served.Stopped halt.Memory) = None
disk_fault_of (served.Full entries end need) = None
disk_fault_of (served.Reply told) = None

-- a count of faults has not risen
abbrev pub IsCalm : ℕ → ℕ → Type 0
IsCalm before after = Rose before after → ⊥

-- Why not each message has a reply: the disk's count of faults has risen, and the first message that says so tells these numbers; or it
-- hasn't, this is the first that found no room, and each other one has a reply or found none; or memory ran out.
abbrev pub StopsAsServed : ℕ → ℕ → List Served → BookStop → Type 0
StopsAsServed before after made (booking.DiskFault then now) = Rose before after × IsFirstFailed made then now
StopsAsServed before after made (booking.Full entries end need) = IsCalm before after × IsFirstFull made entries end need × All IsTried made
StopsAsServed before after made booking.Memory = Unit {0}
