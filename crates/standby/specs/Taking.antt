-- What the answer to a packet tells, and what it leaves.
use Rattle.std.specs.Prelude.{◌≡◌, ◌≢◌, ◌⊎◌, ℕ, ◌+◌, ◌<◌, ◌≤◌, Bool, true, false, IsTrue, List, [], ◌∷◌, ◌++◌, length, Result, Ok, Err}
use Rattle.corr_text.specs.Faults.{Rose}
use Rattle.corr_disk.specs.Disk.{most_disk_bytes}
use Rattle.jrn_file.specs.Faults.{TellsCounts}
use Rattle.jrn_book.specs.Journal.{file_of}
use Rattle.standby.specs.declared.answer.Took.{Took}
use Rattle.standby.specs.declared.answer.Took.TheVariants.{Added, Skipped}
use Rattle.standby.specs.declared.answer.TakeFault.{TakeFault}
use Rattle.standby.specs.declared.answer.TakeFault.TheVariants.{NotAPacket, NotNext, Full, DiskFault, Broken, Memory}
use Rattle.standby.specs.Held.{ComesNext, Held, MayComeNext, StandsForAll, StandsForHeld, count_of, nothing, journal, records_of}
use Rattle.standby.specs.Packets.{IsNoPacket, IsPacket}
use Rattle.standby.specs.Shipping.{taken_in}

-- there is room for the record in the file; a header has it always
abbrev pub HasRoom : Held → List ℕ → Type 0
HasRoom nothing r = Unit {0}
HasRoom (journal chart history) r = length (file_of chart history) + (length r + 5) ≤ most_disk_bytes

-- there is none: the place of the closed gate, which is the file's last byte, and the bytes that the record and a gate take
abbrev pub IsFull : Held → List ℕ → ℕ → ℕ → Type 0
IsFull nothing r end need = ⊥
IsFull (journal chart history) r end need =
    (end + 1 ≡ length (file_of chart history)) × (need ≡ length r + 6) × (most_disk_bytes < end + need)

-- What the answer to a record with a number tells: of what is held before and after, and of the disk's count of faults before and after.
-- Each case says that those before it in the order don't hold: the record may not stand next, there is no room, the disk failed.
abbrev pub AddShows : Held → ℕ → List ℕ → ℕ → ℕ → Held → Result (Unit {0}) TakeFault → Type 0
AddShows held number r old new after (Ok done) = ComesNext held r after × HasRoom held r × (new ≡ old)
AddShows held number r old new after (Err NotAPacket) = ⊥
AddShows held number r old new after (Err (NotNext n)) = (n ≡ number) × (MayComeNext held r → ⊥) × (new ≡ old) × (after ≡ held)
AddShows held number r old new after (Err (Full end need)) = MayComeNext held r × IsFull held r end need × (new ≡ old) × (after ≡ held)
AddShows held number r old new after (Err (DiskFault from to)) =
    MayComeNext held r × HasRoom held r × TellsCounts old from to new × (after ≡ held)
AddShows held number r old new after (Err (Broken from now)) = ⊥
AddShows held number r old new after (Err Memory) = (new ≡ old) × (after ≡ held)

-- What the answer to a packet tells, of a follower whose disk failed before or not. Each case says that those before it in the order
-- don't hold: the disk failed before, the bytes aren't one packet, its number isn't the next one, and then as above.
abbrev pub TakeShows : Held → Bool → ℕ → ℕ → ℕ → List ℕ → Held → Result Took TakeFault → Type 0
TakeShows held broken at_open old new packet after (Err (Broken from now)) =
    IsTrue broken × (from ≡ at_open) × (now ≡ new) × Rose from now × (new ≡ old) × (after ≡ held)
TakeShows held broken at_open old new packet after (Err NotAPacket) = (broken ≡ false) × IsNoPacket packet × (new ≡ old) × (after ≡ held)
TakeShows held broken at_open old new packet after (Ok (Skipped have)) =
    (broken ≡ false) × (number : ℕ) × (r : List ℕ) × IsPacket packet number r × (number ≢ count_of held + 1) × (have ≡ count_of held)
    × (new ≡ old) × (after ≡ held)
TakeShows held broken at_open old new packet after (Ok (Added have)) =
    (broken ≡ false) × (r : List ℕ) × IsPacket packet have r × (have ≡ count_of held + 1) × AddShows held have r old new after (Ok tt)
TakeShows held broken at_open old new packet after (Err (NotNext number)) =
    (broken ≡ false) × (r : List ℕ) × IsPacket packet number r × (number ≡ count_of held + 1) × AddShows held number r old new after (Err (NotNext number))
TakeShows held broken at_open old new packet after (Err (Full end need)) =
    (broken ≡ false) × (r : List ℕ) × IsPacket packet (count_of held + 1) r × AddShows held (count_of held + 1) r old new after (Err (Full end need))
TakeShows held broken at_open old new packet after (Err (DiskFault from to)) =
    (broken ≡ false) × (r : List ℕ) × IsPacket packet (count_of held + 1) r × AddShows held (count_of held + 1) r old new after (Err (DiskFault from to))
TakeShows held broken at_open old new packet after (Err Memory) = (broken ≡ false) × (new ≡ old) × (after ≡ held)

-- the disk failed
abbrev pub is_disk_fault : TakeFault → Bool
is_disk_fault NotAPacket = false
is_disk_fault (NotNext number) = false
is_disk_fault (Full end need) = false
is_disk_fault (DiskFault from to) = true
is_disk_fault (Broken from now) = false
is_disk_fault Memory = false

-- whether the disk failed before, or in this call
abbrev pub broken_after : {A : Type 0} → Bool → Result A TakeFault → Bool
broken_after broken (Ok done) = broken
broken_after broken (Err (DiskFault from to)) = true
broken_after broken (Err _) = broken

-- the answer leaves all as it was: it adds nothing, and the disk didn't fail
abbrev pub leaves_all : Result Took TakeFault → Bool
leaves_all (Ok (Added have)) = false
leaves_all (Ok (Skipped have)) = true
leaves_all (Err (DiskFault from to)) = false
leaves_all (Err _) = true

-- the bytes stand for what is held, or for it with the record of this packet, which has the next number and may stand next
abbrev pub IsBeforeOrTaken : Held → List ℕ → List ℕ → Type 0
IsBeforeOrTaken held packet image =
    StandsForHeld held image
    ⊎ ((r : List ℕ) × IsPacket packet (count_of held + 1) r × MayComeNext held r × StandsForAll (records_of held ++ r ∷ []) image)

-- the packet made of what was held what a packet of its number and its record makes of it
pub record Ships (held : Held) (packet : List ℕ) (after : Held) : Type 0 where
  pub number : ℕ
  pub body : List ℕ
  pub is : IsPacket packet number body
  pub taken : records_of after ≡ taken_in (records_of held) (record { number = number; body = body })
