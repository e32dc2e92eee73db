-- The message file: its messages, or its first fault.
use Rattle.std.specs.Prelude.{ℕ, ◌≡◌, ◌+◌, ◌≤◌, ◌<◌, ◌⊎◌, List, [], ◌∷◌, ◌++◌, length}
use Rattle.fin_frame.specs.File.{IsCutInto}
use Rattle.fin_frame.specs.Shown.{EndsWithin, HasBegun, HaveBegun, ShowsNoFault, Shows}
use Rattle.fin_frame.specs.declared.fault.FrameFault.{FrameFault}
use Rattle.fin_frame.specs.declared.fault.FrameFault.TheVariants as frame
use Rattle.corr_top.specs.declared.cutting.FileStop.{FileStop}
use Rattle.corr_top.specs.declared.cutting.FileStop.TheVariants as file

-- a message file has at most 64 MiB
abbrev pub most_message_bytes : ℕ
most_message_bytes = 67108864

-- and at most so many messages
abbrev pub most_messages : ℕ
most_messages = 50000

-- the bytes pass a limit of the file: they are more than 64 MiB, or a message past the 50,000th has begun in them
abbrev pub IsPast : List ℕ → Type 0
IsPast bytes = (most_message_bytes < length bytes) ⊎ ((n : ℕ) × (most_messages < n) × HasBegun bytes n)

-- the file is these messages, within its limits
pub record IsMessageFile (file : List ℕ) (messages : List (List ℕ)) : Type 0 where
  pub cut : IsCutInto file messages
  pub short : length file ≤ most_message_bytes
  pub few : length messages ≤ most_messages

-- the bytes show no fault and pass no limit
pub record IsPassed (bytes : List ℕ) : Type 0 where
  pub sound : ShowsNoFault bytes
  pub within : IsPast bytes → ⊥

-- The file passes a limit at some byte, up to which nothing is wrong. That is told by how many bytes there are up to and
-- with this one, and how many messages have begun in them.
pub record IsTooLarge (file : List ℕ) (bytes messages : ℕ) : Type 0 where
  pub passed : List ℕ
  pub byte : ℕ
  pub rest : List ℕ
  pub file_is : file ≡ passed ++ byte ∷ rest
  pub before : IsPassed passed
  pub past : IsPast (passed ++ byte ∷ [])
  pub bytes_are : bytes ≡ length passed + 1
  pub begun : HaveBegun (passed ++ byte ∷ []) messages

-- the place of a fault
abbrev pub fault_place : FrameFault → ℕ
fault_place (frame.Stray at) = at
fault_place (frame.TooLong at) = at
fault_place (frame.Unbalanced at) = at
fault_place frame.Memory = 0

-- the bytes show a fault at this place and pass no limit
pub record IsAtFault (bytes : List ℕ) (at : ℕ) : Type 0 where
  pub messages : List (List ℕ)
  pub fault : FrameFault
  pub shown : Shows bytes messages fault
  pub within : IsPast bytes → ⊥
  pub at_is : at ≡ fault_place fault

-- the file can't be cut: some first bytes show a fault at this place and pass no limit
pub record ShowsFault (file : List ℕ) (at : ℕ) : Type 0 where
  pub front : List ℕ
  pub rest : List ℕ
  pub file_is : file ≡ front ++ rest
  pub fault : IsAtFault front at

-- or it ends within a group of the message at this place, and nothing else is wrong
pub record EndsOpen (file : List ℕ) (at : ℕ) : Type 0 where
  pub passed : IsPassed file
  pub ends : EndsWithin file at

-- the file can't be cut, and this place is told: some first bytes show a fault there, or it ends within a group of the message there
abbrev pub IsUncut : List ℕ → ℕ → Type 0
IsUncut file at = ShowsFault file at ⊎ EndsOpen file at

-- how cutting a file stops
abbrev pub StopsCutting : List ℕ → FileStop → Type 0
StopsCutting bytes (file.TooLarge count messages) = IsTooLarge bytes count messages
StopsCutting bytes (file.Framing at) = IsUncut bytes at
StopsCutting bytes (file.Fault before after) = ⊥
StopsCutting bytes file.Memory = Unit {0}
