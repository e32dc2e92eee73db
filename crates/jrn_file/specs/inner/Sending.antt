-- Bytes that go to a disk in pieces of one length, and what a crash leaves meanwhile.
use Rattle.std.specs.Prelude.{◌≡◌, ℕ, ◌+◌, ◌*◌, ◌<◌, Bool, Option, IsTrue, List, [], ◌∷◌, ◌++◌, length, map, take}
use Rattle.corr_disk.specs.Calls.{CallsMade}
use Rattle.corr_disk.specs.Disk.{written, LeavesOnly}
use Rattle.jrn_file.specs.Journal.{after_gates}
use Rattle.jrn_file.specs.Reading.{with_length}
use Rattle.jrn_file.specs.declared.sending.Sender.{Sender}

-- what waits for a piece to be full
abbrev pub waiting : Sender → List ℕ
waiting sender = take sender.filled sender.buffer.items

-- the place on the disk where it goes
abbrev pub place_of : Sender → ℕ
place_of sender = sender.at

-- a sender of pieces of so many bytes, of which fewer wait
pub record SendsBy (piece : ℕ) (sender : Sender) : Type 0 where
  pub size : length sender.buffer.items ≡ piece
  pub few : sender.filled < piece

-- it is new, and its first piece goes to this place
pub record StartsAt (piece at : ℕ) (sender : Sender) : Type 0 where
  pub by : SendsBy piece sender
  pub none : sender.filled ≡ 0
  pub place : sender.at ≡ at

-- a header and records as they are given to it: each after its length, and an open gate in front of each but the header
abbrev pub open_frames : List ℕ → List (List ℕ) → List ℕ
open_frames head records = with_length head ++ after_gates (map (λ r. (1, r)) records)

-- These bytes were given to a sender: of what waited and of them the whole pieces are written, by a call each, and the rest waits.
pub record IsSent (piece : ℕ) (old new : Sender) (bytes : List ℕ) (honest : Bool) (before after : List ℕ) (plan_before plan_after : ℕ → Option Bool) : Type 0 where
  pub sent : List ℕ
  pub pieces : ℕ
  pub is : waiting old ++ bytes ≡ sent ++ waiting new
  pub whole : length sent ≡ pieces * piece
  pub place : place_of new ≡ place_of old + length sent
  pub told : IsTrue honest → after ≡ written (place_of old) sent before
  pub calls : CallsMade pieces plan_before plan_after
  pub by : SendsBy piece new

-- bytes that begin with a closed gate
abbrev pub IsShutFront : List ℕ → Type 0
IsShutFront image = take 1 image ≡ 0 ∷ []

-- a crash leaves bytes that begin with a closed gate
abbrev pub LeavesShut : (List ℕ → Type 0) → Type 0
LeavesShut images = (c : List ℕ) → images c → IsShutFront c

-- it leaves such bytes at each moment since an old one, and now
pub record StaysShut {D : Type 0} (may_leave : D → List ℕ → Type 0) (moment : D → ℕ) (left_since : D → ℕ → List ℕ → Type 0) (old new : D) : Type 0 where
  pub now : LeavesShut (may_leave new)
  pub any_moment : LeavesOnly moment left_since old new IsShutFront
