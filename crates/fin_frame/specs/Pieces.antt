-- A file in pieces, each behind what was left of the one before: the messages in a piece, by their places, and what is left of it.
use Rattle.std.specs.Prelude.{◌≡◌, ◌<◌, ◌≤◌, ◌⊎◌, ℕ, ◌+◌, Bool, true, false, List, ◌++◌, length, take, drop, map}
use Rattle.fin_frame.specs.File.{lead, agrees, most_bytes, IsFileOf, IsCutInto}
use Rattle.fin_frame.specs.Shown.{Shows, ShowsNoFault, AreWhole, EndsWithin, is_marked, stands_apart}
use Rattle.fin_frame.specs.declared.fault.FrameFault.{FrameFault}
use Rattle.fin_frame.specs.declared.pieces.PieceCutter.{PieceCutter}
use Rattle.fin_frame.specs.declared.place.Place.{Place}

-- the bytes at a place of a piece
abbrev pub at_place : List ℕ → Place → List ℕ
at_place piece place = take place.len (drop place.from piece)

-- the bytes at these places
abbrev pub at_places : List ℕ → List Place → List (List ℕ)
at_places piece places = map (at_place piece) places

-- The cutter has taken these bytes, a file of these messages, and gave their places.
pub record HasTakenFile (c : PieceCutter) (file : List ℕ) (messages : List (List ℕ)) : Type 0 where
  pub gap : List ℕ
  pub is : IsFileOf file messages gap
  pub fed : c.fed ≡ length file
  pub begun : c.begun ≡ length messages
  pub marked : c.marked ≡ is_marked messages gap
  pub apart : c.apart ≡ stands_apart messages gap

-- the bytes show a fault, or are the last and end within a group
abbrev pub IsFaulty : Bool → List ℕ → Type 0
IsFaulty last bytes = ((messages : List (List ℕ)) × (fault : FrameFault) × Shows bytes messages fault) ⊎ ((last ≡ true) × (at : ℕ) × EndsWithin bytes at)

-- the bytes are a file of these messages, where they are the last; else they show no fault, and these are the messages that they
-- show to be whole
abbrev pub AreAll : Bool → List ℕ → List (List ℕ) → Type 0
AreAll true bytes messages = IsCutInto bytes messages
AreAll false bytes messages = ShowsNoFault bytes × AreWhole bytes messages

-- All that there is of a piece behind this file of messages was found, at these places: n of its bytes were taken, and what is left
-- may begin a message, and is less than a message and a `{1:` after it.
pub record HasAll (last : Bool) (file : List ℕ) (messages : List (List ℕ)) (piece : List ℕ) (places : List Place) (n : ℕ) : Type 0 where
  pub all : AreAll last (file ++ piece) (messages ++ at_places piece places)
  pub left : agrees lead (drop n piece) ≡ true
  pub short : length (drop n piece) < most_bytes + 3

-- the place stands in so many bytes
abbrev pub IsPlaceIn : ℕ → Place → Type 0
IsPlaceIn size place = place.from + place.len ≤ size
