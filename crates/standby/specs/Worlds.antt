-- A leader, the packets that it ever sent, and a follower, event by event.
use Rattle.std.specs.Prelude.{◌≡◌, ℕ, ◌+◌, ◌≤◌, ◌&&◌, List, [], ◌∷◌, ◌++◌, length, nat_le, take, if◌then◌else◌}
use Rattle.std.specs.Option.{option_map_or}
use Rattle.standby.specs.declared.packet.Packet.{Packet}
use Rattle.standby.specs.declared.event.WorldEvent.{WorldEvent}
use Rattle.standby.specs.declared.event.WorldEvent.TheVariants.{Add, Send, Deliver, Reopen}
use Rattle.standby.specs.Shipping.{AreSentBy, IsFrontOf, nth, taken_in}

-- what contracts see of a `World`: the records that the leader acknowledged, the packets that were ever sent, the records of the
-- follower, and how many of them it has confirmed
pub record WorldState : Type 0 where
  pub leader : List (List ℕ)
  pub sent : List Packet
  pub follower : List (List ℕ)
  pub confirmed : ℕ

-- before any event
abbrev pub first_state : WorldState
first_state = record { leader = []; sent = []; follower = []; confirmed = 0 }

-- the leader has acknowledged a record
abbrev pub with_record : WorldState → List ℕ → WorldState
with_record s r = record s { leader = s.leader ++ r ∷ []; confirmed = length s.follower }

-- the packet of the leader's record k was sent
abbrev pub with_packet : WorldState → ℕ → List ℕ → WorldState
with_packet s k r = record s { sent = s.sent ++ record { number = k; body = r } ∷ []; confirmed = length s.follower }

-- the follower took a packet; it has confirmed what it held before
abbrev pub with_delivery : WorldState → Packet → WorldState
with_delivery s packet = record s { follower = taken_in s.follower packet; confirmed = length s.follower }

-- the follower stopped and opened again with its first n records
abbrev pub reopened : WorldState → ℕ → WorldState
reopened s n = if nat_le s.confirmed n && nat_le n (length s.follower) then record s { follower = take n s.follower; confirmed = n } else s

-- One event. One that isn't possible changes nothing: to send the packet of a record that isn't there, to deliver one that wasn't
-- sent, to open again with fewer records than were confirmed or with more than there are.
abbrev pub step_of : WorldState → WorldEvent → WorldState
step_of s (Add r) = with_record s r
step_of s (Send k) = option_map_or (λ r. with_packet s k r) (nth s.leader k) s
step_of s (Deliver n) = option_map_or (λ packet. with_delivery s packet) (nth s.sent n) s
step_of s (Reopen n) = reopened s n

-- events one after another
abbrev pub run_of : WorldState → List WorldEvent → WorldState
run_of s [] = s
run_of s (e ∷ es) = run_of (step_of s e) es

-- The follower's records are the first of the leader's, each packet is of one of them, and of what the follower holds all is confirmed,
-- or all but the last.
pub record IsSoundWorld (s : WorldState) : Type 0 where
  pub front : IsFrontOf s.follower s.leader
  pub sent : AreSentBy s.leader s.sent
  pub confirmed : s.confirmed ≤ length s.follower
  pub last : length s.follower ≤ s.confirmed + 1

-- so it is after every list of events
abbrev pub RunsAreSound : WorldState → Type 0
RunsAreSound s = (es : List WorldEvent) → IsSoundWorld (run_of s es)

-- no event takes a record back that was confirmed before it
pub record KeepsConfirmed (old new : WorldState) : Type 0 where
  pub held : old.confirmed ≤ length new.follower
  pub same : take old.confirmed new.follower ≡ take old.confirmed old.follower

-- nor an acknowledged record of the leader
abbrev pub KeepsLeader : WorldState → WorldState → Type 0
KeepsLeader old new = IsFrontOf old.leader new.leader
