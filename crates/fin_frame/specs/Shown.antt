-- What the bytes of a file that have come so far show: whole messages, messages begun, and faults.
use Rattle.std.specs.Prelude.{◌≡◌, ◌<◌, ◌≤◌, ◌⊎◌, ℕ, suc, ◌+◌, ◌==◌, ◌||◌, ◌&&◌, not, nat_lt, Bool, true, false, List, [], ◌∷◌, ◌++◌, length, take, if◌then◌else◌}
use Rattle.fin_frame.specs.File.{IsFileOf, IsMessage, IsMessageTo, lead, agrees, is_blank, is_gap_byte, dollars, most_bytes}
use Rattle.fin_frame.specs.declared.fault.FrameFault.{FrameFault}
use Rattle.fin_frame.specs.declared.fault.FrameFault.TheVariants.{Stray, TooLong}

-- whether there are none
abbrev pub no_more : {A : Type 0} → List A → Bool
no_more [] = true
no_more (x ∷ xs) = false

-- whether a group would stand apart from the messages before it: after a gap, or where there are none
abbrev pub stands_apart : List (List ℕ) → List ℕ → Bool
stands_apart messages gap = no_more messages || not (no_more gap)

-- whether no `$` may come: before the first message, or where the gap has one
abbrev pub is_marked : List (List ℕ) → List ℕ → Bool
is_marked messages gap = no_more messages || nat_lt 0 (dollars gap)

-- whether the byte after these messages and this gap is one that can't follow: neither `{` nor of a gap, a `$` before
-- the first message or a second one in a gap, or the `{` of a group that stands apart and can't begin `{1:`
abbrev pub cannot_follow : List (List ℕ) → List ℕ → List ℕ → Bool
cannot_follow messages gap [] = false
cannot_follow messages gap (b ∷ bytes) =
    if b == 123 then stands_apart messages gap && not (agrees lead (b ∷ bytes))
    else if b == 36 then is_marked messages gap
    else not (is_blank b)

-- The bytes show a fault. Those before its place are a file of these messages.
pub data Shows : List ℕ → List (List ℕ) → FrameFault → Type 0 where
  stray : {gap : List ℕ} {messages : List (List ℕ)} (file rest : List ℕ) → IsFileOf file messages gap → cannot_follow messages gap rest ≡ true → Shows (file ++ rest) messages (Stray (length file))
  long : {d : ℕ} {gap : List ℕ} {messages : List (List ℕ)} (file message rest : List ℕ) → IsFileOf file messages gap → IsMessageTo d message → most_bytes < length message → Shows (file ++ message ++ rest) messages (TooLong (length file))

-- the bytes show no fault
abbrev pub ShowsNoFault : List ℕ → Type 0
ShowsNoFault bytes = (messages : List (List ℕ)) (fault : FrameFault) → Shows bytes messages fault → ⊥

-- The bytes end within a group, whose message begins at this place: within one that can't be another message's first,
-- after one or two bytes of `{1:` directly after a message, or after these bytes where they stand apart.
pub data EndsWithin : List ℕ → ℕ → Type 0 where
  inside : {d : ℕ} {gap : List ℕ} {messages : List (List ℕ)} (file message : List ℕ) → IsFileOf file messages gap → IsMessageTo (suc d) message → EndsWithin (file ++ message) (length file)
  after : {gap : List ℕ} {messages : List (List ℕ)} (n : ℕ) (file message : List ℕ) → IsFileOf file messages gap → IsMessage message → n ≤ 1 → EndsWithin (file ++ message ++ take (suc n) lead) (length file)
  apart : {gap : List ℕ} {messages : List (List ℕ)} (n : ℕ) (file : List ℕ) → IsFileOf file messages gap → stands_apart messages gap ≡ true → n ≤ 1 → EndsWithin (file ++ take (suc n) lead) (length file)

-- whether the bytes after a message show that it is whole: a gap, or the next message's `{1:`
abbrev pub is_over : List ℕ → Bool
is_over [] = false
is_over (b ∷ bytes) = is_gap_byte b || (nat_lt 2 (length (b ∷ bytes)) && agrees lead (b ∷ bytes))

-- The bytes show that these messages, their first ones, are whole.
pub data ShowWhole : List ℕ → List (List ℕ) → Type 0 where
  none : {bytes : List ℕ} → ShowWhole bytes []
  some : {gap : List ℕ} (file message rest : List ℕ) (messages : List (List ℕ)) → IsFileOf file messages gap → IsMessage message → is_over rest ≡ true → ShowWhole (file ++ message ++ rest) (messages ++ message ∷ [])

-- one list begins another
abbrev pub Begins : {A : Type 0} → List A → List A → Type 0
Begins {A} front all = (rest : List A) × (all ≡ front ++ rest)

-- these are all the messages that the bytes show to be whole
pub record AreWhole (bytes : List ℕ) (messages : List (List ℕ)) : Type 0 where
  pub shown : ShowWhole bytes messages
  pub all : (others : List (List ℕ)) → ShowWhole bytes others → Begins others messages

-- The `{1:` of the nth message is whole.
pub data HasBegun : List ℕ → ℕ → Type 0 where
  begun : {gap : List ℕ} (file rest : List ℕ) (messages : List (List ℕ)) → IsFileOf file messages gap → HasBegun (file ++ lead ++ rest) (length messages + 1)

-- so many messages have begun
pub record HaveBegun (bytes : List ℕ) (n : ℕ) : Type 0 where
  pub last : (n ≡ 0) ⊎ HasBegun bytes n
  pub most : (k : ℕ) → HasBegun bytes k → k ≤ n
