-- Message files: groups, gaps and messages, and how they make up a file.
use Rattle.std.specs.Prelude.{◌≡◌, ◌≤◌, ℕ, zero, suc, ◌+◌, ◌==◌, ◌||◌, ◌&&◌, Bool, true, false, IsTrue, List, [], ◌∷◌, ◌++◌, length, take, Option, Some, None, if◌then◌else◌}
use Rattle.std.specs.List.{list_all}
use Rattle.corr_text.specs.Braces.{depth_after}

-- how many groups the bytes leave open, from within d of them; none where bytes come after the end of them all
abbrev pub left_open : ℕ → List ℕ → Option ℕ
left_open d [] = Some d
left_open zero (b ∷ bs) = None
left_open (suc d) (b ∷ bs) = left_open (depth_after (suc d) b) bs

-- a group as far as it leaves d groups open: `{`, and bytes up to the matching `}` where d is 0
abbrev pub IsGroupTo : ℕ → List ℕ → Type 0
IsGroupTo d [] = ⊥
IsGroupTo d (b ∷ inside) = (b ≡ 123) × (left_open 1 inside ≡ Some d)

-- `{1:`
abbrev pub lead : List ℕ
lead = 123 ∷ 49 ∷ 58 ∷ []

-- whether one of two lists begins the other: so a group that agrees with `{1:` can still begin so
abbrev pub agrees : List ℕ → List ℕ → Bool
agrees [] ys = true
agrees (x ∷ xs) [] = true
agrees (x ∷ xs) (y ∷ ys) = x == y && agrees xs ys

-- A message as far as it leaves d groups open: a group that begins `{1:`, and groups directly after it that don't.
pub data IsMessageTo : ℕ → List ℕ → Type 0 where
  head : {d : ℕ} {group : List ℕ} → IsGroupTo d group → take 3 group ≡ lead → IsMessageTo d group
  next : {d : ℕ} (message group : List ℕ) → IsMessageTo 0 message → IsGroupTo d group → agrees lead group ≡ false → IsMessageTo d (message ++ group)

-- the most bytes of a message
abbrev pub most_bytes : ℕ
most_bytes = 16384

-- a whole message
abbrev pub IsMessage : List ℕ → Type 0
IsMessage message = IsMessageTo 0 message × (length message ≤ most_bytes)

-- a line feed, a carriage return or a space
abbrev pub is_blank : ℕ → Bool
is_blank b = b == 10 || b == 13 || b == 32

-- a byte of a gap
abbrev pub is_gap_byte : ℕ → Bool
is_gap_byte b = is_blank b || b == 36

-- how many bytes are `$`
abbrev pub dollars : List ℕ → ℕ
dollars [] = 0
dollars (b ∷ bytes) = if b == 36 then dollars bytes + 1 else dollars bytes

-- a gap, or nothing: blanks with so many `$` at most
abbrev pub IsGap : ℕ → List ℕ → Type 0
IsGap most gap = IsTrue (list_all is_gap_byte gap) × (dollars gap ≤ most)

-- A file of these messages: a gap without `$`, and messages with a gap after each. The last of the gaps is gap.
pub data IsFileOf : List ℕ → List (List ℕ) → List ℕ → Type 0 where
  start : {gap : List ℕ} → IsGap 0 gap → IsFileOf gap [] gap
  more : {last : List ℕ} (file message gap : List ℕ) (messages : List (List ℕ)) → IsFileOf file messages last → IsMessage message → IsGap 1 gap → IsFileOf (file ++ message ++ gap) (messages ++ message ∷ []) gap

-- the file is these messages, with a gap or nothing before, between and after them
abbrev pub IsCutInto : List ℕ → List (List ℕ) → Type 0
IsCutInto file messages = (gap : List ℕ) × IsFileOf file messages gap
