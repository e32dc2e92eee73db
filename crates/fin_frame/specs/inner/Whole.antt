-- The front of a file as it is read at once: gaps, groups and messages that begin here.
use Rattle.std.specs.Prelude.{◌≡◌, ◌<◌, ◌≤◌, ◌⊎◌, ℕ, suc, ◌==◌, ◌||◌, ◌&&◌, not, Bool, false, List, [], ◌∷◌, ◌++◌, length, take, drop}
use Rattle.fin_frame.specs.File.{lead, is_blank, most_bytes, IsGroupTo, IsMessageTo, IsMessage, IsFileOf, IsCutInto}
use Rattle.fin_frame.specs.declared.whole.Front.{Front}
use Rattle.fin_frame.specs.declared.whole.Front.TheVariants.{Whole, Open, Long}
use Rattle.fin_frame.specs.Whole.{is_led}

-- whether the bytes begin with a group that doesn't begin `{1:`
abbrev pub has_group : List ℕ → Bool
has_group [] = false
has_group (b ∷ bytes) = b == 123 && not (is_led (b ∷ bytes))

-- whether a gap goes on by the first of these bytes, where no `$` may come if it is marked
abbrev pub gap_goes_on : Bool → List ℕ → Bool
gap_goes_on marked [] = false
gap_goes_on marked (b ∷ bytes) = is_blank b || (b == 36 && not marked)

-- The group that the bytes begin with is open at their end, or after more bytes than a message may have.
pub record IsOpenGroup (bytes : List ℕ) : Type 0 where
  pub depth : ℕ
  pub group : List ℕ
  pub rest : List ℕ
  pub whole : bytes ≡ group ++ rest
  pub «open» : IsGroupTo (suc depth) group
  pub far : (rest ≡ []) ⊎ (most_bytes < length group)

-- One or two bytes of `{1:`.
abbrev pub IsPart : List ℕ → Type 0
IsPart bytes = (n : ℕ) × (n ≤ 1) × (bytes ≡ take (suc n) lead)

-- The bytes end within the message that they begin with, or with a part of `{1:` directly after it.
pub data EndsOpen : List ℕ → Type 0 where
  inside : {d : ℕ} {message : List ℕ} → IsMessageTo (suc d) message → length message ≤ most_bytes → EndsOpen message
  after : (n : ℕ) (message : List ℕ) → IsMessage message → n ≤ 1 → EndsOpen (message ++ take (suc n) lead)

-- The message that the bytes begin with passes what a message may have.
pub record RunsOver (bytes : List ℕ) : Type 0 where
  pub depth : ℕ
  pub message : List ℕ
  pub rest : List ℕ
  pub whole : bytes ≡ message ++ rest
  pub is : IsMessageTo depth message
  pub over : most_bytes < length message

-- what bytes begin with that begin `{1:`
abbrev pub IsFront : List ℕ → Front → Type 0
IsFront bytes (Whole len) = (len ≤ length bytes) × IsMessage (take len bytes) × (has_group (drop len bytes) ≡ false)
IsFront bytes Open = EndsOpen bytes
IsFront bytes Long = RunsOver bytes

-- no file has a cut in which these bytes stand after some messages and a gap
abbrev pub CutsNoFile : List ℕ → Type 0
CutsNoFile bytes = (file gap : List ℕ) (messages others : List (List ℕ)) → IsFileOf file messages gap → IsCutInto (file ++ bytes) others → ⊥
