-- The forms of blocks 1 and 2, and of the pieces in blocks 3 and 5.
use Rattle.std.specs.Prelude.{ℕ, ◌+◌, ◌-◌, ◌==◌, ◌&&◌, ◌||◌, not, Bool, List, [], ◌∷◌, length, take, drop, slice_index, Option, Some, None, nat_le, bytes_eq, codes, if◌then◌else◌}
use Rattle.std.specs.Option.{option_or}
use Rattle.std.specs.List.{list_all}
use Rattle.std.specs.Char.{is_ascii_digit, is_ascii_uppercase}
use Rattle.corr_text.specs.Digits.{number_of}
use Rattle.corr_ids.specs.Day.{◌>>=◌}
use Rattle.corr_ids.specs.Address.{lt_of}
use Rattle.corr_ids.specs.Mir.{mir_of}
use Rattle.corr_ids.specs.declared.mir.Mir.{Mir}
use Rattle.fin_blocks.specs.declared.blocks.App.{App}
use Rattle.fin_blocks.specs.declared.blocks.App.TheVariants.{Received, Sent}
use Rattle.fin_blocks.specs.declared.basic.Basic.{Basic}

-- what stands between a start and an end
unfoldable pub between : List ℕ → List ℕ → List ℕ → Option (List ℕ)
between start end group =
    if nat_le (length start + length end) (length group) && bytes_eq (take (length start) group) start && bytes_eq (drop (length group - length end) group) end then
    Some (take (length group - (length start + length end)) (drop (length start) group))
    else None

-- what a block holds that begins so, none where there is no group
abbrev pub inside : List ℕ → Option (List ℕ) → Option (List ℕ)
inside start None = None
inside start (Some group) = between start (codes "}") group

-- this many bytes from a place on
abbrev pub part : ℕ → ℕ → List ℕ → List ℕ
part from long bs = take long (drop from bs)

-- a value where a test holds
abbrev pub when : {A : Type 0} → Bool → Option A → Option A
when holds o = if holds then o else None

-- 24 bytes, digits but for an LT address
unfoldable pub is_basic : List ℕ → Bool
is_basic bs = (length bs == 24) && list_all is_ascii_digit (take 2 bs) && list_all is_ascii_digit (drop 14 bs)

-- block 1 after its F: version 2!n, LT address, session 4!n, sequence number 6!n
unfoldable pub basic_in : List ℕ → Option Basic
basic_in bs = do
  own ← when (is_basic bs) (lt_of (part 2 12 bs))
  Some (record { version = take 2 bs; own = own })

-- `{1:F`, what basic_in reads, `}`
abbrev pub basic_of : Option (List ℕ) → Option Basic
basic_of group = inside (codes "{1:F") group >>= basic_in

-- S, U or N: system, urgent or normal
abbrev pub is_priority : ℕ → Bool
is_priority b = (b == 83) || (b == 85) || (b == 78)

-- 46 bytes, digits at both times and at the day, and a priority
unfoldable pub is_received : List ℕ → Bool
is_received bs = (length bs == 46) && list_all is_ascii_digit (part 3 4 bs) && list_all is_ascii_digit (part 35 10 bs) && is_priority (slice_index bs 45)

-- block 2 of a received message after its O: type 3!n, time 4!n, MIR, day 6!n, time 4!n, priority
unfoldable pub received_in : List ℕ → Option App
received_in bs = do
  mt ← when (is_received bs) (number_of (take 3 bs))
  mir ← mir_of (part 7 28 bs)
  Some (Received mt mir)

-- 16 bytes, and then none, one, three or four
unfoldable pub is_sent_length : ℕ → Bool
is_sent_length long = (long == 16) || (long == 17) || (long == 19) || (long == 20)

-- 16 bytes that end with a priority, and then none, one, three or four digits
unfoldable pub is_sent : List ℕ → Bool
is_sent bs = is_sent_length (length bs) && is_priority (slice_index bs 15) && list_all is_ascii_digit (drop 16 bs)

-- block 2 of a sent message after its I: type 3!n, LT address, priority, optionally 1!n, optionally 3!n
unfoldable pub sent_in : List ℕ → Option App
sent_in bs = do
  mt ← when (is_sent bs) (number_of (take 3 bs))
  to ← lt_of (part 3 12 bs)
  Some (Sent mt to)

-- `{2:O`, what received_in reads, `}`
abbrev pub output_form_of : Option (List ℕ) → Option App
output_form_of group = inside (codes "{2:O") group >>= received_in

-- `{2:I`, what sent_in reads, `}`
abbrev pub input_form_of : Option (List ℕ) → Option App
input_form_of group = inside (codes "{2:I") group >>= sent_in

-- block 2: of the one form or the other
abbrev pub app_of : Option (List ℕ) → Option App
app_of group = option_or (output_form_of group) (input_form_of group)

-- the reference of a received message
abbrev pub mir_in : App → Option Mir
mir_in (Received mt mir) = Some mir
mir_in (Sent mt to) = None

-- bytes without braces
abbrev pub is_plain : List ℕ → Bool
is_plain bs = list_all (λ b. not (b == 123) && not (b == 125)) bs

-- three bytes, `:`, bytes without braces
unfoldable pub is_tagged : List ℕ → Bool
is_tagged bs = nat_le 4 (length bs) && (slice_index bs 3 == 58) && is_plain (drop 4 bs)

-- `{`, three bytes, `:`, bytes without braces, `}`: the three and the bytes
unfoldable pub tagged_of : Option (List ℕ) → Option (List ℕ × List ℕ)
tagged_of group = do
  bs ← inside (codes "{") group
  when (is_tagged bs) (Some (take 3 bs, drop 4 bs))

-- what each of these groups says, where each says something
unfoldable pub each_of : {A : Type 0} → (Option (List ℕ) → Option A) → List (Option (List ℕ)) → Option (List A)
each_of read [] = Some []
each_of read (group ∷ groups) = do
  x ← read group
  xs ← each_of read groups
  Some (x ∷ xs)

-- a trailer: three capital letters
unfoldable pub trailer_of : Option (List ℕ) → Option (List ℕ)
trailer_of group = do
  p ← tagged_of group
  when (list_all is_ascii_uppercase p.0) (Some p.0)
