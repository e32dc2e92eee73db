-- Files of messages that leave, and what such a file should hold.
use Rattle.std.specs.Prelude.{◌≡◌, ℕ, ◌==◌, Bool, false, not, List, [], ◌∷◌, ◌++◌, filter, take, slice_get, Some, if◌then◌else◌}
use Rattle.std.specs.List.{concat, list_any}
use Rattle.std.specs.Str.{bytes_eq}

-- the messages that end in these bytes, each with its `$`, where the first begins with the bytes begun
abbrev pub messages_from : List ℕ → List ℕ → List (List ℕ)
messages_from begun [] = []
messages_from begun (b ∷ bytes) = if b == 36 then (begun ++ b ∷ []) ∷ messages_from [] bytes else messages_from (begun ++ b ∷ []) bytes

-- the whole messages of a file, each up to a `$` and with it; bytes after the last `$` are none
abbrev pub messages_of : List ℕ → List (List ℕ)
messages_of file = messages_from [] file

-- a message stands among others
abbrev pub stands_in : List (List ℕ) → List ℕ → Bool
stands_in messages message = list_any (bytes_eq message) messages

-- those of some messages that don't stand among others, in their order
abbrev pub lacking : List (List ℕ) → List (List ℕ) → List (List ℕ)
lacking messages sent = filter (λ message. not (stands_in messages message)) sent

-- the whole messages of a file as they stand, then those sent that don't stand in it, in their order
abbrev pub mended_of : List ℕ → List ℕ → List ℕ
mended_of file sent = concat (messages_of file) ++ concat (lacking (messages_of file) (messages_of sent))

-- bytes that end with a `$`, or none
abbrev pub IsWhole : List ℕ → Type 0
IsWhole file = concat (messages_of file) ≡ file

-- no message stands twice
abbrev pub AreDistinct : List (List ℕ) → Type 0
AreDistinct messages = (i j : ℕ) (m : List ℕ) → slice_get messages i ≡ Some m → slice_get messages j ≡ Some m → i ≡ j

-- whole messages, and then a front of what was sent, none of whose messages stood before or stands in it twice: mended, all of it stands there
abbrev pub CutsAreMended : Type 0
CutsAreMended = (before sent : List ℕ) (k : ℕ) → IsWhole before → IsWhole sent → AreDistinct (messages_of sent) →
    ((i : ℕ) (m : List ℕ) → slice_get (messages_of sent) i ≡ Some m → stands_in (messages_of before) m ≡ false) →
    mended_of (before ++ take k sent) sent ≡ before ++ sent
