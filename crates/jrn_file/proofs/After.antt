-- What a read puts after bytes that are held.
use Rattle.std.proofs.Common.{◌≡◌, ℕ, ◌+◌, ◌≤◌, min, List, ◌++◌, length, take, sym, ◌∙◌, ap, arith, append_assoc, length-append}
use Rattle.std.proofs.lemmas.List.{take_min, take-take, take-append-le}
use Rattle.std.proofs.Math.Seq.{take-append-add}

-- A read into the part from place n on, of a buffer whose first n bytes are held: after them stand what it gave, and what is left.
pub read-after : (held r buf post rest : List ℕ) (n len count : ℕ) → n ≡ length held → take n r ≡ held → count ≤ length buf → n + count ≤ len
    → take (n + count) (take len (take n r ++ (buf ++ post) ++ rest)) ≡ held ++ take count buf
read-after held r buf post rest n len count long is within fits =
    let after = (buf ++ post) ++ rest in
    take-take (n + count) len (take n r ++ (buf ++ post) ++ rest) fits
    ∙ ap (λ (l : List ℕ). take (n + count) (l ++ (buf ++ post) ++ rest)) is
    ∙ ap (λ (l : List ℕ). take (n + count) l) (append_assoc held (buf ++ post) rest)
    ∙ ap (λ (k : ℕ). take (k + count) (held ++ after)) long
    ∙ take-append-add held after count
    ∙ ap (λ (l : List ℕ). held ++ l) (take-append-le count (buf ++ post) rest (omega (arith, within, length-append buf post)) ∙ take-append-le count buf post within)

-- the front of a buffer that grew after what it held
pub front-kept : (n : ℕ) (old new : List ℕ) → n ≤ length old → take (length old) new ≡ old → take n new ≡ take n old
front-kept n old new within kept = sym (take-take n (length old) new within) ∙ ap (λ (l : List ℕ). take n l) kept

-- the bytes that it gives, of those from its place on
pub read-gives : (asked n : ℕ) (bytes buf : List ℕ) → n ≡ min asked (length bytes) → take n buf ≡ take n bytes → take n buf ≡ take asked bytes
read-gives asked n bytes buf count same = same ∙ ap (λ (k : ℕ). take k bytes) count ∙ take_min asked bytes
