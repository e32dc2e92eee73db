-- Sizes of records after their gates, and lists of them that are joined.
use Rattle.std.proofs.Common.{◌≡◌, ℕ, ◌+◌, Bool, true, false, cond, List, [], ◌∷◌, ◌++◌, length, map, take, drop, refl, sym, ◌∙◌, ap, arith, append_assoc, length-append}
use Rattle.std.specs.Int.{w32, to_be_bytes}
use Rattle.std.specs.Str.{bytes_eq}
use Rattle.jrn_file.specs.Reading.{whole, cut, opened_of, reading_of, records_of, size_of, with_length}
use Rattle.jrn_file.specs.Journal.{after_gates, journal_bytes}
use Rattle.jrn_file.specs.inner.Journal.{AreOpen}

-- a record after its length
pub length-sized : (r : List ℕ) → length (with_length r) ≡ 4 + length r
length-sized r = omega (arith, length-append (to_be_bytes w32 (length r)) r)

-- records after their gates
pub length-after_gates : (entries : List (ℕ × List ℕ)) → length (after_gates entries) ≡ size_of (map (λ e. e.1) entries)
length-after_gates [] = refl
length-after_gates (e ∷ more) =
    omega (arith, length-sized e.1, length-append (with_length e.1) (after_gates more), length-after_gates more)

-- the records of those that stand after the gate 1
pub map-with_gates : (records : List (List ℕ)) → map (λ (e : ℕ × List ℕ). e.1) (map (λ (r : List ℕ). (1, r)) records) ≡ records
map-with_gates [] = refl
map-with_gates (r ∷ records) = ap (λ (l : List (List ℕ)). r ∷ l) (map-with_gates records)

-- a journal, which ends with a closed gate
pub length-journal_bytes : (head : List ℕ) (records : List (List ℕ)) → length (journal_bytes head records) ≡ size_of (head ∷ records) + 1
length-journal_bytes head records =
    let gates : List (ℕ × List ℕ) = map (λ (r : List ℕ). (1, r)) (head ∷ records) in
    omega (arith, length-append (after_gates gates) (0 ∷ []), length-after_gates gates, ap size_of (map-with_gates (head ∷ records)))

-- records that are joined
pub size_of-append : (xs ys : List (List ℕ)) → size_of (xs ++ ys) ≡ size_of xs + size_of ys
size_of-append [] ys = omega arith
size_of-append (x ∷ xs) ys = omega (arith, size_of-append xs ys)

pub after_gates-append : (xs ys : List (ℕ × List ℕ)) → after_gates (xs ++ ys) ≡ after_gates xs ++ after_gates ys
after_gates-append [] ys = refl
after_gates-append (x ∷ xs) ys =
    ap (λ (l : List ℕ). x.0 ∷ (with_length x.1 ++ l)) (after_gates-append xs ys)
    ∙ ap (λ (l : List ℕ). x.0 ∷ l) (sym (append_assoc (with_length x.1) (after_gates xs) (after_gates ys)))

pub AreOpen-append : (xs ys : List (ℕ × List ℕ)) → AreOpen xs → AreOpen ys → AreOpen (xs ++ ys)
AreOpen-append [] ys open_xs open_ys = open_ys
AreOpen-append (x ∷ xs) ys open_xs open_ys = (open_xs.0, open_xs.1, AreOpen-append xs ys open_xs.2 open_ys)

-- damage stands after the records in front of it
cut-by : (all : List (List ℕ)) (b : Bool) (found : List (List ℕ)) (at : ℕ) → cond b (whole all) (cut all (size_of all)) ≡ cut found at → at ≡ size_of found
cut-by all true found at is = absurd (cc)
cut-by all false found at is =
    let place : size_of all ≡ at = cc in
    let same : all ≡ found = cc in
    sym place ∙ ap size_of same

cut-of : (all : List (List ℕ)) (rest : List ℕ) (found : List (List ℕ)) (at : ℕ) → reading_of all rest ≡ cut found at → at ≡ size_of found
cut-of [] rest found at is = absurd (cc)
cut-of (head ∷ records) rest found at is = cut-by (head ∷ records) (bytes_eq (take 1 rest) (0 ∷ [])) found at is

-- a damage stands right after the records before it
pub cut-place : (bytes : List ℕ) (all : List (List ℕ)) (at : ℕ) → opened_of bytes ≡ cut all at → at ≡ size_of all
unfolding opened_of
cut-place bytes all at is = cut-of (records_of bytes) (drop (size_of (records_of bytes)) bytes) all at is
