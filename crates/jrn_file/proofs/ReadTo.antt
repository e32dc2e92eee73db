-- Bytes of a disk that were read up to a place.
use Rattle.std.proofs.Common.{◌≡◌, ◌⊎◌, inl, inr, ℕ, ◌+◌, ◌-◌, ◌*◌, ◌/◌, ◌<◌, ◌≤◌, Bool, IsTrue, List, [], ◌∷◌, ◌++◌, length, take, drop, refl, sym, ◌∙◌, ap, subst, arith, append_assoc, length-append, length-drop, take-append-drop}
use Rattle.std.proofs.lemmas.List.{append-nil, drop_all, drop_min, drop-drop, length-take}
use Rattle.std.proofs.lemmas.Nat.{div-mul-add}
use Rattle.std.proofs.Math.Nat.{le-div_iff_mul-le}
use Rattle.jrn_file.specs.Reading.{no_journal, cut, opened_of}
use Rattle.jrn_file.specs.inner.Opening.{HasNoRecord, IsShut, IsTooLong, IsReadAs}
use Rattle.jrn_file.specs.Journal.{after_gates}
use Rattle.jrn_file.specs.Pieces.{calls_to_open}
use Rattle.jrn_file.specs.inner.Pieces.{IsPiece, AreTakenOff, OfBytes}
use Rattle.jrn_file.proofs.Taken.{taken-start, taken-then, taken-end, taken-none, taken-refused, taken-cut, long-refused, long-cut}
use Rattle.jrn_file.proofs.LastPiece.{in-last-piece}

-- so many bytes were read, those of the disk where it tells them, and these records were taken out of them
pub record ReadTo (honest : Bool) (reads : List ℕ) (place : ℕ) (all : List (List ℕ)) (held : List ℕ) : Type 0 where
  pub bytes : List ℕ
  pub size : length bytes ≡ place
  pub told : IsTrue honest → bytes ++ drop place reads ≡ reads
  pub taken : AreTakenOff bytes all held

pub read-start : (honest : Bool) (reads : List ℕ) → ReadTo honest reads 0 [] []
read-start honest reads = record { bytes = []; size = refl; told = λ _. refl; taken = taken-start [] }

pub read-begun : (honest : Bool) (reads : List ℕ) (piece : ℕ) (all : List (List ℕ)) (held : List ℕ) → all ≡ [] → held ≡ [] → ReadTo honest reads (0 * piece) all held
read-begun honest reads piece all held none empty =
    let start : 0 ≡ 0 * piece = omega arith in
    subst (λ l. ReadTo honest reads (0 * piece) all l) (sym empty)
    (subst (λ l. ReadTo honest reads (0 * piece) l []) (sym none) (subst (λ n. ReadTo honest reads n [] []) start (read-start honest reads)))

-- the same of a disk that tells the same
pub piece-of : (honest other : Bool) (reads others : List ℕ) (at asked n : ℕ) (held mid : List ℕ) → other ≡ honest → others ≡ reads
    → IsPiece other others at asked n held mid → IsPiece honest reads at asked n held mid
piece-of honest other reads others at asked n held mid same_honest same_reads piece =
    subst (λ l. IsPiece honest l at asked n held mid) same_reads (subst (λ h. IsPiece h others at asked n held mid) same_honest piece)

-- a front that was taken, and what is after it
front-and-rest : (asked : ℕ) (more bytes : List ℕ) → more ≡ take asked bytes → bytes ≡ more ++ drop (length more) bytes
front-and-rest asked more bytes is =
    sym (take-append-drop asked bytes)
    ∙ ap (λ (l : List ℕ). l ++ drop asked bytes) (sym is)
    ∙ ap (λ (l : List ℕ). more ++ l) (sym (drop_min asked bytes) ∙ ap (λ (n : ℕ). drop n bytes) (sym (ap length is ∙ length-take asked bytes)))

-- one piece more
pub read-more : (honest : Bool) (reads : List ℕ) (at asked n : ℕ) (all more : List (List ℕ)) (held mid rest : List ℕ)
    → ReadTo honest reads at all held → IsPiece honest reads at asked n held mid → AreTakenOff mid more rest → ReadTo honest reads (at + n) (all ++ more) rest
read-more honest reads at asked n all more held mid rest so_far piece taken =
    let next = piece.more in record {
      bytes = so_far.bytes ++ next;
      size = omega (arith, so_far.size, piece.count, length-append so_far.bytes next);
      told = λ told.
          append_assoc so_far.bytes next (drop (at + n) reads)
          ∙ ap (λ (l : List ℕ). so_far.bytes ++ (next ++ l)) (sym (drop-drop n at reads))
          ∙ ap (λ (k : ℕ). so_far.bytes ++ (next ++ drop k (drop at reads))) piece.count
          ∙ ap (λ (l : List ℕ). so_far.bytes ++ l) (sym (front-and-rest asked next (drop at reads) (piece.told told)))
          ∙ so_far.told told;
      taken = taken-then so_far.bytes held next rest all more so_far.taken (subst (λ l. AreTakenOff l more rest) piece.is taken);
    }

-- one piece more, and the records that it makes whole
pub read-on : (honest : Bool) (reads : List ℕ) (at asked n : ℕ) (all grown : List (List ℕ)) (held mid rest : List ℕ)
    → ReadTo honest reads at all held → IsPiece honest reads at asked n held mid → (more : List (List ℕ)) × (grown ≡ all ++ more) × AreTakenOff mid more rest
    → ReadTo honest reads (at + n) grown rest
read-on honest reads at asked n all grown held mid rest so_far piece taken =
    subst (λ l. ReadTo honest reads (at + n) l rest) (sym taken.1) (read-more honest reads at asked n all taken.0 held mid rest so_far piece taken.2)

-- nothing is left after a piece that is short
short-piece : (honest : Bool) (reads : List ℕ) (at asked n : ℕ) (held mid : List ℕ) → IsPiece honest reads at asked n held mid → n < asked → IsTrue honest → drop (at + n) reads ≡ []
short-piece honest reads at asked n held mid piece short told =
    drop_all (at + n) reads (omega (arith, short, piece.count, ap length (piece.told told), length-take asked (drop at reads), length-drop at reads))

-- the last piece that is to be read: a short one, or one after which the length that is seen is too long
pub last-piece : (honest : Bool) (reads : List ℕ) (at asked n : ℕ) (held mid seen rest : List ℕ) → IsPiece honest reads at asked n held mid → seen ≡ rest
    → (n < asked) ⊎ IsTooLong seen → (IsTrue honest → drop (at + n) reads ≡ []) ⊎ IsTooLong rest
last-piece honest reads at asked n held mid seen rest piece same (inl short) = inl (short-piece honest reads at asked n held mid piece short)
last-piece honest reads at asked n held mid seen rest piece same (inr long) = inr (subst IsTooLong same long)

module _ (honest : Bool) (reads : List ℕ) (place : ℕ) (all : List (List ℕ)) (held : List ℕ) (read : ReadTo honest reads place all held) where
  -- a closed gate after the records
  pub read-end : IsShut held → 0 < length all → OfBytes honest reads (λ bytes. IsReadAs bytes (place - length held) all)
  read-end shut some = (
    read.bytes ++ drop place reads,
    subst (λ n. IsReadAs (read.bytes ++ drop place reads) (n - length held) all) read.size (taken-end read.bytes held all read.taken shut some (drop place reads)),
    read.told,
  )

  -- a closed gate and no record
  pub read-none : IsShut held → length all ≡ 0 → OfBytes honest reads (λ bytes. opened_of bytes ≡ no_journal)
  read-none shut none = (read.bytes ++ drop place reads, taken-none read.bytes held all read.taken shut none (drop place reads), read.told)

  -- no more bytes: those that were read are all
  all-told : (IsTrue honest → drop place reads ≡ []) → IsTrue honest → read.bytes ≡ reads
  all-told all_read told = sym (append-nil read.bytes) ∙ ap (λ (l : List ℕ). read.bytes ++ l) (sym (all_read told)) ∙ read.told told

  -- an open gate, or nothing, and no whole record after it up to the end, or its length is too long: before the first record
  pub read-refused : (IsTrue honest → drop place reads ≡ []) ⊎ IsTooLong held → HasNoRecord held → length all ≡ 0 → OfBytes honest reads (λ bytes. opened_of bytes ≡ no_journal)
  read-refused (inl all_read) stopped none = (read.bytes, taken-refused read.bytes held all read.taken stopped none, all-told all_read)
  read-refused (inr long) stopped none = (read.bytes ++ drop place reads, long-refused read.bytes held all read.taken long (drop place reads) none, read.told)

  -- and after records
  pub read-cut : (IsTrue honest → drop place reads ≡ []) ⊎ IsTooLong held → HasNoRecord held → (IsShut held → ⊥) → 0 < length all
      → OfBytes honest reads (λ bytes. opened_of bytes ≡ cut all (place - length held))
  read-cut (inl all_read) stopped open_gate some = (
    read.bytes,
    taken-cut read.bytes held all read.taken stopped open_gate some ∙ ap (λ (n : ℕ). cut all (n - length held)) read.size,
    all-told all_read,
  )
  read-cut (inr long) stopped open_gate some = (
    read.bytes ++ drop place reads,
    long-cut read.bytes held all read.taken long (drop place reads) open_gate some ∙ ap (λ (n : ℕ). cut all (n - length held)) read.size,
    read.told,
  )

  -- no more is held than was read
  pub held-within : length held ≤ place
  held-within = omega (arith, ap length read.taken.is, length-append (after_gates read.taken.entries) held, read.size)

  -- so much there is
  pub read-within : IsTrue honest → place ≤ length reads
  read-within told = omega (arith, ap length (read.told told), length-append read.bytes (drop place reads), length-drop place reads, read.size)

-- the closed gate stands in the last piece
pub gate-in-piece : (honest : Bool) (reads : List ℕ) (index piece n : ℕ) (more : List (List ℕ)) (held mid rest : List ℕ) → HasNoRecord held → (IsShut held → ⊥)
    → IsPiece honest reads (index * piece) piece n held mid → AreTakenOff mid more rest → IsShut rest → (index * piece + n - length rest) / piece ≡ index
gate-in-piece honest reads index piece n more held mid [] stopped open_gate is_piece taken shut = absurd shut
gate-in-piece honest reads index piece n more held mid (g ∷ rest) stopped open_gate is_piece taken shut =
    let within : length (g ∷ rest) ≤ length is_piece.more =
    in-last-piece held is_piece.more (g ∷ rest) more stopped open_gate (subst (λ l. AreTakenOff l more (g ∷ rest)) is_piece.is taken) shut in
    let after = n - length (g ∷ rest) in
    let place : index * piece + n - length (g ∷ rest) ≡ index * piece + after = omega (arith, within, is_piece.count) in
    ap (λ (k : ℕ). k / piece) place ∙ div-mul-add index piece after (omega (arith, within, is_piece.count, is_piece.most))

-- a read from a place up to the end is one of those that show the end
pub calls-within : (index piece size : ℕ) → 0 < piece → index * piece ≤ size → 2 + index ≤ calls_to_open piece size
calls-within index piece size some within = omega (arith, (le-div_iff_mul-le some).1 within)

-- a place below the last piece, and what is read there
pub in-range : (index piece most : ℕ) → 0 < piece → index < most / piece → index * piece + piece ≤ most
in-range index piece most some within =
    let le : (index + 1) * piece ≤ most = (le-div_iff_mul-le some).0 (omega (arith, within)) in
    omega (arith, le)
