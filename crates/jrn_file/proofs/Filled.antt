-- A journal of many records behind one gate, and its bytes as they are given to a sender.
use Rattle.std.specs.List.{All}
use Rattle.std.proofs.Common.{◌≡◌, ◌≢◌, inl, inr, ℕ, ◌+◌, ◌<◌, ◌≤◌, List, [], ◌∷◌, ◌++◌, length, map, get_or, take, drop, refl, sym, ◌∙◌, ap, subst, arith, append_assoc, length-append, take-append-drop}
use Rattle.std.proofs.lemmas.List.{append-nil, drop-drop, drop_all, map-append, take_more}
use Rattle.std.proofs.lemmas.Bool.{cases_eq}
use Rattle.corr_disk.specs.Disk.{written, Torn}
use Rattle.jrn_file.specs.Reading.{most_record_bytes, with_length, size_of}
use Rattle.jrn_file.specs.Journal.{after_gates, frames_of, journal_bytes, StandsFor}
use Rattle.jrn_file.specs.inner.Journal.{AreOpen}
use Rattle.jrn_file.specs.Making.{IsUnmadeOrMadeWith, made_with_over}
use Rattle.jrn_file.specs.inner.Sending.{open_frames, IsShutFront}
use Rattle.jrn_file.proofs.Bytes.{written-after, written-gate, torn-gate}
use Rattle.jrn_file.proofs.Readings.{spelled-stands}
use Rattle.jrn_file.proofs.Records.{gates-one}
use Rattle.jrn_file.proofs.laws.Sizes.{length-sized, length-after_gates, length-journal_bytes, map-with_gates, size_of-append, after_gates-append}

-- the closed gate at the end is all that lacks
pub frames-closed : (head : List ℕ) (records : List (List ℕ)) → open_frames head records ++ 0 ∷ [] ≡ frames_of head records
frames-closed head records = append_assoc (with_length head) (after_gates (map (λ (r : List ℕ). (1, r)) records)) (0 ∷ [])

-- a journal is its frames after an open gate
pub journal-framed : (head : List ℕ) (records : List (List ℕ)) → journal_bytes head records ≡ 1 ∷ frames_of head records
journal-framed head records = ap (λ (l : List ℕ). 1 ∷ l) (frames-closed head records)

-- no record yet
pub frames-none : (head : List ℕ) (records : List (List ℕ)) → open_frames head (take 0 records) ≡ with_length head
frames-none head records = append-nil (with_length head)

-- one record more
pub frames-more : (head : List ℕ) (records : List (List ℕ)) (i : ℕ) (d : List ℕ) → i < length records
    → open_frames head (take (i + 1) records) ≡ open_frames head (take i records) ++ 1 ∷ with_length (get_or records i d)
frames-more head records i d within =
    let r = get_or records i d in
    let gated : List (List ℕ) → List (ℕ × List ℕ) = λ rs. map (λ (x : List ℕ). (1, x)) rs in
    let one : after_gates (gated (take (i + 1) records)) ≡ after_gates (gated (take i records)) ++ 1 ∷ with_length r =
    ap (λ (rs : List (List ℕ)). after_gates (gated rs)) (take_more records i d within)
    ∙ ap after_gates (map-append (λ (x : List ℕ). (1, x)) (take i records) (r ∷ []))
    ∙ after_gates-append (gated (take i records)) ((1, r) ∷ [])
    ∙ ap (λ (l : List ℕ). after_gates (gated (take i records)) ++ 1 ∷ l) (append-nil (with_length r)) in
    ap (λ (l : List ℕ). with_length head ++ l) one ∙ sym (append_assoc (with_length head) (after_gates (gated (take i records))) (1 ∷ with_length r))

pub length-open_frames : (head : List ℕ) (records : List (List ℕ)) → length (open_frames head records) ≡ 4 + length head + size_of records
length-open_frames head records =
    let gated : List (ℕ × List ℕ) = map (λ (r : List ℕ). (1, r)) records in
    omega (
      arith,
      length-append (with_length head) (after_gates gated),
      length-sized head,
      length-after_gates gated,
      ap size_of (map-with_gates records),
    )

-- those in front take no more than all
pub frames-within : (head : List ℕ) (records : List (List ℕ)) (n : ℕ) → length (open_frames head (take n records)) ≤ length (open_frames head records)
frames-within head records n = omega (
  arith,
  length-open_frames head records,
  length-open_frames head (take n records),
  ap size_of (take-append-drop n records),
  size_of-append (take n records) (drop n records),
)

-- the next record takes no more than is left
pub frames-next : (head : List ℕ) (records : List (List ℕ)) (i : ℕ) (r : List ℕ) → i < length records → r ≡ get_or records i r
    → length (open_frames head (take i records)) + (5 + length r) ≤ length (open_frames head records)
frames-next head records i r within is = omega (
  arith,
  frames-within head records (i + 1),
  ap length (frames-more head records i r within),
  length-append (open_frames head (take i records)) (1 ∷ with_length (get_or records i r)),
  length-sized (get_or records i r),
  ap length is,
)

-- and stands after those in front, where it was given as it should be
pub frames-step : (head : List ℕ) (records : List (List ℕ)) (i : ℕ) (r given : List ℕ) → i < length records → r ≡ get_or records i r → given ≡ 1 ∷ with_length r
    → open_frames head (take i records) ++ given ≡ open_frames head (take (i + 1) records)
frames-step head records i r given within is same =
    ap (λ (l : List ℕ). open_frames head (take i records) ++ l) (same ∙ ap (λ (x : List ℕ). 1 ∷ with_length x) is) ∙ sym (frames-more head records i r within)

-- what any gate before the frames makes of them
pub stands-all : (gate : ℕ) (head : List ℕ) (records : List (List ℕ)) (rest image : List ℕ) → gate ≢ 0 → All (λ r. length r ≤ most_record_bytes) (head ∷ records)
    → image ≡ gate ∷ (frames_of head records ++ rest) → StandsFor image head records
stands-all gate head records rest image open_gate small is =
    let gated : List (ℕ × List ℕ) = map (λ (r : List ℕ). (1, r)) records in
    let fit = gates-one (head ∷ records) small in
    spelled-stands image head records (record {
      entries = (gate, head) ∷ gated;
      rest = rest;
      gates = (open_gate, fit.1, fit.2);
      same = ap (λ (l : List (List ℕ)). head ∷ l) (map-with_gates records);
      is = is
          ∙ ap (λ (l : List ℕ). gate ∷ (l ++ rest)) (sym (frames-closed head records))
          ∙ ap (λ (l : List ℕ). gate ∷ l) (append_assoc (open_frames head records) (0 ∷ []) rest);
    })

module _ (bytes : List ℕ) (shut : IsShutFront bytes) (head : List ℕ) (records : List (List ℕ)) where
  abbrev pub frames : List ℕ
  frames = frames_of head records

  abbrev pub beyond : List ℕ
  beyond = drop (length frames) (drop 1 bytes)

  split : bytes ≡ 0 ∷ drop 1 bytes
  split = sym (take-append-drop 1 bytes) ∙ ap (λ (l : List ℕ). l ++ drop 1 bytes) shut

  pub shut-some : 1 ≤ length bytes
  shut-some = omega (arith, ap length split)

  between : written 1 frames bytes ≡ 0 ∷ (frames ++ beyond)
  between = ap (λ (b : List ℕ). written 1 frames b) split ∙ written-after [] 0 refl 0 (drop 1 bytes) frames

  -- while the gate is written
  pub filling-gate : All (λ r. length r ≤ most_record_bytes) (head ∷ records) → (mid c : List ℕ) → mid ≡ written 1 frames bytes → Torn 0 1 mid c → IsUnmadeOrMadeWith head records c
  filling-gate small mid c is torn =
      let now : c ≡ get_or c 0 0 ∷ (frames ++ beyond) =
      torn-gate [] 0 refl 0 (frames ++ beyond) c (subst (λ b. Torn 0 1 b c) (is ∙ between) torn) in
      elim (cases_eq (get_or c 0 0) 0) [
        | inl closed ↦ inl (inr (ap (λ (l : List ℕ). take 1 l) now ∙ ap (λ (g : ℕ). g ∷ []) closed))
        | inr open_gate ↦ inr (stands-all (get_or c 0 0) head records beyond c open_gate small now)
      ]

  opened : (c : List ℕ) → c ≡ written 0 (1 ∷ []) (written 1 frames bytes) → c ≡ 1 ∷ (frames ++ beyond)
  opened c is = is ∙ ap (λ (b : List ℕ). written 0 (1 ∷ []) b) between ∙ written-gate [] 0 refl 0 1 (frames ++ beyond)

  -- and once it is
  pub filled-stands : All (λ r. length r ≤ most_record_bytes) (head ∷ records) → (c : List ℕ) → c ≡ written 0 (1 ∷ []) (written 1 frames bytes) → StandsFor c head records
  filled-stands small c is = stands-all 1 head records beyond c (omega arith) small (opened c is)

  pub filled-bytes : (c : List ℕ) → c ≡ written 0 (1 ∷ []) (written 1 frames bytes) → c ≡ made_with_over head records bytes
  filled-bytes c is =
      let size : 1 + length frames ≡ length (journal_bytes head records) = omega (arith, ap length (journal-framed head records)) in
      opened c is
      ∙ ap (λ (l : List ℕ). l ++ beyond) (sym (journal-framed head records))
      ∙ ap (λ (l : List ℕ). journal_bytes head records ++ l) (drop-drop (length frames) 1 bytes ∙ ap (λ (n : ℕ). drop n bytes) size)

-- over at most one byte as over a closed gate
pub over-one : (head : List ℕ) (records : List (List ℕ)) (bytes : List ℕ) → length bytes ≤ 1 → made_with_over head records (0 ∷ []) ≡ made_with_over head records bytes
over-one head records bytes short =
    let n = length (journal_bytes head records) in
    let gate : List ℕ = 0 ∷ [] in
    let past : length gate ≤ n = omega (arith, length-journal_bytes head records) in
    let past_all : length bytes ≤ n = omega (arith, short, length-journal_bytes head records) in
    ap (λ (l : List ℕ). journal_bytes head records ++ l) (drop_all n gate past ∙ sym (drop_all n bytes past_all))
