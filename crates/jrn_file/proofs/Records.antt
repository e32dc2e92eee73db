-- Records after their gates, and what an entry makes of them.
use Rattle.std.specs.Prelude.{slice_index_or}
use Rattle.std.specs.List.{All}
use Rattle.std.proofs.Common.{◌≡◌, ◌≢◌, inl, inr, ℕ, zero, suc, ◌+◌, ◌<◌, ◌≤◌, List, [], ◌∷◌, ◌++◌, length, map, get_or, drop, sym, ◌∙◌, ap, subst, arith, append_assoc, length-append}
use Rattle.std.proofs.lemmas.List.{map-append}
use Rattle.std.proofs.lemmas.Bool.{cases_eq}
use Rattle.corr_disk.specs.Disk.{written, Torn}
use Rattle.jrn_file.specs.Reading.{most_record_bytes, with_length, size_of}
use Rattle.jrn_file.specs.Journal.{frames_of, record_in, IsFrame, AreFrames, after_gates, journal_bytes, StandsFor, IsBeforeOrAll}
use Rattle.jrn_file.specs.inner.Journal.{AreOpen}
use Rattle.jrn_file.specs.inner.Making.{IsEntering}
use Rattle.jrn_file.proofs.Readings.{Spelled, spelled-stands}
use Rattle.jrn_file.proofs.laws.Sizes.{length-sized, length-after_gates, length-journal_bytes, map-with_gates, size_of-append, after_gates-append, AreOpen-append}
use Rattle.jrn_file.proofs.Bytes.{length-gate, written-after, written-gate, torn-after, torn-gate}

-- records of such lengths, each after the gate 1
pub gates-one : (records : List (List ℕ)) → All (λ r. length r ≤ most_record_bytes) records → AreOpen (map (λ (r : List ℕ). (1, r)) records)
gates-one [] fits = tt
gates-one (r ∷ records) fits = (omega arith, fits 0 r (omega arith), gates-one records (λ k d below. fits (suc k) d (omega (arith, below))))

-- more open records, and a closed gate
pub stands-more : (entries : List (ℕ × List ℕ)) (head : List ℕ) (records : List (List ℕ)) (gate : ℕ) (first : List ℕ) (more : List (List ℕ)) (rest image : List ℕ)
    → AreOpen entries → map (λ e. e.1) entries ≡ head ∷ records → gate ≢ 0 → All (λ r. length r ≤ most_record_bytes) (first ∷ more)
    → image ≡ after_gates entries ++ gate ∷ (frames_of first more ++ rest) → StandsFor image head (records ++ first ∷ more)
stands-more entries head records gate first more rest image gates same open_gate fits is =
    let gated : List (ℕ × List ℕ) = map (λ (r : List ℕ). (1, r)) more in
    let fit = gates-one (first ∷ more) fits in
    spelled-stands image head (records ++ first ∷ more) (record {
      entries = entries ++ (gate, first) ∷ gated;
      rest = rest;
      gates = AreOpen-append entries ((gate, first) ∷ gated) gates (open_gate, fit.1, fit.2);
      same = map-append (λ (e : ℕ × List ℕ). e.1) entries ((gate, first) ∷ gated) ∙ ap (λ (l : List (List ℕ)). l ++ first ∷ map (λ (e : ℕ × List ℕ). e.1) gated) same
          ∙ ap (λ (l : List (List ℕ)). head ∷ (records ++ first ∷ l)) (map-with_gates more);
      is = is
          ∙ ap (λ (l : List ℕ). after_gates entries ++ gate ∷ l) (append_assoc (with_length first) (after_gates gated ++ 0 ∷ []) rest)
          ∙ ap (λ (l : List ℕ). after_gates entries ++ gate ∷ (with_length first ++ l)) (append_assoc (after_gates gated) (0 ∷ []) rest)
          ∙ ap (λ (l : List ℕ). after_gates entries ++ gate ∷ l) (sym (append_assoc (with_length first) (after_gates gated) (0 ∷ rest)))
          ∙ sym (append_assoc (after_gates entries) (gate ∷ (with_length first ++ after_gates gated)) (0 ∷ rest))
          ∙ ap (λ (l : List ℕ). l ++ 0 ∷ rest) (sym (after_gates-append entries ((gate, first) ∷ gated)));
    })

-- what any gate before whole frames makes of the records
pub stands-gate : (entries : List (ℕ × List ℕ)) (head : List ℕ) (records : List (List ℕ)) (gate : ℕ) (first : List ℕ) (more : List (List ℕ)) (rest image : List ℕ)
    → AreOpen entries → map (λ e. e.1) entries ≡ head ∷ records → All (λ r. length r ≤ most_record_bytes) (first ∷ more)
    → image ≡ after_gates entries ++ gate ∷ (frames_of first more ++ rest) → IsBeforeOrAll head records (first ∷ more) image
stands-gate entries head records gate first more rest image gates same fits is = elim (cases_eq gate 0) [
  | inl shut ↦ inl (spelled-stands image head records (record {
    entries = entries;
    rest = frames_of first more ++ rest;
    gates = gates;
    same = same;
    is = is ∙ ap (λ (g : ℕ). after_gates entries ++ g ∷ (frames_of first more ++ rest)) shut;
  }))
  | inr open_gate ↦ inr (stands-more entries head records gate first more rest image gates same open_gate fits is)
]

-- how long frames are
pub length-frames : (first : List ℕ) (more : List (List ℕ)) → length (frames_of first more) ≡ size_of (first ∷ more)
length-frames first more =
    let gated : List (ℕ × List ℕ) = map (λ (r : List ℕ). (1, r)) more in
    omega (
      arith,
      length-append (with_length first) (after_gates gated ++ 0 ∷ []),
      length-sized first,
      length-append (after_gates gated) (0 ∷ []),
      length-after_gates gated,
      ap size_of (map-with_gates more),
    )

-- the place of the closed gate after more records
pub place-more : (head : List ℕ) (records : List (List ℕ)) (end : ℕ) → end + 1 ≡ length (journal_bytes head records)
    → (frames first : List ℕ) (more : List (List ℕ)) → AreFrames frames first more
    → end + length frames + 1 ≡ length (journal_bytes head (records ++ first ∷ more))
place-more head records end place frames first more framed = omega (
  arith,
  place,
  length-journal_bytes head records,
  length-journal_bytes head (records ++ first ∷ more),
  size_of-append records (first ∷ more),
  ap length framed.is,
  length-frames first more,
)

module _ (bytes head : List ℕ) (records : List (List ℕ)) (stands : Spelled bytes head records) (end : ℕ) (place : end + 1 ≡ length (journal_bytes head records)) where
  front : end ≡ length (after_gates stands.entries)
  front = omega (arith, place, length-journal_bytes head records, length-after_gates stands.entries, ap size_of stands.same)

  pub gate-within : end < length bytes
  gate-within = omega (arith, ap length stands.is, length-gate (after_gates stands.entries) end front 0 stands.rest)

  module _ (frames first : List ℕ) (more : List (List ℕ)) (framed : AreFrames frames first more) where
    between : written (end + 1) frames bytes ≡ after_gates stands.entries ++ 0 ∷ (frames_of first more ++ drop (length frames) stands.rest)
    between =
        ap (λ (b : List ℕ). written (end + 1) frames b) stands.is
        ∙ written-after (after_gates stands.entries) end front 0 stands.rest frames
        ∙ ap (λ (f : List ℕ). after_gates stands.entries ++ 0 ∷ (f ++ drop (length frames) stands.rest)) framed.is

    -- while the records are entered
    pub entering-stands : (c : List ℕ) → IsEntering end frames bytes c → IsBeforeOrAll head records (first ∷ more) c
    entering-stands c (inl torn) = inl (spelled-stands c head records (record {
      entries = stands.entries;
      rest = drop (end + 1) c;
      gates = stands.gates;
      same = stands.same;
      is = torn-after (after_gates stands.entries) end front 0 (length frames) stands.rest c (subst (λ b. Torn (end + 1) (length frames) b c) stands.is torn);
    }))
    entering-stands c (inr torn) =
        stands-gate stands.entries head records (get_or c end 0) first more (drop (length frames) stands.rest) c stands.gates stands.same framed.fits
        (torn-gate (after_gates stands.entries) end front 0 (frames_of first more ++ drop (length frames) stands.rest) c (subst (λ b. Torn end 1 b c) between torn))

    -- and once they are
    pub entered-stands : (c : List ℕ) → c ≡ written end (1 ∷ []) (written (end + 1) frames bytes) → StandsFor c head (records ++ first ∷ more)
    entered-stands c is =
        stands-more stands.entries head records 1 first more (drop (length frames) stands.rest) c stands.gates stands.same (omega arith) framed.fits
        (is ∙ ap (λ (b : List ℕ). written end (1 ∷ []) b) between
        ∙ written-gate (after_gates stands.entries) end front 0 1 (frames_of first more ++ drop (length frames) stands.rest))

-- a frame alone
pub one-framed : (frame : List ℕ) → IsFrame frame → AreFrames frame (record_in frame) []
one-framed frame framed = record { is = framed.is; fits = λ k d below. fits-alone k d below }
  where
    fits-alone : (k : ℕ) (d : List ℕ) → k < length (record_in frame ∷ []) → length (slice_index_or (record_in frame ∷ []) k d) ≤ most_record_bytes
    fits-alone zero d below = framed.fits
    fits-alone (suc k) d below = absurd (omega (arith, below))
