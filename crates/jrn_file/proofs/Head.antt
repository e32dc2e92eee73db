-- The first entry, of the header record.
use Rattle.std.proofs.Common.{◌≡◌, ◌≢◌, inl, inr, ℕ, ◌+◌, ◌<◌, ◌≤◌, List, [], ◌∷◌, ◌++◌, length, get_or, take, drop, refl, sym, ◌∙◌, ap, subst, arith, append_assoc, length-append, take-append-drop}
use Rattle.std.proofs.lemmas.List.{append-nil, drop-drop, drop_all}
use Rattle.std.proofs.lemmas.Bool.{cases_eq}
use Rattle.corr_disk.specs.Disk.{written, Torn, Follows, Only}
use Rattle.jrn_file.specs.Reading.{most_record_bytes, with_length}
use Rattle.jrn_file.specs.Journal.{frame_of, record_in, journal_bytes, IsFrame, StandsFor}
use Rattle.jrn_file.specs.Making.{IsUnmade, IsUnmadeOrMade, made_over}
use Rattle.jrn_file.specs.inner.Making.{IsEntering}
use Rattle.jrn_file.proofs.Bytes.{written-after, written-gate, torn-after, torn-gate}
use Rattle.jrn_file.proofs.Readings.{spelled-stands}
use Rattle.jrn_file.proofs.laws.Sizes.{length-sized, length-journal_bytes}

stands-first : (gate : ℕ) (head rest image : List ℕ) → gate ≢ 0 → length head ≤ most_record_bytes → image ≡ gate ∷ (frame_of head ++ rest) → StandsFor image head []
stands-first gate head rest image open_gate fits is = spelled-stands image head [] (record {
  entries = (gate, head) ∷ [];
  rest = rest;
  gates = (open_gate, fits, tt);
  same = refl;
  is = is
      ∙ ap (λ (l : List ℕ). gate ∷ l) (append_assoc (with_length head) (0 ∷ []) rest)
      ∙ ap (λ (l : List ℕ). gate ∷ (l ++ 0 ∷ rest)) (sym (append-nil (with_length head)));
})

-- a torn write of one byte on a disk of at most one
pub torn-short : (old new : List ℕ → Type 0) (bytes : List ℕ) → length bytes ≤ 1 → Only bytes old → Follows (Torn 0 1) old new → (c : List ℕ) → new c → IsUnmade c
torn-short old new bytes short only follows c image =
    let from = follows c image in
    let torn : Torn 0 1 bytes c = subst (λ d. Torn 0 1 d c) (only from.0 from.1) from.2 in
    inl (omega (arith, torn.no_longer, short))

pub written-short : (bytes : List ℕ) → length bytes ≤ 1 → written 0 (0 ∷ []) bytes ≡ 0 ∷ []
written-short [] short = refl
written-short (a ∷ []) short = refl
written-short (a ∷ b ∷ bytes) short = absurd (omega (arith, short))

module _ (bytes : List ℕ) (closed : take 1 bytes ≡ 0 ∷ []) (frame : List ℕ) (framed : IsFrame frame) where
  split : bytes ≡ 0 ∷ drop 1 bytes
  split = sym (take-append-drop 1 bytes) ∙ ap (λ (l : List ℕ). l ++ drop 1 bytes) closed

  between : written 1 frame bytes ≡ 0 ∷ (frame_of (record_in frame) ++ drop (length frame) (drop 1 bytes))
  between =
      ap (λ (b : List ℕ). written 1 frame b) split
      ∙ written-after [] 0 refl 0 (drop 1 bytes) frame
      ∙ ap (λ (f : List ℕ). 0 ∷ (f ++ drop (length frame) (drop 1 bytes))) framed.is

  front-closed : (c rest : List ℕ) → c ≡ 0 ∷ rest → take 1 c ≡ 0 ∷ []
  front-closed c rest is = ap (λ (l : List ℕ). take 1 l) is

  pub head-gate-within : 0 < length bytes
  head-gate-within = omega (arith, ap length split)

  pub entering-head : (c : List ℕ) → IsEntering 0 frame bytes c → IsUnmadeOrMade (record_in frame) c
  entering-head c (inl torn) =
      inl (inr (front-closed c (drop 1 c) (torn-after [] 0 refl 0 (length frame) (drop 1 bytes) c (subst (λ b. Torn 1 (length frame) b c) split torn))))
  entering-head c (inr torn) =
      let rest = drop (length frame) (drop 1 bytes) in
      let is : c ≡ get_or c 0 0 ∷ (frame_of (record_in frame) ++ rest) =
      torn-gate [] 0 refl 0 (frame_of (record_in frame) ++ rest) c (subst (λ b. Torn 0 1 b c) between torn) in
      elim (cases_eq (get_or c 0 0) 0) [
        | inl shut ↦ inl (inr (front-closed c (frame_of (record_in frame) ++ rest) (is ∙ ap (λ (g : ℕ). g ∷ (frame_of (record_in frame) ++ rest)) shut)))
        | inr open_gate ↦ inr (stands-first (get_or c 0 0) (record_in frame) rest c open_gate framed.fits is)
      ]

  opened : (c : List ℕ) → c ≡ written 0 (1 ∷ []) (written 1 frame bytes) → c ≡ 1 ∷ (frame_of (record_in frame) ++ drop (length frame) (drop 1 bytes))
  opened c is =
      is
      ∙ ap (λ (b : List ℕ). written 0 (1 ∷ []) b) between
      ∙ written-gate [] 0 refl 0 1 (frame_of (record_in frame) ++ drop (length frame) (drop 1 bytes))

  pub entered-head : (c : List ℕ) → c ≡ written 0 (1 ∷ []) (written 1 frame bytes) → StandsFor c (record_in frame) []
  entered-head c is = stands-first 1 (record_in frame) (drop (length frame) (drop 1 bytes)) c (omega arith) framed.fits (opened c is)

  pub written-head : (c : List ℕ) → c ≡ written 0 (1 ∷ []) (written 1 frame bytes) → c ≡ made_over (record_in frame) bytes
  written-head c is =
      let size : 1 + length frame ≡ length (journal_bytes (record_in frame) []) =
      omega (arith, ap length framed.is, length-append (with_length (record_in frame)) (0 ∷ []), length-sized (record_in frame), length-journal_bytes (record_in frame) []) in
      opened c is
      ∙ ap (λ (l : List ℕ). 1 ∷ ((l ++ 0 ∷ []) ++ drop (length frame) (drop 1 bytes))) (sym (append-nil (with_length (record_in frame))))
      ∙ ap (λ (l : List ℕ). journal_bytes (record_in frame) [] ++ l) (drop-drop (length frame) 1 bytes ∙ ap (λ (n : ℕ). drop n bytes) size)

-- over at most one byte as over a closed gate
pub over-short : (head bytes : List ℕ) → length bytes ≤ 1 → made_over head (0 ∷ []) ≡ made_over head bytes
over-short head bytes short =
    let n = length (journal_bytes head []) in
    let gate : List ℕ = 0 ∷ [] in
    let past : length gate ≤ n = omega (arith, length-journal_bytes head []) in
    let past_all : length bytes ≤ n = omega (arith, short, length-journal_bytes head []) in
    ap (λ (l : List ℕ). journal_bytes head [] ++ l) (drop_all n gate past ∙ sym (drop_all n bytes past_all))
