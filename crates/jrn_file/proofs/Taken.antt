-- Records that are taken out of bytes.
use Rattle.std.proofs.Common.{◌≡◌, ◌≢◌, inl, inr, ℕ, ◌+◌, ◌-◌, ◌<◌, ◌≤◌, false, cond, List, [], ◌∷◌, ◌++◌, length, map, get_or, take, drop, refl, sym, ◌∙◌, ap, subst, arith, append_assoc, length-append, length-drop}
use Rattle.std.specs.Str.{bytes_eq}
use Rattle.std.proofs.lemmas.List.{append-nil, map-append, drop_at, drop_more, drop-drop, drop_all}
use Rattle.std.proofs.lemmas.Bool.{cases_lt, false_from_ne_true}
use Rattle.std.proofs.lemmas.Slice.Eq.{bytes_eq-Decides}
use Rattle.jrn_file.specs.Reading.{no_journal, whole, cut, opened_of, reading_of, size_of, with_length}
use Rattle.jrn_file.specs.Journal.{after_gates}
use Rattle.jrn_file.specs.inner.Opening.{BeginsWith, IsWhole, HasNoRecord, IsShut, IsTooLong, IsReadAs}
use Rattle.jrn_file.specs.inner.Pieces.{AreTakenOff}
use Rattle.jrn_file.proofs.Readings.{none-beyond, taken-read}
use Rattle.jrn_file.proofs.laws.Sizes.{length-after_gates, length-journal_bytes, length-sized, after_gates-append, AreOpen-append}

pub taken-start : (bytes : List ℕ) → AreTakenOff bytes [] bytes
taken-start bytes = record { entries = []; gates = tt; same = refl; is = refl; gate = inl refl }

-- one record more
pub taken-more : (bytes : List ℕ) (all : List (List ℕ)) (at : ℕ) (r : List ℕ) → AreTakenOff bytes all (drop at bytes) → at < length bytes → get_or bytes at 0 ≢ 0
    → BeginsWith (drop (at + 1) bytes) r → AreTakenOff bytes (all ++ r ∷ []) (drop (at + (5 + length r)) bytes)
taken-more bytes all at r taken within open_gate begins =
    let gate = get_or bytes at 0 in
    let entry : ℕ × List ℕ = (gate, r) in
    let front = after_gates taken.entries in
    let next = begins.gate ∷ begins.rest in
    let whole : bytes ≡ after_gates (taken.entries ++ entry ∷ []) ++ next =
    taken.is
    ∙ ap (λ (l : List ℕ). front ++ l) (drop_more bytes at 0 within ∙ ap (λ (l : List ℕ). gate ∷ l) begins.is)
    ∙ ap (λ (l : List ℕ). front ++ gate ∷ (l ++ next)) (sym (append-nil (with_length r)))
    ∙ sym (append_assoc front (gate ∷ (with_length r ++ [])) next)
    ∙ ap (λ (l : List ℕ). l ++ next) (sym (after_gates-append taken.entries (entry ∷ []))) in
    let size : at + (5 + length r) ≡ at + 1 + length (with_length r) = omega (arith, length-sized r) in
    let tail : drop (at + (5 + length r)) bytes ≡ next =
    ap (λ (n : ℕ). drop n bytes) size
    ∙ sym (drop-drop (length (with_length r)) (at + 1) bytes)
    ∙ ap (λ (l : List ℕ). drop (length (with_length r)) l) begins.is
    ∙ drop_at (with_length r) next (length (with_length r)) refl in
    subst (λ l. AreTakenOff bytes (all ++ r ∷ []) l) (sym tail) (record {
      entries = taken.entries ++ entry ∷ [];
      gates = AreOpen-append taken.entries (entry ∷ []) taken.gates (open_gate, begins.fits, tt);
      same = map-append (λ (e : ℕ × List ℕ). e.1) taken.entries (entry ∷ []) ∙ ap (λ (l : List (List ℕ)). l ++ r ∷ []) taken.same;
      is = whole;
      gate = inr (omega arith);
    })

-- a record after this place ends within the bytes
pub record-within : (bytes : List ℕ) (at : ℕ) (r : List ℕ) → BeginsWith (drop (at + 1) bytes) r → at + (5 + length r) ≤ length bytes
record-within bytes at r begins =
    omega (arith, ap length begins.is, length-drop (at + 1) bytes, length-append (with_length r) (begins.gate ∷ begins.rest), length-sized r)

-- no record stands here
pub stops-shut : (bytes : List ℕ) (at : ℕ) → (at < length bytes → get_or bytes at 0 ≡ 0) → HasNoRecord (drop at bytes)
stops-shut bytes at shut =
    elim (cases_lt at (length bytes)) [
      | inr past ↦ subst HasNoRecord (sym (drop_all at bytes past)) tt
      | inl within ↦ subst HasNoRecord (sym (drop_more bytes at 0 within)) (inl (shut within))
    ]

pub stops-cut : (bytes : List ℕ) (at : ℕ) → at < length bytes → (IsWhole (drop (at + 1) bytes) → ⊥) → HasNoRecord (drop at bytes)
stops-cut bytes at within none = subst HasNoRecord (sym (drop_more bytes at 0 within)) (inr none)

no-entries : (entries : List (ℕ × List ℕ)) → length (map (λ (e : ℕ × List ℕ). e.1) entries) ≡ 0 → after_gates entries ≡ []
no-entries [] none = refl
no-entries (e ∷ entries) none = absurd (omega (arith, none))

-- the next bytes come
pub taken-then : (bytes held piece rest : List ℕ) (all more : List (List ℕ)) → AreTakenOff bytes all held → AreTakenOff (held ++ piece) more rest
    → AreTakenOff (bytes ++ piece) (all ++ more) rest
taken-then bytes held piece rest all more one two = record {
  entries = one.entries ++ two.entries;
  gates = AreOpen-append one.entries two.entries one.gates two.gates;
  same = map-append (λ (e : ℕ × List ℕ). e.1) one.entries two.entries ∙ ap (λ (l : List (List ℕ)). l ++ map (λ (e : ℕ × List ℕ). e.1) two.entries) one.same ∙ ap (λ (l : List (List ℕ)). all ++ l) two.same;
  is = ap (λ (l : List ℕ). l ++ piece) one.is
      ∙ append_assoc (after_gates one.entries) held piece
      ∙ ap (λ (l : List ℕ). after_gates one.entries ++ l) two.is
      ∙ sym (append_assoc (after_gates one.entries) (after_gates two.entries) rest)
      ∙ ap (λ (l : List ℕ). l ++ rest) (sym (after_gates-append one.entries two.entries));
  gate = elim two.gate [
    | inr some ↦ inr some
    | inl none ↦ elim one.gate [
      | inl none_before ↦ inl (ap (λ (l : List (List ℕ)). l ++ more) none_before ∙ none)
      | inr some_held ↦ inr (omega (
        arith,
        some_held,
        length-append held piece,
        ap length (two.is ∙ ap (λ (l : List ℕ). l ++ rest) (no-entries two.entries (ap length (two.same ∙ none)))),
      ))
    ]
  ];
}

-- the same with more bytes after
taken-after : (bytes held : List ℕ) (all : List (List ℕ)) (beyond : List ℕ) → AreTakenOff bytes all held → 0 < length held → AreTakenOff (bytes ++ beyond) all (held ++ beyond)
taken-after bytes held all beyond taken some = record {
  entries = taken.entries;
  gates = taken.gates;
  same = taken.same;
  is = ap (λ (l : List ℕ). l ++ beyond) taken.is ∙ append_assoc (after_gates taken.entries) held beyond;
  gate = inr (omega (arith, some, length-append held beyond));
}

-- a closed gate after the records
pub taken-end : (bytes held : List ℕ) (all : List (List ℕ)) → AreTakenOff bytes all held → IsShut held → 0 < length all
    → (beyond : List ℕ) → IsReadAs (bytes ++ beyond) (length bytes - length held) all
taken-end bytes [] all taken shut some beyond = absurd shut
taken-end bytes (gate ∷ after) [] taken shut some beyond = absurd (omega (arith, some))
taken-end bytes (gate ∷ after) (head ∷ records) taken shut some beyond = record {
  head = head;
  records = records;
  all_is = refl;
  stands = taken-read (bytes ++ beyond) (head ∷ records) (gate ∷ (after ++ beyond)) (taken-after bytes (gate ∷ after) (head ∷ records) beyond taken (omega arith)) (inl shut)
      ∙ ap (λ (g : ℕ). reading_of (head ∷ records) (g ∷ (after ++ beyond))) shut;
  place = omega (
    arith,
    ap length taken.is,
    length-append (after_gates taken.entries) (gate ∷ after),
    length-after_gates taken.entries,
    ap size_of taken.same,
    length-journal_bytes head records,
  );
}

-- a closed gate and no record
pub taken-none : (bytes held : List ℕ) (all : List (List ℕ)) → AreTakenOff bytes all held → IsShut held → length all ≡ 0
    → (beyond : List ℕ) → opened_of (bytes ++ beyond) ≡ no_journal
taken-none bytes [] all taken shut none beyond = absurd shut
taken-none bytes (gate ∷ after) [] taken shut none beyond =
    taken-read (bytes ++ beyond) [] (gate ∷ (after ++ beyond)) (taken-after bytes (gate ∷ after) [] beyond taken (omega arith)) (inl shut)
taken-none bytes (gate ∷ after) (r ∷ all) taken shut none beyond = absurd (omega (arith, none))

-- an open gate, or nothing, and no whole record after it, before the first record
pub taken-refused : (bytes held : List ℕ) (all : List (List ℕ)) → AreTakenOff bytes all held → HasNoRecord held → length all ≡ 0 → opened_of bytes ≡ no_journal
taken-refused bytes held [] taken stopped none = taken-read bytes [] held taken stopped
taken-refused bytes held (r ∷ all) taken stopped none = absurd (omega (arith, none))

not-closed : (gate : ℕ) (after : List ℕ) → (gate ≡ 0 → ⊥) → bytes_eq (take 1 (gate ∷ after)) (0 ∷ []) ≡ false
not-closed gate after open_gate =
    false_from_ne_true (bytes_eq (take 1 (gate ∷ after)) (0 ∷ []))
    (λ e. open_gate (ap (λ (l : List ℕ). get_or l 0 0) ((bytes_eq-Decides (take 1 (gate ∷ after)) (0 ∷ [])).0 e)))

-- and after records
pub taken-cut : (bytes held : List ℕ) (all : List (List ℕ)) → AreTakenOff bytes all held → HasNoRecord held → (IsShut held → ⊥) → 0 < length all
    → opened_of bytes ≡ cut all (length bytes - length held)
taken-cut bytes held [] taken stopped open_gate some = absurd (omega (arith, some))
taken-cut bytes [] (r ∷ all) taken stopped open_gate some =
    elim taken.gate [ inl empty ↦ absurd (omega (arith, ap length empty)) | inr lt ↦ absurd (omega (arith, lt)) ]
taken-cut bytes (gate ∷ after) (r ∷ all) taken stopped open_gate some =
    let size : size_of (r ∷ all) ≡ length bytes - length (gate ∷ after) =
    omega (arith, ap length taken.is, length-append (after_gates taken.entries) (gate ∷ after), length-after_gates taken.entries, ap size_of taken.same) in
    taken-read bytes (r ∷ all) (gate ∷ after) taken stopped
    ∙ ap (λ b. cond b (whole (r ∷ all)) (cut (r ∷ all) (size_of (r ∷ all)))) (not-closed gate after open_gate)
    ∙ ap (λ (n : ℕ). cut (r ∷ all) n) size

-- the same where a length tells more than a record may have, whatever comes after it
module _ (bytes held : List ℕ) (all : List (List ℕ)) (taken : AreTakenOff bytes all held) (long : IsTooLong held) (beyond : List ℕ) where
  none-after : (l : List ℕ) → IsTooLong l → HasNoRecord (l ++ beyond)
  none-after [] past = absurd past
  none-after (gate ∷ after) past = none-beyond gate after beyond past.0 past.1

  open-after : (l : List ℕ) → IsTooLong l → (IsShut l → ⊥) → IsShut (l ++ beyond) → ⊥
  open-after [] past open_gate = absurd past
  open-after (gate ∷ after) past open_gate = open_gate

  some-held : (l : List ℕ) → IsTooLong l → 0 < length l
  some-held [] past = absurd past
  some-held (gate ∷ after) past = omega arith

  further : AreTakenOff (bytes ++ beyond) all (held ++ beyond)
  further = taken-after bytes held all beyond taken (some-held held long)

  pub long-refused : length all ≡ 0 → opened_of (bytes ++ beyond) ≡ no_journal
  long-refused none = taken-refused (bytes ++ beyond) (held ++ beyond) all further (none-after held long) none

  pub long-cut : (IsShut held → ⊥) → 0 < length all → opened_of (bytes ++ beyond) ≡ cut all (length bytes - length held)
  long-cut open_gate some =
      taken-cut (bytes ++ beyond) (held ++ beyond) all further (none-after held long) (open-after held long open_gate) some
      ∙ ap (λ (n : ℕ). cut all n) (omega (arith, length-append bytes beyond, length-append held beyond))
