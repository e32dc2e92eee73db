-- A record that was cut short before a piece came ends within that piece.
use Rattle.std.proofs.Common.{◌≡◌, inl, inr, ℕ, suc, refl, ◌+◌, ◌-◌, ◌<◌, ◌≤◌, List, [], ◌∷◌, ◌++◌, length, get_or, take, drop, sym, ◌∙◌, ap, arith, append_assoc, length-append}
use Rattle.std.proofs.lemmas.List.{take_at}
use Rattle.std.proofs.lemmas.Bool.{cases_lt}
use Rattle.std.proofs.Math.Seq.{take-append-add}
use Rattle.jrn_file.specs.Reading.{most_record_bytes, with_length}
use Rattle.jrn_file.specs.Journal.{after_gates}
use Rattle.jrn_file.specs.inner.Journal.{AreOpen}
use Rattle.jrn_file.specs.inner.Opening.{IsWhole, HasNoRecord, IsShut}
use Rattle.jrn_file.specs.inner.Pieces.{AreTakenOff}

-- a front that is longer than a record has it whole
whole-in-front : (r next after piece : List ℕ) → length r ≤ most_record_bytes → after ++ piece ≡ with_length r ++ next → length (with_length r) < length after → IsWhole after
whole-in-front r [] after piece fits is long =
    absurd (omega (arith, long, ap length is, length-append after piece, length-append (with_length r) []))
whole-in-front r (gate ∷ next) after piece fits is long =
    let k = length after - length (with_length r) - 1 in
    let size : length after ≡ length (with_length r) + suc k = omega (arith, long) in (
      r,
      record {
        gate = gate;
        rest = take k next;
        fits = fits;
        is = sym (take_at after piece (length after) refl)
            ∙ ap (λ (l : List ℕ). take (length after) l) is
            ∙ ap (λ (n : ℕ). take n (with_length r ++ gate ∷ next)) size
            ∙ take-append-add (with_length r) (gate ∷ next) (suc k);
      },
    )

pub in-last-piece : (held piece rest : List ℕ) (more : List (List ℕ)) → HasNoRecord held → (IsShut held → ⊥) → AreTakenOff (held ++ piece) more rest → IsShut rest
    → length rest ≤ length piece
in-last-piece [] piece rest more stopped open_gate taken shut =
    omega (arith, ap length taken.is, length-append (after_gates taken.entries) rest)
in-last-piece (g ∷ after) piece rest more (inl closed) open_gate taken shut = absurd (open_gate closed)
in-last-piece (g ∷ after) piece [] more (inr cut) open_gate taken shut = absurd shut
in-last-piece (g ∷ after) piece (h ∷ rest) more (inr cut) open_gate taken shut = beyond taken.entries taken.gates taken.is
  where
    beyond : (entries : List (ℕ × List ℕ)) → AreOpen entries → g ∷ (after ++ piece) ≡ after_gates entries ++ h ∷ rest → length (h ∷ rest) ≤ length piece
    beyond [] gates is = absurd (open_gate (ap (λ (l : List ℕ). get_or l 0 0) is ∙ shut))
    beyond (e ∷ entries) gates is =
        let next = after_gates entries ++ h ∷ rest in
        let same : after ++ piece ≡ with_length e.1 ++ next =
        ap (λ (l : List ℕ). drop 1 l) is ∙ append_assoc (with_length e.1) (after_gates entries) (h ∷ rest) in
        elim (cases_lt (length piece) (length (h ∷ rest))) [
          | inl more_left ↦
              absurd (cut (whole-in-front e.1 next after piece gates.1 same (omega (arith, more_left, ap length same, length-append after piece, length-append (with_length e.1) next, length-append (after_gates entries) (h ∷ rest)))))
          | inr within ↦ within
        ]
