-- Where the records of a journal stand.
use Rattle.std.proofs.Common.{◌≡◌, ℕ, zero, suc, ◌+◌, List, [], ◌∷◌, ◌++◌, length, map, take, drop, Some, refl, sym, ◌∙◌, ap, subst, arith, append_assoc}
use Rattle.std.specs.Prelude.{slice_get}
use Rattle.std.specs.Str.{bytes_eq}
use Rattle.std.proofs.lemmas.Bool.{cond_both}
use Rattle.std.proofs.lemmas.List.{take_at, drop_at, drop-drop}
use Rattle.std.proofs.lemmas.Option.{same_Some, none-some}
use Rattle.jrn_file.specs.Journal.{after_gates}
use Rattle.jrn_file.specs.Reading.{AreAt, Reading, all_of, cut, opened_of, reading_of, records_of, size_of, with_length, whole}
use Rattle.jrn_file.proofs.Readings.{Front, found}
use Rattle.jrn_file.proofs.laws.Sizes.{length-sized}

-- a record after its gate
at-entry : (entries : List (ℕ × List ℕ)) (rest : List ℕ) (k : ℕ) (r : List ℕ) → slice_get (map (λ (e : ℕ × List ℕ). e.1) entries) k ≡ Some r
    → take (length (with_length r)) (drop (size_of (take k (map (λ (e : ℕ × List ℕ). e.1) entries)) + 1) (after_gates entries ++ rest)) ≡ with_length r
at-entry [] rest k r there = absurd (none-some r there)
at-entry (e ∷ entries) rest zero r there =
    let P : List ℕ → Type 0 = λ x. take (length (with_length x)) ((with_length e.1 ++ after_gates entries) ++ rest) ≡ with_length x in
    let first : P e.1 =
    ap (λ (l : List ℕ). take (length (with_length e.1)) l) (append_assoc (with_length e.1) (after_gates entries) rest)
    ∙ take_at (with_length e.1) (after_gates entries ++ rest) (length (with_length e.1)) refl in
    subst P (same_Some e.1 r there) first
at-entry (e ∷ entries) rest (suc k) r there =
    let before = size_of (take k (map (λ (x : ℕ × List ℕ). x.1) entries)) in
    let next = after_gates entries ++ rest in
    let after = (with_length e.1 ++ after_gates entries) ++ rest in
    let size = length (with_length e.1) in
    let total : 5 + length e.1 + before + 1 ≡ 1 + (size + (before + 1)) = omega (arith, length-sized e.1) in
    let beyond : drop (5 + length e.1 + before + 1) (e.0 ∷ after) ≡ drop (before + 1) next =
    ap (λ (n : ℕ). drop n (e.0 ∷ after)) total
    ∙ sym (drop-drop (size + (before + 1)) 1 (e.0 ∷ after))
    ∙ sym (drop-drop (before + 1) size after)
    ∙ ap (λ (l : List ℕ). drop (before + 1) l) (ap (λ (l : List ℕ). drop size l) (append_assoc (with_length e.1) (after_gates entries) rest) ∙ drop_at (with_length e.1) next size refl) in
    ap (λ (l : List ℕ). take (length (with_length r)) l) beyond ∙ at-entry entries rest k r there

front-at : (bytes : List ℕ) (all : List (List ℕ)) → Front bytes all → AreAt bytes all
front-at bytes all front =
    let rest = drop (size_of all) bytes in
    subst (λ (b : List ℕ). AreAt b all) (sym front.is)
    (subst (λ (rs : List (List ℕ)). AreAt (after_gates front.entries ++ rest) rs) front.same (at-entry front.entries rest))

all-read : (all : List (List ℕ)) (rest : List ℕ) → all_of (reading_of all rest) ≡ all
all-read [] rest = refl
all-read (head ∷ records) rest =
    cond_both (bytes_eq (take 1 rest) (0 ∷ [])) (whole (head ∷ records)) (cut (head ∷ records) (size_of (head ∷ records)))
    (λ (reading : Reading). all_of reading ≡ head ∷ records) (λ closed. refl) (λ open_gate. refl)

-- each record that bytes hold stands at its place
pub at-places : (bytes : List ℕ) → AreAt bytes (all_of (opened_of bytes))
unfolding opened_of
at-places bytes =
    subst (λ (rs : List (List ℕ)). AreAt bytes rs) (sym (all-read (records_of bytes) (drop (size_of (records_of bytes)) bytes)))
    (front-at bytes (records_of bytes) (found (length bytes) bytes))
