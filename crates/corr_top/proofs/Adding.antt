-- Texts that are added one after another.
use Rattle.std.proofs.Common.{◌≡◌, ℕ, zero, suc, ◌+◌, ◌-◌, ◌<◌, ◌≤◌, List, [], ◌∷◌, ◌++◌, Some, sym, ap, ◌∙◌, arith, append_assoc, append-nil, drop, length, take}
use Rattle.std.specs.Prelude.{codes, min, slice_get}
use Rattle.std.proofs.lemmas.List.{drop_all, length-take}
use Rattle.std.proofs.lemmas.Option.{none-some}
use Rattle.corr_report.specs.Lines.{numbered}
use Rattle.corr_top.specs.Out.{parted_all}

-- one of the messages that are still to be added
pub parted_more : (all out text more : List ℕ) (left rest : List (List ℕ)) → left ≡ text ∷ rest → all ≡ out ++ parted_all left → more ≡ out ++ (text ++ codes "$") → all ≡ more ++ parted_all rest
parted_more all out text more left rest is so_far added =
    so_far ∙ ap (λ (l : List (List ℕ)). out ++ parted_all l) is
    ∙ sym (append_assoc out (text ++ codes "$") (parted_all rest)) ∙ ap (λ (l : List ℕ). l ++ parted_all rest) (sym added)

-- the messages of one of the entries that are still to be added
pub numbered_next : {A : Type 0} (line_of : ℕ → A → List ℕ) (n : ℕ) (all out more : List ℕ) (x : A) (left rest : List A) → left ≡ x ∷ rest → all ≡ out ++ numbered line_of n left
    → more ≡ out ++ line_of n x → all ≡ more ++ numbered line_of (n + 1) rest
numbered_next {A} line_of n all out more x left rest is so_far added =
    so_far ∙ ap (λ (l : List A). out ++ numbered line_of n l) is
    ∙ sym (append_assoc out (line_of n x) (numbered line_of (n + 1) rest)) ∙ ap (λ (l : List ℕ). l ++ numbered line_of (n + 1) rest) (sym added)

-- nothing is left
pub parted_done : (all out : List ℕ) (left : List (List ℕ)) → left ≡ [] → all ≡ out ++ parted_all left → out ≡ all
parted_done all out left none so_far = sym (so_far ∙ ap (λ (l : List (List ℕ)). out ++ parted_all l) none ∙ append-nil out)

pub numbered_done : {A : Type 0} (line_of : ℕ → A → List ℕ) (n : ℕ) (all out : List ℕ) (left : List A) → left ≡ [] → all ≡ out ++ numbered line_of n left → out ≡ all
numbered_done {A} line_of n all out left none so_far = sym (so_far ∙ ap (λ (l : List A). out ++ numbered line_of n l) none ∙ append-nil out)

-- an element of a front part is one of the whole
pub in_front : {A : Type 0} (n : ℕ) (xs : List A) (k : ℕ) (x : A) → k < n → slice_get xs k ≡ Some x → slice_get (take n xs) k ≡ Some x
in_front n [] k x less at = absurd (none-some x at)
in_front zero (y ∷ xs) k x less at = absurd (omega (arith, less))
in_front (suc n) (y ∷ xs) zero x less at = at
in_front (suc n) (y ∷ xs) (suc k) x less at = in_front n xs k x (omega (arith, less)) at

-- nothing is left after the end of a front part
pub none_after : {A : Type 0} (n : ℕ) (xs : List A) (place : ℕ) → min n (length xs) + 1 ≤ place → drop (place - 1) (take n xs) ≡ []
none_after {A} n xs place past = drop_all (place - 1) (take n xs) (omega (arith, length-take n xs, past))
