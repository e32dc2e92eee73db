-- Which pairs there are: a line's number with the place of its partner.
use Rattle.std.proofs.Common.{◌≡◌, ℕ, zero, suc, ◌+◌, ◌<◌, List, [], ◌∷◌, ◌++◌, take, slice_index_or, Option, Some, None, refl, sym, ap, ◌∙◌, subst, arith, inl, inr, append_assoc}
use Rattle.std.specs.Prelude.{slice_get}
use Rattle.std.specs.List.{Contains}
use Rattle.std.proofs.lemmas.List.{append-nil}
use Rattle.std.proofs.lemmas.List.Elements.{Contains-append_cases, Contains-append_left, Contains-append_right}
use Rattle.std.proofs.lemmas.Option.{none-some, same_Some}
use Rattle.mt950.specs.declared.entry.Line61.{Line61}
use Rattle.statement.specs.Lines.{Placed}
use Rattle.statement.specs.inner.Lines.{RiseFrom}
use Rattle.reconcile.specs.Pairing.{pair_with, line_pairs_from, line_partner}
use Rattle.reconcile.proofs.Rising.{rise-later, rises}

pub contains-none : {A : Type 0} (x : A) → Contains [] x → ⊥
contains-none x c = absurd (omega (arith, c.1))

one-at : {A : Type 0} (x y : A) (k : ℕ) → k < 1 → slice_index_or (x ∷ []) k y ≡ y → x ≡ y
one-at x y zero lt e = e
one-at x y (suc k) lt e = absurd (omega (arith, lt))

contains-one : {A : Type 0} (x y : A) → Contains (x ∷ []) y → x ≡ y
contains-one x y c = one-at x y c.0 c.1 c.2

pub contains-first : {A : Type 0} (x : A) (xs : List A) → Contains (x ∷ xs) x
contains-first x xs = (0, omega arith, refl)

-- a pair of these lines, the first of which has number k and stands after others
pub record IsTaken (ours : List Placed) (ahead : List Line61) (k : ℕ) (lines : List Line61) (place l : ℕ) : Type 0 where
  pub at : ℕ
  pub line : Line61
  pub placed : Placed
  pub number : l ≡ k + at
  pub there : slice_get lines at ≡ Some line
  pub partner : line_partner ours (ahead ++ take at lines) line ≡ Some placed
  pub same : placed.place ≡ place

module _ (ours : List Placed) where
  here-taken : (ahead : List Line61) (k : ℕ) (line : Line61) (lines : List Line61) (place l : ℕ) (partner : Option Placed) → line_partner ours ahead line ≡ partner → Contains (pair_with k partner) (place, l)
      → IsTaken ours ahead k (line ∷ lines) place l
  here-taken ahead k line lines place l None e c = absurd (contains-none (place, l) c)
  here-taken ahead k line lines place l (Some placed) e c =
      let pair : (placed.place, k) ≡ (place, l) = contains-one (placed.place, k) (place, l) c in
      let number : k ≡ l = ap (λ (p : ℕ × ℕ). p.1) pair in
      record {
        at = 0;
        line = line;
        placed = placed;
        number = omega (arith, number);
        there = refl;
        partner = ap (λ (ls : List Line61). line_partner ours ls line) (append-nil ahead) ∙ e;
        same = ap (λ (p : ℕ × ℕ). p.0) pair;
      }

  after-taken : (ahead : List Line61) (k : ℕ) (line : Line61) (lines : List Line61) (place l : ℕ) → IsTaken ours (ahead ++ line ∷ []) (k + 1) lines place l → IsTaken ours ahead k (line ∷ lines) place l
  after-taken ahead k line lines place l t =
      let number = t.number in
      record {
        at = suc t.at;
        line = t.line;
        placed = t.placed;
        number = omega (arith, number);
        there = t.there;
        partner = ap (λ (ls : List Line61). line_partner ours ls t.line) (sym (append_assoc ahead (line ∷ []) (take t.at lines))) ∙ t.partner;
        same = t.same;
      }

  -- each pair is so
  pub pair-taken : (ahead : List Line61) (k : ℕ) (lines : List Line61) (place l : ℕ) → Contains (line_pairs_from ours ahead k lines) (place, l) → IsTaken ours ahead k lines place l
  pair-taken ahead k [] place l c = absurd (contains-none (place, l) c)
  pair-taken ahead k (line ∷ lines) place l c =
      let partner : Option Placed = line_partner ours ahead line in
      elim (Contains-append_cases (pair_with k partner) (line_pairs_from ours (ahead ++ line ∷ []) (k + 1) lines) (place, l) c) [
        | inl here ↦ here-taken ahead k line lines place l partner refl here
        | inr there ↦ after-taken ahead k line lines place l (pair-taken (ahead ++ line ∷ []) (k + 1) lines place l there)
      ]

  -- and each line with a partner is in a pair
  pub taken-pair : (ahead : List Line61) (k : ℕ) (lines : List Line61) (at : ℕ) (line : Line61) (placed : Placed) → slice_get lines at ≡ Some line → line_partner ours (ahead ++ take at lines) line ≡ Some placed
      → Contains (line_pairs_from ours ahead k lines) (placed.place, k + at)
  taken-pair ahead k [] at line placed there partner = absurd (none-some line there)
  taken-pair ahead k (first ∷ lines) zero line placed there partner =
      let same : first ≡ line = same_Some first line there in
      let own : line_partner ours ahead first ≡ Some placed = ap (line_partner ours ahead) same ∙ ap (λ (ls : List Line61). line_partner ours ls line) (sym (append-nil ahead)) ∙ partner in
      let number : k ≡ k + 0 = omega arith in
      let c : Contains (pair_with k (Some placed)) (placed.place, k) = contains-first (placed.place, k) [] in
      subst (λ (n : ℕ). Contains (line_pairs_from ours ahead k (first ∷ lines)) (placed.place, n)) number
      (Contains-append_left (pair_with k (line_partner ours ahead first)) (line_pairs_from ours (ahead ++ first ∷ []) (k + 1) lines) (placed.place, k)
      (subst (λ (o : Option Placed). Contains (pair_with k o) (placed.place, k)) (sym own) c))
  taken-pair ahead k (first ∷ lines) (suc at) line placed there partner =
      let number : k + 1 + at ≡ k + suc at = omega arith in
      let after : line_partner ours ((ahead ++ first ∷ []) ++ take at lines) line ≡ Some placed = ap (λ (ls : List Line61). line_partner ours ls line) (append_assoc ahead (first ∷ []) (take at lines)) ∙ partner in
      subst (λ (n : ℕ). Contains (line_pairs_from ours ahead k (first ∷ lines)) (placed.place, n)) number
      (Contains-append_right (pair_with k (line_partner ours ahead first)) (line_pairs_from ours (ahead ++ first ∷ []) (k + 1) lines) (placed.place, k + 1 + at)
      (taken-pair (ahead ++ first ∷ []) (k + 1) lines at line placed there after))

  -- ---- the numbers of pairs rise

  abbrev pub NumbersFrom : ℕ → List (ℕ × ℕ) → Type 0
  NumbersFrom k ps = RiseFrom (λ (p : ℕ × ℕ). p.1) k ps

  one-number : (k : ℕ) (partner : Option Placed) (ps : List (ℕ × ℕ)) → NumbersFrom (k + 1) ps → NumbersFrom k (pair_with k partner ++ ps)
  one-number k None ps up = rise-later (λ (p : ℕ × ℕ). p.1) k (k + 1) ps (omega arith) up
  one-number k (Some placed) ps up = (omega arith, up)

  numbers-rise : (ahead : List Line61) (k : ℕ) (lines : List Line61) → NumbersFrom k (line_pairs_from ours ahead k lines)
  numbers-rise ahead k [] = tt
  numbers-rise ahead k (line ∷ lines) = one-number k (line_partner ours ahead line) (line_pairs_from ours (ahead ++ line ∷ []) (k + 1) lines) (numbers-rise (ahead ++ line ∷ []) (k + 1) lines)

  pub in-order : (lines : List Line61) (i j : ℕ) (p q : ℕ × ℕ) → i < j → slice_get (line_pairs_from ours [] 1 lines) i ≡ Some p → slice_get (line_pairs_from ours [] 1 lines) j ≡ Some q → p.1 < q.1
  in-order lines i j p q lt e f = rises (λ (p : ℕ × ℕ). p.1) 1 (line_pairs_from ours [] 1 lines) i j p q (numbers-rise [] 1 lines) lt e f
