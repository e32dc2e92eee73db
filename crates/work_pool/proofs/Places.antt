-- An element at a place of a list.
use Rattle.std.proofs.Common.{◌≡◌, ◌≢◌, ◌<◌, ℕ, zero, suc, List, [], ◌∷◌, ◌++◌, length, take, drop, Some, refl, ap, ◌∙◌, arith}
use Rattle.std.proofs.Math.Seq.{take-append_seam}
use Rattle.std.proofs.Math.ListN.{set}
use Rattle.std.specs.List.{slice_get}

module _ {A : Type 0} where
  -- what was added stands after the others
  pub slice_get-snoc_here : (xs : List A) (x : A) → slice_get (xs ++ x ∷ []) (length xs) ≡ Some x
  slice_get-snoc_here [] x = refl
  slice_get-snoc_here (y ∷ ys) x = slice_get-snoc_here ys x

  -- and the others stand where they stood
  pub slice_get-snoc_else : (xs : List A) (x : A) (i : ℕ) → i ≢ length xs → slice_get (xs ++ x ∷ []) i ≡ slice_get xs i
  slice_get-snoc_else [] x zero other = absurd (other refl)
  slice_get-snoc_else [] x (suc i) other = refl
  slice_get-snoc_else (y ∷ ys) x zero other = refl
  slice_get-snoc_else (y ∷ ys) x (suc i) other = slice_get-snoc_else ys x i (λ e. other (ap suc e))

  -- what was written stands at its place
  pub slice_get-set_here : (xs : List A) (k : ℕ) (x : A) → k < length xs → slice_get (set xs k x) k ≡ Some x
  slice_get-set_here [] k x within = absurd (omega arith)
  slice_get-set_here (y ∷ ys) zero x within = refl
  slice_get-set_here (y ∷ ys) (suc k) x within = slice_get-set_here ys k x (omega arith)

  pub slice_get-set_else : (xs : List A) (k i : ℕ) (x : A) → i ≢ k → slice_get (set xs k x) i ≡ slice_get xs i
  slice_get-set_else [] k i x other = refl
  slice_get-set_else (y ∷ ys) zero zero x other = absurd (other refl)
  slice_get-set_else (y ∷ ys) zero (suc i) x other = refl
  slice_get-set_else (y ∷ ys) (suc k) zero x other = refl
  slice_get-set_else (y ∷ ys) (suc k) (suc i) x other = slice_get-set_else ys k i x (λ e. other (ap suc e))

  -- there is an element at each place below the length
  pub there_is : (xs : List A) (i : ℕ) → i < length xs → (x : A) × (slice_get xs i ≡ Some x)
  there_is [] i within = absurd (omega arith)
  there_is (x ∷ xs) zero within = (x, refl)
  there_is (x ∷ xs) (suc i) within = there_is xs i (omega arith)

  -- the elements of a vector that were lent and are back
  pub given_back : (n : ℕ) (xs old : List A) → n ≡ length xs → take n (xs ++ drop (length xs) old) ≡ xs
  given_back n xs old long = ap (λ (m : ℕ). take m (xs ++ drop (length xs) old)) long ∙ take-append_seam xs (drop (length xs) old)
