-- Lists read at a place, and lists of accounts.
use Rattle.std.proofs.lemmas.Option.{slice_get-get_or}
use Rattle.std.proofs.Common.{get_or, add-one, length-append, ◌≡◌, ◌≢◌, ◌⊎◌, ◌==◌, ◌<◌, ◌≤◌, ◌+◌, ℕ, zero, suc, List, [], ◌∷◌, ◌++◌, length, set, Some, Bool, true, false, refl, sym, ap, inl, inr, ⊎_elim, arith}
use Rattle.std.specs.Prelude.{slice_get}
use Rattle.std.proofs.lemmas.Bool.Decides.{nat_tests}
use mathlib.Core.Option.{some, some-injective, some-ne-none}
use lib.ListN.{get_elem?}
use Rattle.day_model.specs.Totals.{Pair, pair_at}
use Rattle.day_model.specs.inner.Pairs.{with_pair}
use Rattle.acct_locks.specs.inner.Seats.{IsIn, without}

module _ {A : Type 0} where
  pub get_within : (l : List A) (i : ℕ) (a : A) → get_elem? l i ≡ some a → i < length l
  get_within [] i a e = absurd (some-ne-none a (sym e))
  get_within (x ∷ xs) zero a e = omega arith
  get_within (x ∷ xs) (suc i) a e = omega (arith, get_within xs i a e)

  -- what stands in a list with one more at its end
  pub get_snoc : (l : List A) (a b : A) (j : ℕ) → get_elem? (l ++ a ∷ []) j ≡ some b → (get_elem? l j ≡ some b) ⊎ ((j ≡ length l) × (a ≡ b))
  get_snoc [] a b zero e = inr (refl, some-injective a b e)
  get_snoc [] a b (suc j) e = absurd (some-ne-none b (sym e))
  get_snoc (x ∷ xs) a b zero e = inl e
  get_snoc (x ∷ xs) a b (suc j) e = ⊎_elim inl (λ t. inr (ap suc t.0, t.1)) (get_snoc xs a b j e)

  slice_get_set : (l : List A) (k : ℕ) (a : A) → k < length l → slice_get (set l k a) k ≡ Some a
  slice_get_set [] k a h = absurd (omega arith)
  slice_get_set (x ∷ xs) zero a h = refl
  slice_get_set (x ∷ xs) (suc k) a h = slice_get_set xs k a (omega arith)

  slice_get_set_else : (l : List A) (k m : ℕ) (a : A) → m ≢ k → slice_get (set l k a) m ≡ slice_get l m
  slice_get_set_else [] k m a n = refl
  slice_get_set_else (x ∷ xs) zero zero a n = absurd (n refl)
  slice_get_set_else (x ∷ xs) zero (suc m) a n = refl
  slice_get_set_else (x ∷ xs) (suc k) zero a n = refl
  slice_get_set_else (x ∷ xs) (suc k) (suc m) a n = slice_get_set_else xs k m a (λ e. n (ap suc e))

  set_same : (l : List A) (k : ℕ) (a : A) → slice_get l k ≡ Some a → set l k a ≡ l
  set_same [] k a e = refl
  set_same (x ∷ xs) zero a e = cc
  set_same (x ∷ xs) (suc k) a e = ap (λ ys. x ∷ ys) (set_same xs k a e)

pub pair_here : (pairs : List Pair) (n : ℕ) (p : Pair) → 0 < n → n ≤ length pairs → pair_at (with_pair pairs n p) n ≡ Some p
pair_here pairs zero p pos le = absurd (omega arith)
pair_here pairs (suc k) p pos le = slice_get_set pairs k p (omega arith)

pub pair_else : (pairs : List Pair) (n m : ℕ) (p : Pair) → m ≢ n → pair_at (with_pair pairs n p) m ≡ pair_at pairs m
pair_else pairs zero zero p ne = refl
pair_else pairs zero (suc m) p ne = refl
pair_else pairs (suc n) zero p ne = refl
pair_else pairs (suc n) (suc m) p ne = slice_get_set_else pairs n m p (λ e. ne (ap suc e))

pub pair_same : (pairs : List Pair) (n : ℕ) (p : Pair) → pair_at pairs n ≡ Some p → with_pair pairs n p ≡ pairs
pair_same pairs zero p e = refl
pair_same pairs (suc k) p e = set_same pairs k p e

-- what is taken out of a list is not in it, and all else is
module _ (n : ℕ) where
  not_without_at : (x : ℕ) (xs : List ℕ) (b : Bool) → (x == n) ≡ b → (IsIn n (without n xs) → ⊥) → IsIn n (without n (x ∷ xs)) → ⊥
  not_without_at x xs true is rest = rw is rest
  not_without_at x xs false is rest = rw is (⊎_elim (λ (e : x ≡ n). absurd (grind (arith, nat_tests))) rest)

  pub not_without : (xs : List ℕ) → IsIn n (without n xs) → ⊥
  not_without [] h = h
  not_without (x ∷ xs) h = not_without_at x xs (x == n) refl (not_without xs) h

  without_else_at : (x m : ℕ) (xs : List ℕ) (b : Bool) → (x == n) ≡ b → m ≢ n → (IsIn m xs → IsIn m (without n xs)) → IsIn m (x ∷ xs) → IsIn m (without n (x ∷ xs))
  without_else_at x m xs true is ne rest h = rw is (⊎_elim (λ (e : x ≡ m). absurd (grind (arith, nat_tests))) rest h)
  without_else_at x m xs false is ne rest h = rw is (⊎_elim inl (λ i. inr (rest i)) h)

  pub without_else : (m : ℕ) (xs : List ℕ) → m ≢ n → IsIn m xs → IsIn m (without n xs)
  without_else m [] ne h = h
  without_else m (x ∷ xs) ne h = without_else_at x m xs (x == n) refl ne (without_else m xs ne) h

-- the pair of the account that follows k others
pub pair_at-next : (pairs : List Pair) (k : ℕ) (d : Pair) → k < length pairs → pair_at pairs (k + 1) ≡ Some (get_or pairs k d)
pair_at-next pairs k d h = rw add-one (slice_get-get_or pairs k d h)

module _ {A : Type 0} where
  pub length_rest : (ys xs : List A) (x : A) → ys ≡ x ∷ xs → length ys ≡ length xs + 1
  length_rest ys xs x e = omega (arith, ap length e)

  pub length_pushed : (xs ys : List A) (x : A) → ys ≡ xs ++ x ∷ [] → length ys ≡ length xs + 1
  length_pushed xs ys x e = omega (arith, ap length e, length-append xs (x ∷ []))
