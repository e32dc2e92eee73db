-- Numbers from 1 to n of which none stands twice: there are no more than n, and where there are n, each stands among them.
use Rattle.std.proofs.Common.{◌≡◌, ◌≢◌, ◌⊎◌, inl, inr, ⊎_elim, ℕ, zero, suc, ◌+◌, ◌≤◌, List, [], ◌∷◌, length, Some, slice_get, refl, ap, sym, ◌∙◌, subst, arith}
use mathlib.Core.Logic.{dite}
use native.Mathlib.Decide.{ℕ_discrete}
use Rattle.front_word.specs.Rule.{Among, IsNumber}
use Rattle.front_word.specs.inner.Rule.{IsDistinct}

-- the list without what stands at this place
drop_at : List ℕ → ℕ → List ℕ
drop_at [] i = []
drop_at (x ∷ xs) zero = xs
drop_at (x ∷ xs) (suc i) = x ∷ drop_at xs i

length-drop_at : (xs : List ℕ) (i k : ℕ) → slice_get xs i ≡ Some k → length xs ≡ length (drop_at xs i) + 1
unfolding drop_at
length-drop_at [] i k e = absurd (cc (e))
length-drop_at (x ∷ xs) zero k e = omega arith
length-drop_at (x ∷ xs) (suc i) k e = let r = length-drop_at xs i k e in omega arith

-- where an element of the shorter list stood
place_before : ℕ → ℕ → ℕ
place_before zero j = suc j
place_before (suc i) zero = zero
place_before (suc i) (suc j) = suc (place_before i j)

drop_at-get : (xs : List ℕ) (i j k m : ℕ) → slice_get xs i ≡ Some k → slice_get (drop_at xs i) j ≡ Some m → slice_get xs (place_before i j) ≡ Some m
unfolding drop_at place_before
drop_at-get [] i j k m e h = absurd (cc (e))
drop_at-get (x ∷ xs) zero j k m e h = h
drop_at-get (x ∷ xs) (suc i) zero k m e h = h
drop_at-get (x ∷ xs) (suc i) (suc j) k m e h = drop_at-get xs i j k m e h

place_before-apart : (i j : ℕ) → place_before i j ≡ i → ⊥
unfolding place_before
place_before-apart zero j e = absurd (omega arith)
place_before-apart (suc i) zero e = absurd (omega arith)
place_before-apart (suc i) (suc j) e = place_before-apart i j (omega arith)

place_before-one : (i j k : ℕ) → place_before i j ≡ place_before i k → j ≡ k
unfolding place_before
place_before-one zero j k e = omega arith
place_before-one (suc i) zero zero e = refl
place_before-one (suc i) zero (suc k) e = absurd (omega arith)
place_before-one (suc i) (suc j) zero e = absurd (omega arith)
place_before-one (suc i) (suc j) (suc k) e = ap suc (place_before-one i j k (omega arith))

among_or_not : (k : ℕ) (xs : List ℕ) → Among k xs ⊎ (Among k xs → ⊥)
among_or_not k [] = inr (λ a. absurd (cc (a.1)))
among_or_not k (x ∷ xs) =
    dite (ℕ_discrete x k)
    (λ e. inl (zero, ap Some e))
    (λ ne. ⊎_elim (λ (a : Among k xs). inl (suc a.0, a.1)) (λ (n : Among k xs → ⊥). inr (λ a. later n ne a.0 a.1)) (among_or_not k xs))
  where
    later : (Among k xs → ⊥) → x ≢ k → (i : ℕ) → slice_get (x ∷ xs) i ≡ Some k → ⊥
    later n ne zero e = ne (cc (e))
    later n ne (suc i) e = n (i, e)

distinct_few : (n : ℕ) (xs : List ℕ) → IsDistinct xs → ((k : ℕ) → Among k xs → IsNumber n k) → length xs ≤ n
distinct_few zero [] d b = omega arith
distinct_few zero (x ∷ xs) d b = let t = b x (zero, refl) in let u = t.0 in let v = t.1 in absurd (omega arith)
distinct_few (suc n) xs d b =
    ⊎_elim
    (λ (a : Among (suc n) xs).
    let fewer = distinct_few n (drop_at xs a.0)
    (λ i j k e f. place_before-one a.0 i j (d (place_before a.0 i) (place_before a.0 j) k (drop_at-get xs a.0 i (suc n) k a.1 e) (drop_at-get xs a.0 j (suc n) k a.1 f)))
    (λ k c. let at = drop_at-get xs a.0 c.0 (suc n) k a.1 c.1 in let t = b k (place_before a.0 c.0, at) in let u = t.0 in let v = t.1 in
    let ne : k ≢ suc n = λ e. place_before-apart a.0 c.0 (d (place_before a.0 c.0) a.0 k at (a.1 ∙ ap Some (sym e))) in (u, omega arith)) in
    let len = length-drop_at xs a.0 (suc n) a.1 in omega arith)
    (λ (no_more : Among (suc n) xs → ⊥).
    let fewer = distinct_few n xs d (λ k c. let t = b k c in let u = t.0 in let v = t.1 in let ne : k ≢ suc n = λ e. no_more (c.0, c.1 ∙ ap Some e) in (u, omega arith)) in omega arith)
    (among_or_not (suc n) xs)

pub distinct_more : (k : ℕ) (xs : List ℕ) → (Among k xs → ⊥) → IsDistinct xs → IsDistinct (k ∷ xs)
distinct_more k xs new d zero zero m a b = refl
distinct_more k xs new d zero (suc j) m a b = let e : k ≡ m = cc (a) in absurd (new (j, b ∙ ap Some (sym e)))
distinct_more k xs new d (suc i) zero m a b = let e : k ≡ m = cc (b) in absurd (new (i, a ∙ ap Some (sym e)))
distinct_more k xs new d (suc i) (suc j) m a b = ap suc (d i j m a b)

pub among_more : (k m : ℕ) (xs : List ℕ) → Among m (k ∷ xs) → (k ≡ m) ⊎ Among m xs
among_more k m xs a = one a.0 a.1
  where
    one : (i : ℕ) → slice_get (k ∷ xs) i ≡ Some m → (k ≡ m) ⊎ Among m xs
    one zero e = inl (cc (e))
    one (suc i) e = inr (i, e)

-- where there are n of them, each number stands among them
pub all_among : (n : ℕ) (xs : List ℕ) → IsDistinct xs → ((k : ℕ) → Among k xs → IsNumber n k) → length xs ≡ n → (k : ℕ) → IsNumber n k → Among k xs
all_among n xs d b len k is =
    ⊎_elim
    (λ (a : Among k xs). a)
    (λ (none : Among k xs → ⊥).
    let few = distinct_few n (k ∷ xs) (distinct_more k xs none d) (λ m c. ⊎_elim (λ (e : k ≡ m). subst (IsNumber n) e is) (λ (a : Among m xs). b m a) (among_more k m xs c)) in absurd (omega arith))
    (among_or_not k xs)
