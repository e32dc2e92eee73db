-- What is in no pair is the difference of the gaps.
use Rattle.std.proofs.Common.{◌≡◌, ℕ, zero, suc, ◌+◌, ◌-◌, ◌<◌, ◌≤◌, ◌==◌, true, List, [], ◌∷◌, ◌++◌, map, length, Option, Some, refl, sym, ap, ◌∙◌, arith, ℤ, pos, negsuc, ◌+ℤ◌, ◌-ℤ◌}
use Rattle.std.specs.Prelude.{IsPermutation, neg_ℤ, slice_get, sum_by}
use Rattle.std.specs.List.{range_with_len}
use Rattle.std.specs.Option.{option_map_or}
use Rattle.std.proofs.lemmas.Int.{ints}
use Rattle.std.proofs.lemmas.List.Sorted.{sum_by-IsPermutation}
use Rattle.std.proofs.lemmas.List.Sums.{sum_by-cons}
use Rattle.std.proofs.lemmas.Option.{none-some, same_Some}
use Rattle.mt950.specs.Entry.{effect_of}
use Rattle.mt950.specs.Joining.{effects_of}
use Rattle.mt950.specs.declared.entry.Line61.{Line61}
use Rattle.statement.specs.Lines.{Placed}
use Rattle.statement.specs.inner.Lines.{PlacesFrom}
use Rattle.reconcile.specs.Comparison.{added_by, effects_at, entry_at, line_at, placed_at, total}
use Rattle.reconcile.specs.Pairing.{ours_left, pairs_of, entry_places, theirs_left}
use Rattle.reconcile.proofs.First.{at-contains, by-the-rule, contains-at, meets}
use Rattle.reconcile.proofs.Rising.{from-low}
use Rattle.reconcile.proofs.Tests.{below, itself}
use Rattle.reconcile.proofs.Once.{NumbersRise, entries-once, lines-once, places-rise}

-- ---- sums

nothing : (a : ℤ) → a ≡ pos 0 +ℤ a
nothing a = omega (arith, ints)

regroup : (a b c : ℤ) → a +ℤ (b +ℤ c) ≡ (a +ℤ b) +ℤ c
regroup a b c = omega (arith, ints)

total-append : {A : Type 0} (f : A → ℤ) (xs ys : List A) → total f (xs ++ ys) ≡ total f xs +ℤ total f ys
total-append f [] ys = nothing (total f ys)
total-append f (x ∷ xs) ys = ap (λ (a : ℤ). f x +ℤ a) (total-append f xs ys) ∙ regroup (f x) (total f xs) (total f ys)

-- what a number is above 0, and below
abbrev gain : ℤ → ℕ
gain (pos k) = k
gain (negsuc k) = 0

abbrev loss : ℤ → ℕ
loss (pos k) = 0
loss (negsuc k) = suc k

parted : (z : ℤ) → z ≡ pos (gain z) -ℤ pos (loss z)
parted (pos k) = omega (arith, ints)
parted (negsuc k) = omega (arith, ints)

step : (z rest : ℤ) (a b g l : ℕ) → z ≡ pos g -ℤ pos l → rest ≡ pos a -ℤ pos b → z +ℤ rest ≡ pos (g + a) -ℤ pos (l + b)
step z rest a b g l e f = omega (arith, ints, e, f)

total-parted : {A : Type 0} (f : A → ℤ) (xs : List A) → total f xs ≡ pos (sum_by (λ x. gain (f x)) xs) -ℤ pos (sum_by (λ x. loss (f x)) xs)
total-parted f [] = omega (arith, ints)
total-parted f (x ∷ xs) =
    step (f x) (total f xs) (sum_by (λ y. gain (f y)) xs) (sum_by (λ y. loss (f y)) xs) (gain (f x)) (loss (f x)) (parted (f x)) (total-parted f xs)
    ∙ (λ i. pos (sym (sum_by-cons (λ y. gain (f y)) x xs) i) -ℤ pos (sym (sum_by-cons (λ y. loss (f y)) x xs) i))

-- a sum doesn't depend on the order
total-permuted : {A : Type 0} (f : A → ℤ) (xs ys : List A) → IsPermutation xs ys → total f ys ≡ total f xs
total-permuted f xs ys h =
    total-parted f ys
    ∙ (λ i. pos (sum_by-IsPermutation (λ x. gain (f x)) xs ys h i) -ℤ pos (sum_by-IsPermutation (λ x. loss (f x)) xs ys h i))
    ∙ sym (total-parted f xs)

-- ---- our entries

-- each entry is found at its place
found : (low : ℕ) (ours : List Placed) (i : ℕ) (p : Placed) → PlacesFrom low ours → slice_get ours i ≡ Some p → placed_at p.place ours ≡ Some p
found low [] i p up at = absurd (none-some p at)
found low (q ∷ ps) zero p up at =
    let same : q ≡ p = same_Some q p at in
    let here : (q.place == p.place) ≡ true = ap (λ (x : Placed). x.place == p.place) same ∙ itself p.place in
    rw here (ap Some same)
found low (q ∷ ps) (suc i) p up at =
    let later = from-low (λ (x : Placed). x.place) (q.place + 1) ps i p up.1 at in
    rw (below q.place p.place (omega (arith, later))) (found (q.place + 1) ps i p up.1 at)

skipped : (p : Placed) (ps : List Placed) (low : ℕ) (ns : List ℕ) → p.place < low → NumbersRise low ns → total (entry_at (p ∷ ps)) ns ≡ total (entry_at ps) ns
skipped p ps low [] lt up = refl
skipped p ps low (n ∷ ns) lt up =
    let le = up.0 in
    let first : entry_at (p ∷ ps) n ≡ entry_at ps n = rw (below p.place n (omega (arith, lt, le))) refl in
    λ i. first i +ℤ skipped p ps (n + 1) ns (omega (arith, lt, le)) up.1 i

sum-ours : (low : ℕ) (ours : List Placed) → PlacesFrom low ours → added_by ours (entry_places ours) ≡ effects_of (map (λ p. p.line) ours)
sum-ours low [] up = refl
sum-ours low (p ∷ ps) up =
    let first : entry_at (p ∷ ps) p.place ≡ effect_of p.line = rw (itself p.place) refl in
    let rest : total (entry_at (p ∷ ps)) (entry_places ps) ≡ effects_of (map (λ q. q.line) ps) =
    skipped p ps (p.place + 1) (entry_places ps) (omega arith) (places-rise (p.place + 1) ps up.1) ∙ sum-ours (p.place + 1) ps up.1 in
    λ i. first i +ℤ rest i

-- ---- their lines

sum-lines : (whole : List Line61) (k : ℕ) (lines : List Line61) → 1 ≤ k → ((i : ℕ) → slice_get whole (k - 1 + i) ≡ slice_get lines i) → total (line_at whole) (range_with_len k (length lines)) ≡ effects_of lines
sum-lines whole k [] le here = refl
sum-lines whole k (line ∷ lines) le here =
    let place : k - 1 ≡ k - 1 + 0 = omega arith in
    let first : line_at whole k ≡ effect_of line = ap (λ (o : Option Line61). option_map_or effect_of o (pos 0)) (ap (slice_get whole) place ∙ here 0) in
    let rest : total (line_at whole) (range_with_len (k + 1) (length lines)) ≡ effects_of lines =
    sum-lines whole (k + 1) lines (omega arith) (λ i. let next : k + 1 - 1 + i ≡ k - 1 + suc i = omega (arith, le) in ap (slice_get whole) next ∙ here (suc i)) in
    λ i. first i +ℤ rest i

sum-theirs : (theirs : List Line61) → effects_at theirs (range_with_len 1 (length theirs)) ≡ effects_of theirs
sum-theirs theirs = sum-lines theirs 1 theirs (omega arith) (λ i. let same : 1 - 1 + i ≡ i = omega arith in ap (slice_get theirs) same)

-- ---- pairs

cancels : (a b x y : ℤ) → a +ℤ b ≡ pos 0 → x +ℤ y ≡ pos 0 → (a +ℤ x) +ℤ (b +ℤ y) ≡ pos 0
cancels a b x y e f = omega (arith, ints, e, f)

all-cancel : (f g : ℕ → ℤ) (ps : List (ℕ × ℕ)) → ((i : ℕ) (p : ℕ × ℕ) → slice_get ps i ≡ Some p → f p.0 +ℤ g p.1 ≡ pos 0) → total f (map (λ p. p.0) ps) +ℤ total g (map (λ p. p.1) ps) ≡ pos 0
all-cancel f g [] each = omega (arith, ints)
all-cancel f g (p ∷ ps) each =
    cancels (f p.0) (g p.1) (total f (map (λ q. q.0) ps)) (total g (map (λ q. q.1) ps)) (each 0 p refl) (all-cancel f g ps (λ i q e. each (suc i) q e))

opposite : (a b : ℤ) → neg_ℤ b ≡ a → a +ℤ b ≡ pos 0
opposite a b e = grind (arith, ints)

differ : (before after opening closing ours theirs paired lines left alone : ℤ) → before +ℤ ours ≡ after → opening +ℤ theirs ≡ closing → ours ≡ paired +ℤ left → theirs ≡ lines +ℤ alone → paired +ℤ lines ≡ pos 0
    → after +ℤ closing ≡ ((before +ℤ opening) +ℤ left) +ℤ alone
differ before after opening closing ours theirs paired lines left alone a b c d e = omega (arith, ints, a, b, c, d, e)

module _ (low : ℕ) (ours : List Placed) (theirs : List Line61) (up : PlacesFrom low ours) where
  abbrev pairs : List (ℕ × ℕ)
  pairs = pairs_of ours theirs

  pair-cancels : (i : ℕ) (p : ℕ × ℕ) → slice_get pairs i ≡ Some p → entry_at ours p.0 +ℤ line_at theirs p.1 ≡ pos 0
  pair-cancels i p at =
      let taken = (by-the-rule low ours theirs up).takes p.0 p.1 (contains-at pairs i p at) in
      let free = taken.2.free in
      let there : placed_at p.0 ours ≡ Some taken.0 =
      ap (λ (n : ℕ). placed_at n ours) (sym taken.1) ∙ found low ours free.is_ours.0 taken.0 up (at-contains ours taken.0 free.is_ours) in
      let entry : entry_at ours p.0 ≡ effect_of taken.0.line = ap (λ (o : Option Placed). option_map_or (λ q. effect_of q.line) o (pos 0)) there in
      let line : line_at theirs p.1 ≡ effect_of free.line = ap (λ (o : Option Line61). option_map_or effect_of o (pos 0)) free.there in
      (λ j. entry j +ℤ line j) ∙ opposite (effect_of taken.0.line) (effect_of free.line) (meets free.line taken.0 free.same).effect

  pub gaps-differ : (before after opening closing : ℤ) → before +ℤ effects_of (map (λ p. p.line) ours) ≡ after → opening +ℤ effects_of theirs ≡ closing
      → after +ℤ closing ≡ ((before +ℤ opening) +ℤ added_by ours (ours_left pairs ours)) +ℤ effects_at theirs (theirs_left ours theirs)
  gaps-differ before after opening closing a b =
      let front : List ℕ = map (λ p. p.0) pairs in
      let numbers : List ℕ = map (λ p. p.1) pairs in
      let c : effects_of (map (λ p. p.line) ours) ≡ added_by ours front +ℤ added_by ours (ours_left pairs ours) =
      sym (sum-ours low ours up) ∙ total-permuted (entry_at ours) (front ++ ours_left pairs ours) (entry_places ours) (entries-once low ours theirs up) ∙ total-append (entry_at ours) front (ours_left pairs ours) in
      let d : effects_of theirs ≡ effects_at theirs numbers +ℤ effects_at theirs (theirs_left ours theirs) =
      sym (sum-theirs theirs) ∙ total-permuted (line_at theirs) (numbers ++ theirs_left ours theirs) (range_with_len 1 (length theirs)) (lines-once ours theirs)
      ∙ total-append (line_at theirs) numbers (theirs_left ours theirs) in
      let e : added_by ours front +ℤ effects_at theirs numbers ≡ pos 0 = all-cancel (entry_at ours) (line_at theirs) pairs pair-cancels in
      differ before after opening closing _ _ (added_by ours front) (effects_at theirs numbers) (added_by ours (ours_left pairs ours)) (effects_at theirs (theirs_left ours theirs)) a b c d e
