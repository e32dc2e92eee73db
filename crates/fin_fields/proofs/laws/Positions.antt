-- The first element that passes a test.
use Rattle.std.proofs.Common.{◌≡◌, ℕ, suc, ◌+◌, ◌<◌, ◌≤◌, Bool, true, false, cond, List, [], ◌∷◌, length, option_map, position, Some, None, refl, ap, ◌∙◌, arith, inl, inr, nat_lt}
use Rattle.std.proofs.lemmas.Bool.{cases_lt, le-ltb, lt-ltb, ltb-false}
use Rattle.std.proofs.lemmas.List.Sums.{fails_before_first}
use Rattle.std.proofs.lemmas.List.Elements.{All-head, All-tail}
use Rattle.std.specs.List.{All, position_or_len}

-- an item that passes at the head has place 0
pub position-here : {X : Type 0} (p : X → Bool) (x : X) (xs : List X) → p x ≡ true → position p (x ∷ xs) ≡ Some 0
position-here p x xs h =
    let at : position_or_len p (x ∷ xs) ≡ 0 = rw h refl in
    rw (at, lt-ltb 0 (length (x ∷ xs)) (omega arith)) refl

ltb-suc : (n m : ℕ) → nat_lt (1 + n) (suc m) ≡ nat_lt n m
ltb-suc n m =
    elim (cases_lt n m) [
      | inl lt ↦ let more : 1 + n < suc m = omega arith in rw (lt-ltb n m lt, lt-ltb (1 + n) (suc m) more) refl
      | inr le ↦ let more : suc m ≤ 1 + n = omega arith in rw (le-ltb n m le, le-ltb (1 + n) (suc m) more) refl
    ]

one-later : (b c : Bool) (n : ℕ) → b ≡ c → cond b (Some (1 + n)) None ≡ option_map (λ i. i + 1) (cond c (Some n) None)
one-later true true n e = ap Some (omega arith)
one-later false false n e = refl
one-later true false n e = absurd (cc e)
one-later false true n e = absurd (cc e)

-- after an item that doesn't pass each place is one more
pub position-later : {X : Type 0} (p : X → Bool) (x : X) (xs : List X) → p x ≡ false → position p (x ∷ xs) ≡ option_map (λ i. i + 1) (position p xs)
position-later p x xs h = rw h (one-later _ _ (position_or_len p xs) (ltb-suc (position_or_len p xs) (length xs)))

-- where no item passes there is no place
pub position-none : {X : Type 0} (p : X → Bool) (xs : List X) → All (λ x. p x ≡ false) xs → position p xs ≡ None
position-none p [] none = refl
position-none p (x ∷ xs) none =
    position-later p x xs (All-head (λ x. p x ≡ false) x xs none)
    ∙ ap (option_map (λ i. i + 1)) (position-none p xs (All-tail (λ x. p x ≡ false) x xs none))

past-all : (b : Bool) (n : ℕ) → cond b (Some n) None ≡ None → b ≡ false
past-all true n e = absurd (cc e)
past-all false n e = refl

-- where there is no such element, each one fails the test
pub none-passes : {X : Type 0} (p : X → Bool) (xs : List X) → position p xs ≡ None → All (λ x. p x ≡ false) xs
none-passes p xs e = λ k d lt.
    let past : length xs ≤ position_or_len p xs = ltb-false _ _ (past-all _ (position_or_len p xs) e) in
    fails_before_first p xs k d (omega arith)
