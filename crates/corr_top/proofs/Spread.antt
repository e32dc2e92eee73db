-- Distinct elements, each of which stands in a list that is no longer: that list has them in another order.
use Rattle.std.proofs.Common.{◌≡◌, ◌⊎◌, inl, inr, ◌≤◌, List, [], ◌∷◌, ◌++◌, length, refl, sym, ap, subst, arith, length-append}
use Rattle.std.specs.List.Sorted.{IsPermutation}
use Rattle.std.proofs.lemmas.List.Sorted.{IsPermutation-cons, IsPermutation-middle, IsPermutation-refl, IsPermutation-sym, IsPermutation-trans}

module _ {X K : Type 0} (f : X → K) where
  -- an element of a list has this key
  abbrev pub Has : K → List X → Type 0
  Has k [] = ⊥
  Has k (x ∷ xs) = (k ≡ f x) ⊎ Has k xs

  -- no two elements have one key
  abbrev pub AreDistinct : List X → Type 0
  AreDistinct [] = Unit {0}
  AreDistinct (x ∷ xs) = (Has (f x) xs → ⊥) × AreDistinct xs

  -- a key of a list with one more element is that element's or one of the others'
  pub has_either : (xs ys : List X) (x : X) (k : K) → Has k (xs ++ x ∷ ys) → (k ≡ f x) ⊎ Has k (xs ++ ys)
  has_either [] ys x k has = has
  has_either (z ∷ xs) ys x k (inl here) = inr (inl here)
  has_either (z ∷ xs) ys x k (inr later) = elim (has_either xs ys x k later) [
    | inl here ↦ inl here
    | inr other ↦ inr (inr other)
  ]

  -- an element with a new key may stand among distinct ones
  distinct_with : (xs ys : List X) (x : X) → AreDistinct (xs ++ ys) → (Has (f x) (xs ++ ys) → ⊥) → AreDistinct (xs ++ x ∷ ys)
  distinct_with [] ys x distinct new = (new, distinct)
  distinct_with (z ∷ xs) ys x distinct new = (
    λ has. elim (has_either xs ys x (f z) has) [
      | inl same ↦ new (inl (sym same))
      | inr other ↦ distinct.0 other
    ],
    distinct_with xs ys x distinct.1 (λ has. new (inr has)),
  )

-- an element stands in a list
abbrev pub StandsIn : {X : Type 0} → X → List X → Type 0
StandsIn {X} x xs = Has (λ (y : X). y) x xs

-- each element of a list stands in another
abbrev pub AllIn : {X : Type 0} → List X → List X → Type 0
AllIn ys [] = Unit {0}
AllIn ys (x ∷ xs) = StandsIn x ys × AllIn ys xs

-- the key of an element that stands there is had
pub has_key : {X K : Type 0} (f : X → K) (xs : List X) (x : X) → StandsIn x xs → Has f (f x) xs
has_key f [] x stands = absurd stands
has_key f (y ∷ xs) x (inl same) = inl (ap f same)
has_key f (y ∷ xs) x (inr later) = inr (has_key f xs x later)

-- who has a key stands there
pub key_of : {X K : Type 0} (f : X → K) (xs : List X) (k : K) → Has f k xs → (x : X) × StandsIn x xs × (k ≡ f x)
key_of f [] k has = absurd has
key_of f (y ∷ xs) k (inl same) = (y, inl refl, same)
key_of f (y ∷ xs) k (inr later) = let found = key_of f xs k later in (found.0, inr found.1, found.2)

-- where it stands
parts_at : {X : Type 0} (x : X) (ys : List X) → StandsIn x ys → (front : List X) × (back : List X) × (ys ≡ front ++ x ∷ back)
parts_at x [] stands = absurd stands
parts_at x (y ∷ ys) (inl same) = ([], ys, ap (λ z. z ∷ ys) (sym same))
parts_at x (y ∷ ys) (inr later) = let parts = parts_at x ys later in (y ∷ parts.0, parts.1, ap (λ zs. y ∷ zs) parts.2)

-- others still stand there when one is taken away
others_in : {X K : Type 0} (f : X → K) (xs front back : List X) (x : X) → AllIn (front ++ x ∷ back) xs → (Has f (f x) xs → ⊥) → AllIn (front ++ back) xs
others_in f [] front back x all new = tt
others_in {X} f (e ∷ xs) front back x all new = (
  elim (has_either (λ (y : X). y) front back x e all.0) [
    | inl same ↦ absurd (new (inl (ap f (sym same))))
    | inr other ↦ other
  ],
  others_in f xs front back x all.1 (λ has. new (inr has)),
)

-- a list has the elements of another in some order, and they are distinct
pub record Spreads {X K : Type 0} (f : X → K) (xs ys : List X) : Type 0 where
  pub moved : IsPermutation xs ys
  pub back : (y : X) → StandsIn y ys → StandsIn y xs
  pub distinct : AreDistinct f ys

pub spread : {X K : Type 0} (f : X → K) (xs ys : List X) → AllIn ys xs → AreDistinct f xs → length ys ≤ length xs → Spreads f xs ys
spread f [] [] all distinct few = record { moved = IsPermutation-refl []; back = λ y stands. stands; distinct = tt }
spread f [] (y ∷ ys) all distinct few = absurd (omega (arith, few))
spread {X} f (x ∷ xs) ys all distinct few =
    let parts = parts_at x ys all.0 in
    let front = parts.0 in
    let back = parts.1 in
    let others = others_in f xs front back x (subst (λ (zs : List X). AllIn zs xs) parts.2 all.1) distinct.0 in
    let rest = spread f xs (front ++ back) others distinct.1 (omega (arith, ap length parts.2, length-append front back, length-append front (x ∷ back), few)) in
    let new : Has f (f x) (front ++ back) → ⊥ = λ has. let found = key_of f (front ++ back) (f x) has in distinct.0 (subst (λ k. Has f k xs) (sym found.2) (has_key f xs found.0 (rest.back found.0 found.1))) in
    subst (Spreads f (x ∷ xs)) (sym parts.2) (record {
      moved = IsPermutation-trans (x ∷ xs) (x ∷ (front ++ back)) (front ++ x ∷ back) (IsPermutation-cons x xs (front ++ back) rest.moved) (IsPermutation-sym (front ++ x ∷ back) (x ∷ (front ++ back)) (IsPermutation-middle front x back));
      back = λ y stands. elim (has_either (λ (z : X). z) front back x y stands) [
        | inl same ↦ inl same
        | inr other ↦ inr (rest.back y other)
      ];
      distinct = distinct_with f front back x rest.distinct new;
    })
