-- Lists that are compared piece by piece.
use Rattle.std.proofs.Common.{◌≡◌, ℕ, ◌+◌, ◌<◌, ◌&&◌, Bool, Bor, true, false, cond, flat_map, List, [], ◌∷◌, ◌++◌, drop, get_or, length, take, Option, Some, None, refl, sym, ap, ◌∙◌, inl, inr, arith}
use Rattle.std.specs.Prelude.{nat_eq}
use Rattle.std.specs.Str.{bytes_eq}
use Rattle.std.specs.Option.{option_map_or}
use Rattle.std.proofs.lemmas.Bool.{cases_Bool, ne_eqb}
use Rattle.std.proofs.lemmas.List.{append-nil, at_drop_more}
use Rattle.pay_returns.specs.Equal.{are_all}
use Rattle.pay_returns.specs.inner.Texts.{after, after_all}
use Rattle.pay_returns.proofs.Choices.{and-grouped}

-- a text is a piece and what follows exactly where it begins with the piece and goes on so
pub parted : (piece back text : List ℕ) → bytes_eq text (piece ++ back) ≡ (bytes_eq (take (length piece) text) piece && bytes_eq (drop (length piece) text) back)
parted [] back text = refl
parted (p ∷ piece) back [] = refl
parted (p ∷ piece) back (b ∷ text) =
    ap (λ (rest : Bool). nat_eq b p && rest) (parted piece back text) ∙ and-grouped (nat_eq b p) (bytes_eq (take (length piece) text) piece) (bytes_eq (drop (length piece) text) back)

by-test : (b : Bool) (rest back : List ℕ) → (b && bytes_eq rest back) ≡ option_map_or (λ more. bytes_eq more back) (cond b (Some rest) None) false
by-test true rest back = refl
by-test false rest back = refl

pub piece_by_piece : (piece back text : List ℕ) → bytes_eq text (piece ++ back) ≡ option_map_or (λ more. bytes_eq more back) (after piece text) false
unfolding after
piece_by_piece piece back text = parted piece back text ∙ by-test (bytes_eq (take (length piece) text) piece) (drop (length piece) text) back

module _ {A : Type 0} (same : A → A → Bool) where
  -- a list is what is in front and what follows exactly where it begins with the one and goes on with the other
  pub front_first : (front back xs : List A) → are_all same xs (front ++ back) ≡ option_map_or (λ rest. are_all same rest back) (after_all same front xs) false
  front_first [] back xs = refl
  front_first (y ∷ front) back [] = refl
  front_first (y ∷ front) back (x ∷ xs) =
      elim (cases_Bool (same x y)) [
        | inl met ↦ rw met (front_first front back xs)
        | inr unmet ↦ rw unmet refl
      ]

  -- nothing follows
  pub front-alone : (front xs : List A) → are_all same xs front ≡ option_map_or (λ rest. are_all same rest []) (after_all same front xs) false
  front-alone front xs = ap (are_all same xs) (sym (append-nil front)) ∙ front_first front [] xs

-- nothing is left where no element is
pub none-more : {A : Type 0} (same : A → A → Bool) (xs : List A) → are_all same xs [] ≡ nat_eq (length xs) 0
none-more same [] = refl
none-more same (x ∷ xs) = sym (ne_eqb (length (x ∷ xs)) 0 (λ e. omega (arith, e)))

-- ---- a text and the pieces to come

module _ (pieces : List (Bor (List ℕ))) (k : ℕ) (piece : Bor (List ℕ)) (lt : k < length pieces) (is : piece ≡ get_or pieces k piece) (text rest : List ℕ)
    (so_far : bytes_eq text (flat_map (λ p. p.now) pieces) ≡ bytes_eq rest (flat_map (λ p. p.now) (drop k pieces))) where
  next : bytes_eq text (flat_map (λ p. p.now) pieces) ≡ option_map_or (λ more. bytes_eq more (flat_map (λ p. p.now) (drop (k + 1) pieces))) (after piece.now rest) false
  next =
      so_far
      ∙ at_drop_more (λ (ps : List (Bor (List ℕ))). bytes_eq rest (flat_map (λ p. p.now) ps)) pieces k piece lt
      ∙ ap (λ (p : Bor (List ℕ)). bytes_eq rest (p.now ++ flat_map (λ q. q.now) (drop (k + 1) pieces))) (sym is)
      ∙ piece_by_piece piece.now (flat_map (λ p. p.now) (drop (k + 1) pieces)) rest

  pub piece-fits : (more : List ℕ) → after piece.now rest ≡ Some more → bytes_eq text (flat_map (λ p. p.now) pieces) ≡ bytes_eq more (flat_map (λ p. p.now) (drop (k + 1) pieces))
  piece-fits more e = next ∙ ap (λ (o : Option (List ℕ)). option_map_or (λ m. bytes_eq m (flat_map (λ p. p.now) (drop (k + 1) pieces))) o false) e

  pub piece-differs : after piece.now rest ≡ None → bytes_eq text (flat_map (λ p. p.now) pieces) ≡ false
  piece-differs e = next ∙ ap (λ (o : Option (List ℕ)). option_map_or (λ m. bytes_eq m (flat_map (λ p. p.now) (drop (k + 1) pieces))) o false) e
