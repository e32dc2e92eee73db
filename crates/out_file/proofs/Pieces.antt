-- Cutting bytes after their first `$`.
use Rattle.std.proofs.Common.{◌≡◌, ℕ, ◌+◌, ◌<◌, ◌≤◌, Some, None, Bool, zero, suc, false, true, cond, List, [], ◌∷◌, ◌++◌, length, get_or, take, drop, refl, sym, ap, subst, ◌∙◌, arith}
use Rattle.std.specs.Prelude.{◌==◌}
use Rattle.std.specs.List.{position, position_or_len}
use Rattle.std.proofs.lemmas.List.{append_assoc}
use Rattle.std.proofs.lemmas.List.Quantifiers.{position-Some}
use Rattle.std.proofs.lemmas.List.Sums.{fails_before_first}
use Rattle.out_file.specs.Mended.{messages_from, messages_of}

at_first : (begun xs : List ℕ) (i : ℕ) → i < length xs → (get_or xs i 0 == 36) ≡ true → ((k : ℕ) → k < i → (get_or xs k 0 == 36) ≡ false)
    → messages_from begun xs ≡ (begun ++ take (i + 1) xs) ∷ messages_of (drop (i + 1) xs)
at_first begun [] i lt here before = absurd (omega (arith, lt))
at_first begun (x ∷ xs) zero lt here before = rw here refl
at_first begun (x ∷ xs) (suc i) lt here before =
    let rest = at_first (begun ++ x ∷ []) xs i (omega (arith, lt)) here (λ k l. before (suc k) (omega (arith, l))) in
    let longer : (begun ++ x ∷ []) ++ take (i + 1) xs ≡ begun ++ x ∷ take (i + 1) xs = append_assoc begun (x ∷ []) (take (i + 1) xs) in
    let one_more : suc i + 1 ≡ suc (i + 1) = omega arith in
    let all : messages_from begun (x ∷ xs) ≡ (begun ++ x ∷ take (i + 1) xs) ∷ messages_of (drop (i + 1) xs) =
    ap (λ t. cond t ((begun ++ x ∷ []) ∷ messages_from [] xs) (messages_from (begun ++ x ∷ []) xs)) (before 0 (omega arith))
    ∙ rest ∙ ap (λ m. m ∷ messages_of (drop (i + 1) xs)) longer in
    subst (λ n. messages_from begun (x ∷ xs) ≡ (begun ++ take n (x ∷ xs)) ∷ messages_of (drop n (x ∷ xs))) (sym one_more) all

at_none : (begun xs : List ℕ) → ((k : ℕ) → k < length xs → (get_or xs k 0 == 36) ≡ false) → messages_from begun xs ≡ []
at_none begun [] none = refl
at_none begun (x ∷ xs) none =
    ap (λ t. cond t ((begun ++ x ∷ []) ∷ messages_from [] xs) (messages_from (begun ++ x ∷ []) xs)) (none 0 (omega arith))
    ∙ at_none (begun ++ x ∷ []) xs (λ k l. none (suc k) (omega (arith, l)))

-- the first message of bytes goes up to their first `$`
pub cut_first : (xs : List ℕ) (i : ℕ) → position (λ b. b == 36) xs ≡ Some i → messages_of xs ≡ take (i + 1) xs ∷ messages_of (drop (i + 1) xs)
cut_first xs i is =
    let found = position-Some (λ b. b == 36) xs i 0 is in
    at_first [] xs i found.0 found.1 found.2

-- bytes without a `$` have no message
pub cut_none : (xs : List ℕ) → position (λ b. b == 36) xs ≡ None → messages_of xs ≡ []
cut_none xs is =
    let P : ℕ → Bool = λ b. b == 36 in
    let all : length xs ≤ position_or_len P xs = grind (arith, is) in
    at_none [] xs (λ k l. fails_before_first P xs k 0 (omega (arith, all, l)))
