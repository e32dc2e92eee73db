-- Cutting a text after its first line end.
use Rattle.std.proofs.Common.{◌≡◌, ℕ, ◌+◌, ◌<◌, ◌≤◌, ◌≢◌, Some, None, Bool, zero, suc, List, [], ◌∷◌, length, get_or, take, drop, refl, sym, ap, arith}
use Rattle.std.specs.Prelude.{◌==◌}
use Rattle.std.proofs.lemmas.Bool.Decides.{nat_tests}
use Rattle.std.specs.List.{position, position_or_len}
use Rattle.std.proofs.lemmas.List.Quantifiers.{position-Some}
use Rattle.std.proofs.lemmas.List.Sums.{fails_before_first}
use Rattle.corr_text.specs.Lines.{lines_of}
use Rattle.corr_text.specs.inner.Lines.{trimmed}

pub trimmed-return : (xs : List ℕ) (n : ℕ) → length xs ≡ n + 1 → get_or xs n 0 ≡ 13 → trimmed xs ≡ take n xs
trimmed-return [] n e h = absurd (omega (arith, e))
trimmed-return (x ∷ []) zero e h = rw h refl
trimmed-return (x ∷ []) (suc n) e h = absurd (omega (arith, e))
trimmed-return (x ∷ y ∷ ys) zero e h = absurd (omega (arith, e))
trimmed-return (x ∷ y ∷ ys) (suc n) e h = ap (λ t. x ∷ t) (trimmed-return (y ∷ ys) n (omega (arith, e)) h)

pub trimmed-other : (xs : List ℕ) (n : ℕ) → length xs ≡ n + 1 → get_or xs n 0 ≢ 13 → trimmed xs ≡ xs
trimmed-other [] n e h = refl
trimmed-other (x ∷ []) zero e h = grind (arith, nat_tests)
trimmed-other (x ∷ []) (suc n) e h = absurd (omega (arith, e))
trimmed-other (x ∷ y ∷ ys) zero e h = absurd (omega (arith, e))
trimmed-other (x ∷ y ∷ ys) (suc n) e h = ap (λ t. x ∷ t) (trimmed-other (y ∷ ys) n (omega (arith, e)) h)

pub cut-first : (xs : List ℕ) (i : ℕ) → i < length xs → get_or xs i 0 ≡ 10 → ((k : ℕ) → k < i → get_or xs k 0 ≢ 10)
    → lines_of xs ≡ trimmed (take i xs) ∷ lines_of (drop (i + 1) xs)
cut-first [] i lt h before = absurd (omega (arith, lt))
cut-first (b ∷ bs) zero lt h before = rw h refl
cut-first (b ∷ []) (suc i) lt h before = absurd (omega (arith, lt))
cut-first (b ∷ c ∷ cs) (suc zero) lt h before =
    let first : b ≢ 10 = before 0 (omega arith) in
    let rest = cut-first (c ∷ cs) 0 (omega arith) h (λ k l. absurd (omega (arith, l))) in
    grind (arith, nat_tests, rest, h, first)
cut-first (b ∷ c ∷ cs) (suc (suc i)) lt h before =
    let first : b ≢ 10 = before 0 (omega arith) in
    let second : c ≢ 10 = before 1 (omega arith) in
    let rest = cut-first (c ∷ cs) (suc i) (omega (arith, lt)) h (λ k l. before (suc k) (omega (arith, l))) in
    grind (arith, nat_tests, rest, first, second)

pub cut-none : (x : ℕ) (xs : List ℕ) → ((k : ℕ) → k < length (x ∷ xs) → get_or (x ∷ xs) k 0 ≢ 10) → lines_of (x ∷ xs) ≡ (x ∷ xs) ∷ []
cut-none x [] none =
    let first : x ≢ 10 = none 0 (omega arith) in
    grind (arith, nat_tests, first)
cut-none x (y ∷ ys) none =
    let first : x ≢ 10 = none 0 (omega arith) in
    let second : y ≢ 10 = none 1 (omega arith) in
    let rest = cut-none y ys (λ k l. none (suc k) (omega (arith, l))) in
    grind (arith, nat_tests, rest, first, second)

-- what position says of line feeds
pub cut-found : (xs : List ℕ) (i : ℕ) → Some i ≡ position (λ b. b == 10) xs → lines_of xs ≡ trimmed (take i xs) ∷ lines_of (drop (i + 1) xs)
cut-found xs i e =
    let found = position-Some (λ b. b == 10) xs i 0 (sym e) in
    cut-first xs i found.0 (grind (arith, nat_tests, found.1)) (λ k l. let f = found.2 k l in grind (arith, nat_tests, f))

pub cut-missing : (xs : List ℕ) → xs ≢ [] → None ≡ position (λ b. b == 10) xs → lines_of xs ≡ xs ∷ []
cut-missing [] some e = absurd (some refl)
cut-missing (x ∷ xs) some e =
    let P : ℕ → Bool = λ b. b == 10 in
    let all : length (x ∷ xs) ≤ position_or_len P (x ∷ xs) = grind (arith, nat_tests) in
    cut-none x xs (λ k l. let f = fails_before_first P (x ∷ xs) k 0 (omega (arith, all, l)) in grind (arith, nat_tests, f))

pub trimmed-none : (xs : List ℕ) → length xs ≡ 0 → trimmed xs ≡ xs
trimmed-none [] e = refl
trimmed-none (x ∷ xs) e = absurd (omega (arith, e))
