-- Groups, byte by byte.
use Rattle.std.proofs.Common.{◌≡◌, ◌<◌, ◌≤◌, ℕ, zero, suc, ◌+◌, ◌-◌, false, List, [], ◌∷◌, ◌++◌, length, take, get_or, Some, refl, sym, ap, subst, ◌∙◌, arith}
use Rattle.std.specs.Prelude.{◌==◌}
use Rattle.std.specs.List.{list_any, slice_range}
use Rattle.std.proofs.lemmas.Bool.{or_parts}
use Rattle.std.proofs.lemmas.Grind.{common_steps}
use Rattle.std.proofs.lemmas.List.{take_more}
use Rattle.corr_text.specs.Braces.{is_brace, depth_after}
use Rattle.fin_frame.specs.File.{left_open, IsGroupTo}

-- one more byte within a group
pub left_open-more : (d : ℕ) (xs : List ℕ) (b e : ℕ) → left_open d xs ≡ Some e → 0 < e → left_open d (xs ++ b ∷ []) ≡ Some (depth_after e b)
left_open-more zero [] b e is some = absurd (let same : 0 ≡ e = cc in omega arith)
left_open-more (suc d) [] b e is some = let same : suc d ≡ e = cc in ap (λ n. Some (depth_after n b)) same
left_open-more zero (x ∷ xs) b e is some = cc
left_open-more (suc d) (x ∷ xs) b e is some = left_open-more (depth_after (suc d) x) xs b e is some

-- the same over the front of a slice
pub left_open-take : (d : ℕ) (xs : List ℕ) (i e : ℕ) → i < length xs → left_open d (take i xs) ≡ Some e → 0 < e
    → left_open d (take (i + 1) xs) ≡ Some (depth_after e (get_or xs i 0))
left_open-take d xs i e lt is some = rw (take_more xs i 0 lt) (left_open-more d (take i xs) (get_or xs i 0) e is some)

pub depth_after-le : (d b : ℕ) → depth_after d b ≤ d + 1
depth_after-le d b = grind (arith, common_steps)

-- ---- bytes that are no brace

depth_after-other : (d b : ℕ) → is_brace b ≡ false → depth_after d b ≡ d
depth_after-other d b h =
    let parts = or_parts (b == 123) (b == 125) h in
    rw (parts.0, parts.1) refl

left_open-others : (d : ℕ) (xs : List ℕ) (i n e : ℕ) → i + n ≤ length xs → left_open d (take i xs) ≡ Some e → 0 < e
    → ((k : ℕ) → i ≤ k → k < i + n → is_brace (get_or xs k 0) ≡ false) → left_open d (take (i + n) xs) ≡ Some e
left_open-others d xs i zero e le is some others =
    let same : i ≡ i + zero = omega arith in
    subst (λ n. left_open d (take n xs) ≡ Some e) same is
left_open-others d xs i (suc n) e le is some others =
    let before = left_open-others d xs i n e (omega (arith, le)) is some (λ k low high. others k low (omega (arith, high))) in
    let same : (i + n) + 1 ≡ i + suc n = omega arith in
    subst (λ k. left_open d (take k xs) ≡ Some e) same
    (left_open-take d xs (i + n) e (omega (arith, le)) before some
    ∙ ap Some (depth_after-other e (get_or xs (i + n) 0) (others (i + n) (omega arith) (omega arith))))

-- the front up to the next brace
pub left_open-to : (d : ℕ) (xs : List ℕ) (i j e : ℕ) → left_open d (take i xs) ≡ Some e → 0 < e → i ≤ j → j ≤ length xs
    → ((k : ℕ) → i ≤ k → k < j → is_brace (get_or xs k 0) ≡ false) → left_open d (take j xs) ≡ Some e
left_open-to d xs i j e is some low le others =
    let same : i + (j - i) ≡ j = omega (arith, low) in
    subst (λ k. left_open d (take k xs) ≡ Some e) same
    (left_open-others d xs i (j - i) e (omega (arith, low, le)) is some (λ k a b. others k a (omega (arith, low, b))))

-- ---- a group without another one within

left_open-plain : (d : ℕ) (xs ys : List ℕ) → list_any is_brace xs ≡ false → left_open (suc d) (xs ++ ys) ≡ left_open (suc d) ys
left_open-plain d [] ys none = refl
left_open-plain d (x ∷ xs) ys none =
    let parts = or_parts (is_brace x) (list_any is_brace xs) none in
    ap (λ e. left_open e (xs ++ ys)) (depth_after-other (suc d) x parts.0) ∙ left_open-plain d xs ys parts.1

-- `{`, bytes without a brace and `}` are a group
pub plain-group : (bytes : List ℕ) (n : ℕ) → 2 ≤ n → n ≤ length bytes → get_or bytes 0 0 ≡ 123 → get_or bytes (n - 1) 0 ≡ 125
    → list_any is_brace (slice_range bytes 1 (n - 1)) ≡ false → IsGroupTo 0 (take n bytes)
plain-group [] n two within begun ended none = absurd (omega (arith, two, within))
plain-group (b ∷ bytes) zero two within begun ended none = absurd (omega (arith, two))
plain-group (b ∷ bytes) (suc zero) two within begun ended none = absurd (omega (arith, two))
plain-group (b ∷ bytes) (suc (suc m)) two within begun ended none =
    let place : suc (suc m) - 1 ≡ suc m = omega arith in
    let size : suc (suc m) - 1 - 1 ≡ m = omega arith in
    let plain : list_any is_brace (take m bytes) ≡ false = sym (ap (λ i. list_any is_brace (take i bytes)) size) ∙ none in
    let last : get_or bytes m 0 ≡ 125 = sym (ap (λ i. get_or (b ∷ bytes) i 0) place) ∙ ended in
    let next : suc m ≡ m + 1 = omega arith in
    let cut : take (suc m) bytes ≡ take m bytes ++ 125 ∷ [] =
    ap (λ i. take i bytes) next ∙ take_more bytes m 0 (omega (arith, within)) ∙ ap (λ x. take m bytes ++ x ∷ []) last in
    (begun, ap (left_open 1) cut ∙ left_open-plain 0 (take m bytes) (125 ∷ []) plain)
