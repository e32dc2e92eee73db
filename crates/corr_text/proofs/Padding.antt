-- Digits that are written at the end of zeros.
use Rattle.std.proofs.Common.{◌≡◌, ℕ, ◌+◌, ◌-◌, ◌^◌, ◌<◌, ◌≤◌, min, List, [], ◌++◌, length, take, drop, replicate, sym, ap, ◌∙◌, arith, append-nil, length-append}
use Rattle.std.specs.Fmt.{decimal}
use Rattle.std.proofs.lemmas.Fmt.{length-decimal-le}
use Rattle.std.proofs.lemmas.List.{drop-append-le, drop-replicate, length-replicate, take-append-drop, take-replicate, take_all}
use Rattle.corr_text.specs.Digits.{padded}

pub short : (n : ℕ) → n < 2 ^ 64 → length (decimal n) ≤ 255
short n fits = omega (arith, length-decimal-le 20 n (omega arith) (omega (arith, fits)) fits)

pub last : (n width k r : ℕ) (bytes : List ℕ) → width ≤ 255 → k + length (decimal n) ≡ 255 → r ≡ min k (255 - width)
    → drop k bytes ≡ decimal n ++ drop 255 (replicate 255 48) → take k bytes ≡ take k (replicate 255 48) → take (255 - r) (drop r bytes) ≡ padded width n
last n width k r bytes fits start is written before =
    let ds : List ℕ = decimal n in
    let inside : k ≤ 255 = omega (arith, start) in
    let front : take k bytes ≡ replicate k 48 = before ∙ take-replicate k 255 48 inside in
    let none : drop 255 (replicate 255 48) ≡ [] = drop-replicate 255 255 48 in
    let back : drop k bytes ≡ ds = written ∙ (ap (λ t. ds ++ t) none ∙ append-nil ds) in
    let whole : bytes ≡ replicate k 48 ++ ds = sym (take-append-drop k bytes) ∙ (ap (λ t. t ++ drop k bytes) front ∙ ap (λ t. replicate k 48 ++ t) back) in
    let low : r ≤ k = omega (arith, is) in
    let size : length (replicate {A = ℕ} k 48) ≡ k = length-replicate {A = ℕ} k 48 in
    let cut : drop r bytes ≡ replicate (k - r) 48 ++ ds = ap (drop r) whole ∙ (drop-append-le r (replicate k 48) ds (omega (arith, low, size)) ∙ ap (λ t. t ++ ds) (drop-replicate r k 48)) in
    let zeros : k - r ≡ width - length ds = omega (arith, is, start, fits) in
    let long : length (drop r bytes) ≡ (k - r) + length ds = ap length cut ∙ (length-append (replicate (k - r) 48) ds ∙ ap (λ m. m + length ds) (length-replicate {A = ℕ} (k - r) 48)) in
    take_all (255 - r) (drop r bytes) (omega (arith, long, low, start)) ∙ (cut ∙ ap (λ z. replicate z 48 ++ ds) zeros)
