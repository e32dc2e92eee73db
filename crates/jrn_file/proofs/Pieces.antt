-- How many pieces bytes make.
use Rattle.std.proofs.Common.{◌≡◌, ℕ, ◌+◌, ◌*◌, ◌/◌, ◌%◌, ◌<◌, ◌≤◌, min, ◌∙◌, ap, arith}
use Rattle.std.specs.Int.{div_ceil}
use Rattle.std.proofs.lemmas.Nat.{div-mul-add, le-div, mod-mul-add}
use Rattle.std.proofs.Math.Nat.{div-mul-le_self}

-- whole pieces and what waits after them make so many writes
pub pieces-ceil : (pieces piece waits size : ℕ) → waits < piece → size ≡ pieces * piece + waits → div_ceil size piece ≡ pieces + min 1 waits
pieces-ceil pieces piece waits size few is =
    ap (λ (n : ℕ). div_ceil n piece) is
    ∙ ap (λ (q : ℕ). q + min 1 ((pieces * piece + waits) % piece)) (div-mul-add pieces piece waits few)
    ∙ ap (λ (m : ℕ). pieces + min 1 m) (mod-mul-add pieces piece waits few)

-- fewer bytes make no more whole pieces
pub pieces-fewer : (n total piece : ℕ) → 0 < piece → n ≤ total → n / piece ≤ div_ceil total piece
pieces-fewer n total piece some within =
    let fewer : n / piece ≤ total / piece = le-div (n / piece) total piece some (omega (arith, within, div-mul-le_self n piece)) in
    omega (arith, fewer)
