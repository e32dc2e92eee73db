-- Bytes that stand in front stay there while others are added.
use Rattle.std.proofs.Common.{◌≡◌, ℕ, ◌≤◌, List, ◌++◌, length, take, drop, sym, ap, ◌∙◌, subst, arith}
use Rattle.std.proofs.lemmas.List.{length-take, take-append-drop, take-append-le}
use Rattle.std.proofs.Math.Seq.{take-append_seam, take-length}
use Rattle.jrn_codec.specs.inner.Writing.{IsFrontOf}

pub stays : (before now : List ℕ) → now ≡ before → IsFrontOf before now
stays before now is = subst (λ (bytes : List ℕ). IsFrontOf before bytes) (sym is) (record { kept = take-length before })

pub adds : (before now added : List ℕ) → now ≡ before ++ added → IsFrontOf before now
adds before now added is = subst (λ (bytes : List ℕ). IsFrontOf before bytes) (sym is) (record { kept = take-append_seam before added })

pub goes_on : (before middle now : List ℕ) → IsFrontOf before middle → IsFrontOf middle now → IsFrontOf before now
goes_on before middle now first second =
    let short : length before ≤ length middle = omega (arith, length-take (length before) middle, ap length first.kept) in
    let split : middle ++ drop (length middle) now ≡ now = subst (λ (xs : List ℕ). xs ++ drop (length middle) now ≡ now) second.kept (take-append-drop (length middle) now) in
    record { kept = ap (λ (xs : List ℕ). take (length before) xs) (sym split) ∙ take-append-le (length before) middle (drop (length middle) now) short ∙ first.kept }
