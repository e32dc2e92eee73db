-- A line that is written with its end is read again.
use Rattle.std.proofs.Common.{◌≡◌, ℕ, ◌==◌, ◌&&◌, not, Bool, true, false, List, [], ◌∷◌, ◌++◌, refl, ap}
use Rattle.std.specs.List.{list_all}
use Rattle.std.proofs.lemmas.Bool.{and_parts, not-true}
use Rattle.corr_text.specs.Lines.{begins_with, lines_of, with_byte}

-- no byte that ends a line
abbrev pub is_inner : ℕ → Bool
is_inner b = not (b == 10)

begins-other : (line rest : List ℕ) → list_all is_inner line ≡ true → begins_with 10 (line ++ 13 ∷ 10 ∷ rest) ≡ false
begins-other [] rest inner = refl
begins-other (b ∷ bs) rest inner = not-true (b == 10) (and_parts (is_inner b) (list_all is_inner bs) inner).0

and-false : (b : Bool) → (b && false) ≡ false
and-false true = refl
and-false false = refl

-- a line that is ended by CR LF is cut off as itself
pub line-again : (line rest : List ℕ) → list_all is_inner line ≡ true → lines_of (line ++ 13 ∷ 10 ∷ rest) ≡ line ∷ lines_of rest
line-again [] rest inner = refl
line-again (b ∷ bs) rest inner =
    let p = and_parts (is_inner b) (list_all is_inner bs) inner in
    rw (not-true (b == 10) p.0, begins-other bs rest p.1, and-false (b == 13)) (ap (with_byte b) (line-again bs rest p.1))
