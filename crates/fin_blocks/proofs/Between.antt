-- What stands between a start and an end is read again as it was put there.
use Rattle.std.proofs.Common.{◌≡◌, ℕ, ◌+◌, ◌-◌, ◌&&◌, Bool, true, false, List, ◌++◌, length, take, drop, Some, None, refl, ap, ◌∙◌, append_assoc, length-append, arith}
use Rattle.std.specs.Prelude.{codes, nat_le, bytes_eq}
use Rattle.std.proofs.lemmas.Bool.{le-leb, and_left, and_right}
use Rattle.std.proofs.lemmas.List.{take_at, drop_at}
use Rattle.std.proofs.lemmas.Slice.Eq.{bytes_eq-Decides}
use Rattle.fin_blocks.specs.Forms.{between, inside}

same-bytes : (bs : List ℕ) → bytes_eq bs bs ≡ true
same-bytes bs = (bytes_eq-Decides bs bs).1 refl

pub between-again : (start bs end : List ℕ) → between start end (start ++ bs ++ end) ≡ Some bs
unfolding between
between-again start bs end =
    let group : List ℕ = start ++ bs ++ end in
    let long : length group ≡ length start + length bs + length end = rw (length-append, length-append) refl in
    let wide : nat_le (length start + length end) (length group) ≡ true = le-leb (length start + length end) (length group) (omega (arith, long)) in
    let begins : take (length start) group ≡ start = ap (take (length start)) (append_assoc start bs end) ∙ take_at start (bs ++ end) (length start) refl in
    let ends : drop (length group - length end) group ≡ end = drop_at (start ++ bs) end (length group - length end) (length-append start bs ∙ omega (arith, long)) in
    let after : drop (length start) group ≡ bs ++ end = ap (drop (length start)) (append_assoc start bs end) ∙ drop_at start (bs ++ end) (length start) refl in
    let held : take (length group - (length start + length end)) (bs ++ end) ≡ bs = take_at bs end (length group - (length start + length end)) (omega (arith, long)) in
    rw (wide, begins, ends, after, held, same-bytes start, same-bytes end) refl

pub inside-again : (start bs : List ℕ) → inside start (Some (start ++ bs ++ codes "}")) ≡ Some bs
inside-again start bs = between-again start bs (codes "}")

both-but : (a b c : Bool) → b ≡ false → (a && b && c) ≡ false
both-but a b c h = and_left (a && b) c (and_right a b h)

-- a group that begins otherwise is another
pub inside-other : (start group : List ℕ) → bytes_eq (take (length start) group) start ≡ false → inside start (Some group) ≡ None
unfolding between
inside-other start group h =
    rw (both-but (nat_le (length start + length (codes "}")) (length group)) (bytes_eq (take (length start) group) start) (bytes_eq (drop (length group - length (codes "}")) group) (codes "}")) h) refl
