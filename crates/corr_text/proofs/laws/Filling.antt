-- An array that is written in two parts.
use Rattle.std.proofs.Common.{ℕ, ◌≡◌, List, ◌++◌, length, refl, arith, append-nil}
use Rattle.std.proofs.lemmas.List.{take_at, drop_at, drop_all}
use borrow.Rule.Slice.PartMut.{put_mid}

-- the part after the first is written whole
pub filled : (front back old : List ℕ) (n m : ℕ) → length front ≡ n → length old ≡ m → put_mid n m (front ++ old) back ≡ front ++ back
filled front back old n m size rest =
    rw (take_at front old n size, drop_at front old n size, drop_all m old (omega (arith, rest)), append-nil back) refl
