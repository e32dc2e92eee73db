-- The first element that passes a test, after others that fail it.
use Rattle.std.proofs.Common.{◌≡◌, suc, Bool, true, false, List, [], ◌∷◌, ◌++◌, length, drop, position, Some, refl, ap, ◌∙◌, arith, add-one}
use Rattle.std.specs.List.{AllByRecursion, position_or_len, before_first, after_first}
use Rattle.std.proofs.Math.Seq.{take-append_seam}
use Rattle.fin_fields.proofs.laws.Positions.{position-here, position-later}

module _ {X : Type 0} (p : X → Bool) where
  -- each fails the test
  abbrev pub Fail : List X → Type 0
  Fail xs = AllByRecursion (λ x. p x ≡ false) xs

  pub position-after : (xs : List X) (x : X) (ys : List X) → Fail xs → p x ≡ true → position p (xs ++ x ∷ ys) ≡ Some (length xs)
  position-after [] x ys none here = position-here p x ys here
  position-after (y ∷ xs) x ys none here = position-later p y (xs ++ x ∷ ys) none.0 ∙ rw (position-after xs x ys none.1 here) (ap Some (omega arith))

  first-after : (xs : List X) (x : X) (ys : List X) → Fail xs → p x ≡ true → position_or_len p (xs ++ x ∷ ys) ≡ length xs
  first-after [] x ys none here = rw here refl
  first-after (y ∷ xs) x ys none here = rw (none.0, first-after xs x ys none.1 here) (omega arith)

  drop-past : (xs ys : List X) (y : X) → drop (suc (length xs)) (xs ++ y ∷ ys) ≡ ys
  drop-past [] ys y = refl
  drop-past (x ∷ xs) ys y = drop-past xs ys y

  pub before-it : (xs : List X) (x : X) (ys : List X) → Fail xs → p x ≡ true → before_first p (xs ++ x ∷ ys) ≡ xs
  before-it xs x ys none here = rw (first-after xs x ys none here) (take-append_seam xs (x ∷ ys))

  pub after-it : (xs : List X) (x : X) (ys : List X) → Fail xs → p x ≡ true → after_first p (xs ++ x ∷ ys) ≡ ys
  after-it xs x ys none here = rw (first-after xs x ys none here, add-one) (drop-past xs ys x)
