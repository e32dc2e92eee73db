-- Lists of tests after one another.
use Rattle.std.proofs.Common.{◌≡◌, ◌&&◌, Bool, true, false, List, [], ◌∷◌, ◌++◌, Option, Some, None, refl}
use Rattle.std.specs.Option.{option_or}
use Rattle.corr_text.specs.First.{first_of}

-- the first fault of both is that of the one, else that of the other
pub first_of_append : {F : Type 0} (xs ys : List (Option F)) → first_of (xs ++ ys) ≡ option_or (first_of xs) (first_of ys)
first_of_append [] ys = refl
first_of_append (None ∷ xs) ys = first_of_append xs ys
first_of_append (Some x ∷ xs) ys = refl

-- both hold, whichever is looked at first
pub either_first : (a b : Bool) → (a && b) ≡ (b && a)
either_first true true = refl
either_first true false = refl
either_first false true = refl
either_first false false = refl
