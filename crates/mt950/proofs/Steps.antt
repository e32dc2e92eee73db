-- Readings in steps of what may be there.
use Rattle.std.proofs.Common.{◌≡◌, ◌&&◌, Bool, true, false, cond, Option, Some, None, option_and_then, option_map, Ok, refl, ap}
use Rattle.corr_text.specs.First.{or_fault}

pub and-then : {A B : Type 0} (o : Option A) (f : A → Option B) (y : B) → option_and_then f o ≡ Some y → (x : A) × (o ≡ Some x) × (f x ≡ Some y)
and-then (Some x) f y e = (x, refl, e)
and-then None f y e = absurd (cc e)

pub mapped : {A B : Type 0} (g : A → B) (o : Option A) (y : B) → option_map g o ≡ Some y → (x : A) × (o ≡ Some x) × (g x ≡ y)
mapped g (Some x) y e = (x, refl, cc e)
mapped g None y e = absurd (cc e)

pub unmapped : {A B : Type 0} (g : A → B) (o : Option A) → option_map g o ≡ None → o ≡ None
unmapped g (Some x) e = absurd (cc e)
unmapped g None e = refl

pub some-if : {A : Type 0} (b : Bool) (o : Option A) (y : A) → cond b o None ≡ Some y → (b ≡ true) × (o ≡ Some y)
some-if true o y e = (refl, e)
some-if false o y e = absurd (cc e)

pub or-some : {A F : Type 0} (o : Option A) (fault : F) (x : A) → or_fault o fault ≡ Ok x → o ≡ Some x
or-some (Some y) fault x e = ap Some (cc e)
or-some None fault x e = absurd (cc e)

pub both : (a b : Bool) → (a && b) ≡ true → (a ≡ true) × (b ≡ true)
both true b e = (refl, e)
both false b e = absurd (cc e)

pub and-false : (b : Bool) → (b && false) ≡ false
and-false true = refl
and-false false = refl
