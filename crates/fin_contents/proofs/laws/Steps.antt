-- Readings in steps: each test holds, and each part is there.
use Rattle.std.proofs.Common.{◌≡◌, IfOk, Bool, true, false, List, [], ◌∷◌, ℕ, Option, Some, None, Result, Ok, Err, refl, ap}
use Rattle.corr_text.specs.First.{check, or_fault, ◌>>=◌}
use Rattle.corr_text.specs.declared.fault.Fault.{Fault}
use Rattle.fin_fields.specs.declared.field.Field.{Field}
use Rattle.fin_contents.specs.Plain.{only_line}

-- a reading that goes on past a test has passed it
pub checked : {A F : Type 0} (b : Bool) (fault : F) (next : Result A F) (x : A) → (check b fault >>= λ _. next) ≡ Ok x → (b ≡ true) × (next ≡ Ok x)
checked true fault next x e = (refl, e)
checked false fault next x e = absurd (cc e)

-- a reading that goes on past a part that must be there has found it
pub there : {A B F : Type 0} (o : Option A) (fault : F) (next : A → Result B F) (y : B) → (or_fault o fault >>= next) ≡ Ok y → (x : A) × (o ≡ Some x) × (next x ≡ Ok y)
there (Some x) fault next y e = (x, refl, e)
there None fault next y e = absurd (cc e)

-- a reading in two steps that gives a value gave one in each
pub read-then : {A B F : Type 0} (r : Result A F) (next : A → Result B F) (y : B) → (r >>= next) ≡ Ok y → (x : A) × (r ≡ Ok x) × (next x ≡ Ok y)
read-then (Ok x) next y e = (x, refl, e)
read-then (Err f) next y e = absurd (cc e)

-- what a message says
abbrev pub told_ok : {A : Type 0} → A → Result A Fault
told_ok x = Ok x

-- readings that give the same give the same value
pub told-is : {A : Type 0} (x y : A) → told_ok x ≡ told_ok y → x ≡ y
told-is x y e = cc e

-- the line of one line
pub is-only : (lines : List (List ℕ)) (line : List ℕ) → only_line lines ≡ Some line → lines ≡ line ∷ []
is-only [] line e = absurd (cc e)
is-only (l ∷ []) line e = ap (λ (x : List ℕ). x ∷ []) (cc e)
is-only (l ∷ m ∷ more) line e = absurd (cc e)

-- what holds of the field that is written
pub field-written : {E : Type 0} (result : Result Field E) (w v : Field) (Q : Field → Type 0) → IfOk result (λ f. f ≡ w) → w ≡ v → Q v → IfOk result Q
field-written (Ok f) w v Q e same q = rw (e, same) q
field-written (Err x) w v Q e same q = tt
