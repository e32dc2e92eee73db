-- Ordered tests: the first that holds.
use Rattle.std.specs.Prelude.{Bool, List, [], ◌∷◌, Option, Some, None, Result, Ok, Err, if◌then◌else◌}

-- the first fault of a list of tests, none where no test holds
abbrev pub first_of : {F : Type 0} → List (Option F) → Option F
first_of [] = None
first_of (Some fault ∷ more) = Some fault
first_of (None ∷ more) = first_of more

-- a test that must hold, or else this fault
abbrev pub unless : {F : Type 0} → Bool → F → Option F
unless holds fault = if holds then None else Some fault

-- a test in a row of steps that read a value: it must hold, or else this fault
abbrev pub check : {F : Type 0} → Bool → F → Result (Unit {0}) F
check holds fault = if holds then Ok tt else Err fault

-- no fault, or this one
abbrev pub unless_fault : {F : Type 0} → Option F → Result (Unit {0}) F
unless_fault None = Ok tt
unless_fault (Some fault) = Err fault

-- a value that must be there, or else this fault
abbrev pub or_fault : {A F : Type 0} → Option A → F → Result A F
or_fault (Some x) fault = Ok x
or_fault None fault = Err fault

infixl 10 ◌>>=◌
-- what steps in a row read, up to the first that fails
abbrev pub ◌>>=◌ : {A B F : Type 0} → Result A F → (A → Result B F) → Result B F
(Ok x) >>= f = f x
(Err e) >>= f = Err e

-- the fault of a reading
abbrev pub fault_of : {A F : Type 0} → Result A F → Option F
fault_of (Ok x) = None
fault_of (Err e) = Some e
