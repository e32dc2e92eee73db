-- What a call answers, against what is meant: a value or a fault. An error that tells no fault is out of memory, which may
-- come at any call and says nothing of what was asked. Of each type of errors `told` gives the fault that an error tells.
use Rattle.std.specs.Prelude.{◌≡◌, Option, Some, IfSome, Result, Ok, Err}

-- an error tells the fault that is meant, or is out of memory
abbrev pub Tells : {E F : Type 0} → (E → Option F) → Option F → E → Type 0
Tells told meant e = IfSome (told e) (λ fault. meant ≡ Some fault)

-- an error is the refusal that is meant, or out of memory
abbrev pub Refuses : {A E F : Type 0} → (E → Option F) → Result A F → E → Type 0
Refuses told meant e = IfSome (told e) (λ fault. meant ≡ Err fault)

-- what is answered is what is meant: the value or the refusal, or else out of memory
abbrev pub Answers : {A E F : Type 0} → (E → Option F) → Result A F → Result A E → Type 0
Answers told meant (Ok x) = meant ≡ Ok x
Answers told meant (Err e) = Refuses told meant e

-- what a call answers that leaves its value in a place; after an error nothing is said of the place
abbrev pub left_in : {A B E : Type 0} → A → Result B E → Result A E
left_in place (Ok b) = Ok place
left_in place (Err e) = Err e
