-- Lists of which one element changes.
use Rattle.std.proofs.Common.{◌≡◌, ◌≢◌, ℕ, zero, suc, ◌-◌, ◌<◌, List, [], ◌∷◌, ◌++◌, length, take, get_or, Some, refl, ap, ◌∙◌, arith, length-append}
use Rattle.std.specs.Prelude.{slice_get, slice_set}
use Rattle.std.proofs.lemmas.List.{take_at}
use Rattle.std.proofs.lemmas.Option.{none-some, same_Some}
use Rattle.statement.specs.inner.Index.{changed_at, pushed, undone}
use Rattle.statement.specs.declared.ledger.Ledger.{Ledger}
use Rattle.statement.specs.declared.movement.Movement.{Movement}

module _ {A : Type 0} (change : A → A) where
  -- an element that is written
  pub changed-set : (xs : List A) (k : ℕ) (x y : A) → k < length xs → x ≡ get_or xs k x → y ≡ change x → slice_set xs k y ≡ changed_at k change xs
  changed-set [] k x y lt is e = absurd (omega (arith, lt))
  changed-set (z ∷ xs) zero x y lt is e = ap (λ (o : A). o ∷ xs) (e ∙ ap change is)
  changed-set (z ∷ xs) (suc k) x y lt is e = ap (λ (os : List A). z ∷ os) (changed-set xs k x y (omega (arith, lt)) is e)

  pub changed-length : (k : ℕ) (xs : List A) → length (changed_at k change xs) ≡ length xs
  changed-length k [] = refl
  changed-length zero (x ∷ xs) = refl
  changed-length (suc k) (x ∷ xs) = ap suc (changed-length k xs)

  pub changed-here : (k : ℕ) (xs : List A) (x : A) → slice_get xs k ≡ Some x → slice_get (changed_at k change xs) k ≡ Some (change x)
  changed-here k [] x at = absurd (none-some x at)
  changed-here zero (y ∷ xs) x at = ap (λ (o : A). Some (change o)) (same_Some y x at)
  changed-here (suc k) (y ∷ xs) x at = changed-here k xs x at

  pub changed-there : (k i : ℕ) (xs : List A) (x : A) → i ≢ k → slice_get xs i ≡ Some x → slice_get (changed_at k change xs) i ≡ Some x
  changed-there k i [] x apart at = absurd (none-some x at)
  changed-there zero zero (y ∷ xs) x apart at = absurd (apart refl)
  changed-there zero (suc i) (y ∷ xs) x apart at = at
  changed-there (suc k) zero (y ∷ xs) x apart at = at
  changed-there (suc k) (suc i) (y ∷ xs) x apart at = changed-there k i xs x (λ e. apart (ap suc e)) at

-- an element that is written once more stays
pub set-same : {A : Type 0} (xs : List A) (k : ℕ) (x y : A) → k < length xs → x ≡ get_or xs k x → y ≡ x → slice_set xs k y ≡ xs
set-same [] k x y lt is e = absurd (omega (arith, lt))
set-same (z ∷ xs) zero x y lt is e = ap (λ o. o ∷ xs) (e ∙ is)
set-same (z ∷ xs) (suc k) x y lt is e = ap (λ os. z ∷ os) (set-same xs k x y (omega (arith, lt)) is e)

dropped : (movement : Movement) (ms : List Movement) → take (length (ms ++ movement ∷ []) - 1) (ms ++ movement ∷ []) ≡ ms
dropped movement ms = take_at ms (movement ∷ []) (length (ms ++ movement ∷ []) - 1) (omega (arith, length-append ms (movement ∷ [])))

-- a movement that is taken away again
pub undone-pushed : (k : ℕ) (movement : Movement) (ledgers : List Ledger) → changed_at k undone (changed_at k (pushed movement) ledgers) ≡ ledgers
undone-pushed k movement [] = refl
undone-pushed zero movement (ledger ∷ ledgers) = ap (λ (ms : List Movement). record ledger { movements = ms } ∷ ledgers) (dropped movement ledger.movements)
undone-pushed (suc k) movement (ledger ∷ ledgers) = ap (λ (ls : List Ledger). ledger ∷ ls) (undone-pushed k movement ledgers)
