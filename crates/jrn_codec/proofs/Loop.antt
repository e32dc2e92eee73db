-- Reading values one after the other, as a loop does.
use Rattle.std.proofs.Common.{◌≡◌, ℕ, suc, ◌-◌, ◌+◌, ◌≤◌, ◌<◌, List, [], ◌∷◌, ◌++◌, Option, Some, None, refl, sym, ap, ◌∙◌, append_assoc, arith}
use Rattle.std.specs.Prelude.{option_and_then}
use Rattle.std.proofs.lemmas.List.{append-nil}
use Rattle.jrn_codec.specs.declared.fault.EntryFault.{EntryFault}
use Rattle.jrn_codec.specs.declared.fault.EntryFault.TheVariants as faults
use Rattle.jrn_codec.specs.inner.Answers.{FailsToRead}
use Rattle.jrn_codec.specs.inner.Reading.{items_at}

-- what was read before, and what is still read
abbrev pub with_front : {A : Type 0} → List A → Option (List A × List ℕ) → Option (List A × List ℕ)
with_front {A} front read = option_and_then (λ (x : List A × List ℕ). Some (front ++ x.0, x.1)) read

regroup : {A : Type 0} (front : List A) (x : A) (read : Option (List A × List ℕ)) → with_front front (option_and_then (λ (others : List A × List ℕ). Some (x ∷ others.0, others.1)) read) ≡ with_front (front ++ x ∷ []) read
regroup {A} front x (Some others) = ap (λ (xs : List A). Some (xs, others.1)) (simp append_assoc)
regroup front x None = refl

pub goes_on : {A : Type 0} (read : List ℕ → Option (A × List ℕ)) (front : List A) (count i : ℕ) (bytes : List ℕ) (x : A) (after : List ℕ) (total : Option (List A × List ℕ)) → i < count → read bytes ≡ Some (x, after)
    → with_front front (items_at read (count - i) bytes) ≡ total → with_front (front ++ x ∷ []) (items_at read (count - (i + 1)) after) ≡ total
unfolding items_at
goes_on {A} read front count i bytes x after total lt h so_far =
    let k : count - i ≡ suc (count - (i + 1)) = omega arith in
    let one : with_front front (items_at read (count - i) bytes) ≡ with_front (front ++ x ∷ []) (items_at read (count - (i + 1)) after) = rw (k, h) (regroup front x (items_at read (count - (i + 1)) after)) in
    sym one ∙ so_far

pub ends : {A : Type 0} (read : List ℕ → Option (A × List ℕ)) (e : EntryFault) (front : List A) (count i : ℕ) (bytes : List ℕ) (total : Option (List A × List ℕ)) → i < count → FailsToRead e (read bytes)
    → with_front front (items_at read (count - i) bytes) ≡ total → FailsToRead e total
unfolding items_at
ends read faults.Memory front count i bytes total lt h so_far = tt
ends read faults.NoEntry front count i bytes total lt h so_far =
    let k : count - i ≡ suc (count - (i + 1)) = omega arith in
    let one : with_front front (items_at read (count - i) bytes) ≡ None = rw (k, h) refl in
    sym so_far ∙ one

pub is_done : {A : Type 0} (read : List ℕ → Option (A × List ℕ)) (front : List A) (count i : ℕ) (bytes : List ℕ) (total : Option (List A × List ℕ)) → count ≤ i
    → with_front front (items_at read (count - i) bytes) ≡ total → total ≡ Some (front, bytes)
unfolding items_at
is_done {A} read front count i bytes total le so_far =
    let k : count - i ≡ 0 = omega arith in
    let one : with_front front (items_at read (count - i) bytes) ≡ Some (front, bytes) = rw k (ap (λ (xs : List A). Some (xs, bytes)) (append-nil front)) in
    sym so_far ∙ one
