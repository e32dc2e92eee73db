use Rattle.std.proofs.Common.{◌≡◌, ℕ, take}
use Rattle.std.specs.Prelude.{nat_eq}
use Rattle.indexmap.specs.IndexSet.{contains}
use Rattle.reconcile.specs.Pairing.{is_paired}
use Rattle.reconcile.proofs.pairing.places_in.Given as goal

-- the entries of the pairs so far
abbrev pub invariant-loop-place : goal.invariant-loop-place
invariant-loop-place l = (place : ℕ) → contains nat_eq l.places place ≡ is_paired (take l.place-index l.pairs) place
