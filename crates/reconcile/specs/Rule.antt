-- The rule of pairing, of whole lists: each line in its order takes the first entry that matches it and that no line before it took.
use Rattle.std.specs.Prelude.{◌≡◌, ℕ, ◌-◌, ◌≤◌, ◌<◌, true, List, slice_get, Some}
use Rattle.std.specs.List.{Contains}
use Rattle.mt950.specs.declared.entry.Line61.{Line61}
use Rattle.statement.specs.Lines.{Placed}
use Rattle.reconcile.specs.Pairing.{matches}

module _ (ours : List Placed) (theirs : List Line61) (pairs : List (ℕ × ℕ)) where
  -- an entry is free for the line with a number: it matches it, and no line before took it
  pub record IsFree (k : ℕ) (placed : Placed) : Type 0 where
    pub line : Line61
    pub from_one : 1 ≤ k
    pub there : slice_get theirs (k - 1) ≡ Some line
    pub is_ours : Contains ours placed
    pub same : matches line placed ≡ true
    pub untaken : (l : ℕ) → l < k → Contains pairs (placed.place, l) → ⊥

  -- it is the first one
  pub record IsFirstFree (k : ℕ) (placed : Placed) : Type 0 where
    pub free : IsFree k placed
    pub first : (other : Placed) → IsFree k other → placed.place ≤ other.place

  -- a pair is a line and the first entry that is free for it, and a line without a pair has no entry that is free for it
  pub record IsPairing : Type 0 where
    pub takes : (place k : ℕ) → Contains pairs (place, k) → (placed : Placed) × (placed.place ≡ place) × IsFirstFree k placed
    pub leaves : (k : ℕ) → ((place : ℕ) → Contains pairs (place, k) → ⊥) → (placed : Placed) → IsFree k placed → ⊥
    pub order : (i j : ℕ) (p q : ℕ × ℕ) → i < j → slice_get pairs i ≡ Some p → slice_get pairs j ≡ Some q → p.1 < q.1
