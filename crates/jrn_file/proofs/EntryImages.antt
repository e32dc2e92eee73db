-- What each call of an entry may leave.
use Rattle.std.proofs.Common.{◌≡◌, inl, inr, ℕ, ◌+◌, List, length, refl, sym, subst, arith}
use Rattle.corr_disk.specs.Disk.{written, Torn, Follows, Only}
use Rattle.jrn_file.specs.inner.Making.{IsEntering}

module _ (gate : ℕ) (frame bytes : List ℕ) where
  -- at the start
  pub entering-start : IsEntering gate frame bytes bytes
  entering-start = inl (record { before = refl; after = refl; no_shorter = omega arith; no_longer = omega arith })

  pub entering-only : (images : List ℕ → Type 0) → Only bytes images → (c : List ℕ) → images c → IsEntering gate frame bytes c
  entering-only images only c image = subst (IsEntering gate frame bytes) (sym (only c image)) entering-start

  -- after the write of the frame
  pub entering-frame : (old new : List ℕ → Type 0) → Only bytes old → Follows (Torn (gate + 1) (length frame)) old new
      → (c : List ℕ) → new c → IsEntering gate frame bytes c
  entering-frame old new only follows c image =
      let from = follows c image in
      inl (subst (λ d. Torn (gate + 1) (length frame) d c) (only from.0 from.1) from.2)

  -- after the write of the gate
  pub entering-gate : (between : List ℕ) → between ≡ written (gate + 1) frame bytes
      → (old new : List ℕ → Type 0) → Only between old → Follows (Torn gate 1) old new → (c : List ℕ) → new c → IsEntering gate frame bytes c
  entering-gate between is old new only follows c image =
      let from = follows c image in
      inr (subst (λ d. Torn gate 1 d c) is (subst (λ d. Torn gate 1 d c) (only from.0 from.1) from.2))
