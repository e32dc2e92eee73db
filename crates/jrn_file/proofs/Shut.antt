-- Writes that leave the gate in front as it is.
use Rattle.std.proofs.Common.{ℕ, ◌<◌, ◌≤◌, List, take, sym, ◌∙◌, ap, arith}
use Rattle.std.proofs.lemmas.List.{take-take}
use Rattle.corr_disk.specs.Disk.{Torn, Follows, NoMore, Elapses}
use Rattle.corr_disk.proofs.laws.Moments.{started, goes_on, then_on}
use Rattle.jrn_file.specs.inner.Sending.{IsShutFront, LeavesShut, StaysShut}

-- a torn write after the first byte
pub torn-shut : (at n : ℕ) (old new : List ℕ) → 0 < at → Torn at n old new → IsShutFront old → IsShutFront new
torn-shut at n old new after torn shut =
    let one : 1 ≤ at = omega (arith, after) in
    sym (take-take 1 at new one) ∙ ap (λ (l : List ℕ). take 1 l) torn.before ∙ take-take 1 at old one ∙ shut

module _ {D : Type 0} (may_leave : D → List ℕ → Type 0) (moment : D → ℕ) (left_since : D → ℕ → List ℕ → Type 0)
    (only_now : (disk : D) (c : List ℕ) → left_since disk (moment disk) c → may_leave disk c) where
  -- before the first call
  pub shut-start : (old : D) → LeavesShut (may_leave old) → StaysShut may_leave moment left_since old old
  shut-start old shut = record { now = shut; any_moment = started moment left_since old IsShutFront (λ c left. shut c (only_now old c left)) }

  -- a write more
  pub shut-write : (old mid new : D) (at n : ℕ) → 0 < at → StaysShut may_leave moment left_since old mid
      → Follows (Torn at n) (may_leave mid) (may_leave new)
      → Elapses (moment mid) (moment new) (left_since mid) (left_since new) (may_leave new)
      → StaysShut may_leave moment left_since old new
  shut-write old mid new at n after so_far follows time =
      let now : LeavesShut (may_leave new) = λ c left. let from = follows c left in torn-shut at n from.0 c after from.2 (so_far.now from.0 from.1) in
      record { now = now; any_moment = goes_on moment left_since old mid new IsShutFront (may_leave new) so_far.any_moment time now }

  -- a call more that writes nothing
  pub shut-call : (old mid new : D) → StaysShut may_leave moment left_since old mid → NoMore (may_leave mid) (may_leave new)
      → Elapses (moment mid) (moment new) (left_since mid) (left_since new) (may_leave new)
      → StaysShut may_leave moment left_since old new
  shut-call old mid new so_far no_more time =
      let now : LeavesShut (may_leave new) = λ c left. so_far.now c (no_more c left) in
      record { now = now; any_moment = goes_on moment left_since old mid new IsShutFront (may_leave new) so_far.any_moment time now }

  -- one run of calls after another
  pub shut-then : (old mid new : D) → StaysShut may_leave moment left_since old mid → StaysShut may_leave moment left_since mid new
      → StaysShut may_leave moment left_since old new
  shut-then old mid new first second =
      record { now = second.now; any_moment = then_on moment left_since old mid new IsShutFront first.any_moment second.any_moment }
