-- Calls that write nothing, in turn.
use Rattle.std.proofs.Common.{◌≡◌, ℕ, List, refl, sym, ◌∙◌, subst}
use Rattle.corr_disk.specs.Disk.{NoMore, Only, Elapses, LeavesOnly}
use Rattle.corr_disk.proofs.laws.Moments.{started, goes_on, then_on, weaker}
use Rattle.jrn_file.specs.Untouched.{IsUntouched}

module _ {D : Type 0} (reads : D → List ℕ) (may_leave : D → List ℕ → Type 0) (moment : D → ℕ) (left_since : D → ℕ → List ℕ → Type 0)
    (only_now : (disk : D) (c : List ℕ) → left_since disk (moment disk) c → may_leave disk c) where
  -- before the first call
  pub untouched-start : (old : D) → IsUntouched reads may_leave moment left_since old old
  untouched-start old = record { same = refl; no_more = λ c left. left; any_moment = started moment left_since old (may_leave old) (only_now old) }

  -- one call more
  pub untouched-call : (old mid new : D) → IsUntouched reads may_leave moment left_since old mid
      → reads new ≡ reads mid → NoMore (may_leave mid) (may_leave new)
      → Elapses (moment mid) (moment new) (left_since mid) (left_since new) (may_leave new)
      → IsUntouched reads may_leave moment left_since old new
  untouched-call old mid new so_far same no_more time = record {
    same = same ∙ so_far.same;
    no_more = λ c left. so_far.no_more c (no_more c left);
    any_moment = goes_on moment left_since old mid new (may_leave old) (may_leave new) so_far.any_moment time (λ c left. so_far.no_more c (no_more c left));
  }

  -- the only image is so still
  pub untouched-only : (old new : D) → IsUntouched reads may_leave moment left_since old new → Only (reads old) (may_leave old) → Only (reads new) (may_leave new)
  untouched-only old new untouched only c left = only c (untouched.no_more c left) ∙ sym untouched.same

  -- what the only image has, each image since has
  pub untouched-leaves : (old new : D) (P : List ℕ → Type 0) → IsUntouched reads may_leave moment left_since old new → Only (reads old) (may_leave old)
      → P (reads old) → LeavesOnly moment left_since old new P
  untouched-leaves old new P untouched only has =
      weaker moment left_since old new (may_leave old) P (λ c left. subst P (sym (only c left)) has) untouched.any_moment

  -- one run of calls after another
  pub untouched-then : (old mid new : D) → IsUntouched reads may_leave moment left_since old mid → IsUntouched reads may_leave moment left_since mid new
      → IsUntouched reads may_leave moment left_since old new
  untouched-then old mid new first second = record {
    same = second.same ∙ first.same;
    no_more = λ c left. first.no_more c (second.no_more c left);
    any_moment = then_on moment left_since old mid new (may_leave old) first.any_moment
        (weaker moment left_since mid new (may_leave mid) (may_leave old) first.no_more second.any_moment);
  }
