-- Calls of a disk are counted.
use Rattle.std.proofs.Common.{◌≡◌, ℕ, ◌+◌, ◌≤◌, Bool, Option, ◌∙◌, ap, arith}
use Rattle.corr_disk.specs.Calls.{CallsMade, AtMostCalls}

-- before the first
pub no_calls : (old : ℕ → Option Bool) → CallsMade 0 old old
no_calls old k = let same : k ≡ 0 + k = omega arith in ap old same

-- one run of calls after another
pub calls_in_turn : (n m : ℕ) (old mid new : ℕ → Option Bool) → CallsMade n old mid → CallsMade m mid new → CallsMade (n + m) old new
calls_in_turn n m old mid new first second k =
    let same : n + (m + k) ≡ n + m + k = omega arith in
    second k ∙ first (m + k) ∙ ap old same

-- one call more
pub call_more : (n : ℕ) (old mid new : ℕ → Option Bool) → CallsMade n old mid → CallsMade 1 mid new → CallsMade (n + 1) old new
call_more n old mid new so_far next = calls_in_turn n 1 old mid new so_far next

-- so many are at most more
pub calls_within : (n most : ℕ) (old new : ℕ → Option Bool) → CallsMade n old new → n ≤ most → AtMostCalls most old new
calls_within n most old new made within = (n, within, made)

-- so many calls, and at most so many more
pub calls_then : (n m most : ℕ) (old mid new : ℕ → Option Bool) → CallsMade n old mid → AtMostCalls m mid new → n + m ≤ most → AtMostCalls most old new
calls_then n m most old mid new made more within = (n + more.0, omega (arith, more.1, within), calls_in_turn n more.0 old mid new made more.2)

-- a bound that is no lower holds too
pub at_most_weaker : (m most : ℕ) (old new : ℕ → Option Bool) → AtMostCalls m old new → m ≤ most → AtMostCalls most old new
at_most_weaker m most old new made within = (made.0, omega (arith, made.1, within), made.2)
