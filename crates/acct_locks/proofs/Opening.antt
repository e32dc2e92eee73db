-- What the book's seat knows while the purses are made.
use Rattle.std.proofs.Common.{◌≡◌, ◌<◌, ◌≤◌, ◌+◌, ◌-◌, ℕ, List, [], ◌∷◌, ◌++◌, length, take, get_or, Some, ap, ◌∙◌, ⊎_elim, arith}
use Rattle.std.proofs.lemmas.List.{take_more, length-take-le}
use Rattle.atomic_table.specs.Seated.{TableId}
use Rattle.acct_locks.specs.declared.seats.View.{View}
use Rattle.acct_locks.specs.declared.seats.View.TheVariants.{Book, Purse, Spent}
use Rattle.day_model.specs.Totals.{Pair, pair_at}
use Rattle.acct_locks.specs.Seats.{IsBookSeat, pairs_in}
use Rattle.acct_locks.specs.inner.Seats.{IsIn, away_in, handed_out}
use Rattle.acct_locks.specs.Holdings.{Holding, purse_at, purses_from}
use Rattle.acct_locks.specs.inner.Holdings.{AwayUpTo}
use Rattle.acct_locks.proofs.Places.{pair_same}

pub in_away : (n m : ℕ) (aw : List ℕ) → AwayUpTo n aw → IsIn m aw → m ≤ n
in_away n m [] a h = absurd h
in_away n m (x ∷ xs) a h = ⊎_elim (λ (e : x ≡ m). omega (arith, a.0)) (λ i. in_away n m xs a.1 i) h

pub away_more : (n m : ℕ) (aw : List ℕ) → n ≤ m → AwayUpTo n aw → AwayUpTo m aw
away_more n m [] le a = tt
away_more n m (x ∷ xs) le a = (omega (arith, a.0), away_more n m xs le a.1)

-- a number above 0 has one before it
before : (k : ℕ) → 0 < k → (n : ℕ) × (n + 1 ≡ k)
before k pos = (k - 1, omega arith)

pub handed_next : (v : View) (k : ℕ) (p : Pair) → IsBookSeat v → ((n : ℕ) → n + 1 ≡ k → AwayUpTo n (away_in v)) → 0 < k → pair_at (pairs_in v) k ≡ Some p
    → IsBookSeat (handed_out k p v) × (pairs_in (handed_out k p v) ≡ pairs_in v) × AwayUpTo k (away_in (handed_out k p v))
handed_next (Book ps aw back) k p isb away pos at =
    let b = before k pos in
    (tt, pair_same ps k p at, (omega arith, away_more b.0 k aw (omega arith) (away b.0 b.1)))
handed_next (Purse a b) k p isb away pos at = absurd isb
handed_next Spent k p isb away pos at = absurd isb

pub next_home : (v : View) (k : ℕ) → ((n : ℕ) → n + 1 ≡ k → AwayUpTo n (away_in v)) → 0 < k → IsIn k (away_in v) → ⊥
next_home v k away pos h =
    let b = before k pos in
    let le : k ≤ b.0 = in_away b.0 k (away_in v) (away b.0 b.1) h in
    omega arith

-- one purse more
purses_append : (t : TableId) (n : ℕ) (pairs : List Pair) (p : Pair) → purses_from t n (pairs ++ p ∷ []) ≡ purses_from t n pairs ++ purse_at t (n + length pairs) p ∷ []
purses_append t n [] p =
    let here : n ≡ n + 0 = omega arith in
    ap (λ (m : ℕ). purse_at t m p ∷ []) here
purses_append t n (x ∷ pairs) p =
    let there : (n + 1) + length pairs ≡ n + length (x ∷ pairs) = omega arith in
    ap (λ (hs : List Holding). purse_at t n x ∷ hs)
    (purses_append t (n + 1) pairs p ∙ ap (λ (m : ℕ). purses_from t (n + 1) pairs ++ purse_at t m p ∷ []) there)

pub purses_more : (t : TableId) (n i : ℕ) (pairs : List Pair) (d : Pair) → i < length pairs → purses_from t n (take (i + 1) pairs) ≡ purses_from t n (take i pairs) ++ purse_at t (n + i) (get_or pairs i d) ∷ []
purses_more t n i pairs d lt =
    let long : length (take i pairs) ≡ i = length-take-le i pairs (omega arith) in
    ap (purses_from t n) (take_more pairs i d lt)
    ∙ purses_append t n (take i pairs) (get_or pairs i d)
    ∙ ap (λ (m : ℕ). purses_from t n (take i pairs) ++ purse_at t (n + m) (get_or pairs i d) ∷ []) long
