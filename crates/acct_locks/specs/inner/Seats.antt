-- The rule of the seats: a purse's seat has the pair that the book's list has for its account.
use Rattle.std.specs.Prelude.{◌≡◌, ◌==◌, ℕ, ◌⊎◌, List, [], ◌∷◌, Some, None, if◌then◌else◌}
use mathlib.Core.Option.{some}
use lib.ListN.{get_elem?}
use Rattle.atomic_table.specs.Table.{State, Me, Step}
use Rattle.acct_locks.specs.declared.seats.View.{View}
use Rattle.acct_locks.specs.declared.seats.View.TheVariants.{Book, Purse}
use Rattle.day_model.specs.Totals.{Pair, pair_at}
use Rattle.day_model.specs.inner.Pairs.{with_pair}
use Rattle.acct_locks.specs.Seats.{IsBookSeat, pairs_in}

-- n is in the list
abbrev pub IsIn : ℕ → List ℕ → Type 0
IsIn n [] = ⊥
IsIn n (x ∷ xs) = (x ≡ n) ⊎ IsIn n xs

-- the list without n
abbrev pub without : ℕ → List ℕ → List ℕ
without n [] = []
without n (x ∷ xs) = if x == n then without n xs else x ∷ without n xs

-- what the book's seat has after it handed out account n with the pair p
abbrev pub handed_out : ℕ → Pair → View → View
handed_out n p (Book pairs away back) = Book (with_pair pairs n p) (n ∷ away) None
handed_out n p v = v

-- what the book's seat has after it took a purse's seat back
abbrev pub took_back : View → View → View
took_back (Book pairs away back) (Purse n p) = Book pairs (without n away) (Some (n, p))
took_back v w = v

-- the pair that the book's seat keeps from a take back is the pair of its list
abbrev pub KeepsRight : View → Type 0
KeepsRight (Book pairs away (Some back)) = pair_at pairs back.0 ≡ Some back.1
KeepsRight v = Unit {0}

-- the view is a purse's
abbrev pub IsPurse : View → Type 0
IsPurse (Purse n p) = Unit {0}
IsPurse v = ⊥

-- the accounts that are handed out, as the book's view has it
abbrev pub away_in : View → List ℕ
away_in (Book pairs away back) = away
away_in v = []

-- the seat has the book's view v, and all others fit it
pub record KeptBy (words : List ℕ) (views : List View) (seat : ℕ) (v : View) : Type 0 where
  pub zero_word : words ≡ 0 ∷ []
  pub is_book : IsBookSeat v
  pub there : get_elem? views seat ≡ some v
  pub one_book : (j : ℕ) (w : View) → get_elem? views j ≡ some w → IsBookSeat w → j ≡ seat
  pub one_purse : (i j n : ℕ) (p q : Pair) → get_elem? views i ≡ some (Purse n p) → get_elem? views j ≡ some (Purse n q) → i ≡ j
  pub is_away : (j n : ℕ) (p : Pair) → get_elem? views j ≡ some (Purse n p) → IsIn n (away_in v)
  pub agrees : (j n : ℕ) (p : Pair) → get_elem? views j ≡ some (Purse n p) → pair_at (pairs_in v) n ≡ Some p
  pub right : KeepsRight v

-- the state keeps the rule: one seat has the book's view, and all others fit it
abbrev pub RuleIsKept : State ℕ View → Type 0
RuleIsKept s = (seat : ℕ) × (v : View) × KeptBy s.words s.views seat v

-- a look changes nothing, and tells that the kept pair is right
abbrev pub Looked : Step ℕ → Me ℕ View → ℕ → Me ℕ View → Type 0
Looked st m found w = (w.0 ≡ m.0) × (w.1 ≡ m.1) × KeepsRight m.0
