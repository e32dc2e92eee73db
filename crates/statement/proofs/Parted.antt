-- Movements of which those of earlier days stand first.
use Rattle.std.proofs.Common.{◌≡◌, ℕ, zero, suc, ◌-◌, ◌<◌, ◌≤◌, Bool, true, false, List, [], ◌∷◌, length, get_or, take, drop, refl, sym, ap, ◌∙◌, arith, inl, inr, pos, ◌+ℤ◌, ◌≤ℤ◌, ℤ}
use Rattle.std.specs.Prelude.{int_lt}
use Rattle.std.specs.Ordering.{int_eq}
use Rattle.std.specs.List.{filter}
use Rattle.std.specs.List.Sorted.{IsPartitionPoint, IsPartitionedBy}
use Rattle.std.proofs.lemmas.Bool.{cases_lt}
use Rattle.std.proofs.lemmas.Int.{ints}
use Rattle.std.proofs.lemmas.Option.{slice_get-get_or}
use Rattle.corr_ids.specs.declared.day.Day.{Day}
use Rattle.statement.specs.inner.Index.{Rise, is_of_earlier_day, last_balance, on_day}
use Rattle.statement.specs.declared.movement.Movement.{Movement}

-- the last of movements tells the balance
pub last_at : (balance : ℤ) (ms : List Movement) (m : Movement) → 0 < length ms → m ≡ get_or ms (length ms - 1) m → last_balance balance ms ≡ m.balance
last_at balance [] m lt is = absurd (omega (arith, lt))
last_at balance (x ∷ []) m lt is = ap (λ (o : Movement). o.balance) (sym is)
last_at balance (x ∷ y ∷ ms) m lt is =
    let place : length (x ∷ y ∷ ms) - 1 ≡ suc (length (y ∷ ms) - 1) = omega arith in
    last_at x.balance (y ∷ ms) m (omega arith) (is ∙ ap (λ (k : ℕ). get_or (x ∷ y ∷ ms) k m) place)

abbrev IsParted : (Movement → Bool) → List Movement → ℕ → Type 0
IsParted p ms k = IsPartitionPoint (λ m. p m ≡ true) (λ m. p m ≡ false) ms k

parted-rest : (p : Movement → Bool) (m : Movement) (ms : List Movement) (k : ℕ) → IsParted p (m ∷ ms) (suc k) → IsParted p ms k
parted-rest p m ms k is = (λ j d low lt. is.0 (suc j) d (omega (arith, low)) (omega (arith, lt)), λ j d low lt. is.1 (suc j) d (omega (arith, low)) (omega (arith, lt)))

parted-none : (p : Movement → Bool) (m : Movement) (ms : List Movement) → IsParted p (m ∷ ms) 0 → IsParted p ms 0
parted-none p m ms is = (λ j d low lt. absurd (omega (arith, lt)), λ j d low lt. is.1 (suc j) d (omega arith) (omega (arith, lt)))

-- those that pass a test are the first
pub parted : (p : Movement → Bool) (ms : List Movement) (k : ℕ) → IsParted p ms k → take k ms ≡ filter p ms
parted p [] zero is = refl
parted p [] (suc k) is = refl
parted p (m ∷ ms) zero is =
    let fails : p m ≡ false = is.1 0 m (omega arith) (omega arith) in
    rw fails (parted p ms zero (parted-none p m ms is))
parted p (m ∷ ms) (suc k) is =
    let passes : p m ≡ true = is.0 0 m (omega arith) (omega arith) in
    rw passes (ap (λ (xs : List Movement). m ∷ xs) (parted p ms k (parted-rest p m ms k is)))

-- ---- those of a day

early : (a day : ℤ) → int_lt a day ≡ true → int_eq a day ≡ false
early a day e = grind (arith, ints)

same : (a day : ℤ) → int_lt a day ≡ false → int_lt a (day +ℤ pos 1) ≡ true → int_eq a day ≡ true
same a day e f = grind (arith, ints)

late : (a day : ℤ) → int_lt a (day +ℤ pos 1) ≡ false → int_eq a day ≡ false
late a day e = grind (arith, ints)

never : (a day : ℤ) → int_lt a day ≡ true → int_lt a (day +ℤ pos 1) ≡ false → ⊥
never a day e f = grind (arith, ints)

nothing : (k i : ℕ) (ms : List Movement) → ms ≡ [] → take k (drop i ms) ≡ []
nothing zero i ms e = refl
nothing (suc k) zero ms e = rw e refl
nothing (suc k) (suc i) ms e = rw e refl

-- those of a day stand between those of earlier days and those of later ones
pub between : (day : Day) (ms : List Movement) (i j : ℕ) → IsParted (is_of_earlier_day day.0) ms i → IsParted (is_of_earlier_day (day.0 +ℤ pos 1)) ms j → take (j - i) (drop i ms) ≡ on_day day ms
between day [] i j first last = nothing (j - i) i [] refl
between day (m ∷ ms) (suc i) (suc j) first last =
    let less : suc j - suc i ≡ j - i = omega arith in
    let before : int_lt m.day.0 day.0 ≡ true = first.0 0 m (omega arith) (omega arith) in
    rw (early m.day.0 day.0 before, less) (between day ms i j (parted-rest (is_of_earlier_day day.0) m ms i first) (parted-rest (is_of_earlier_day (day.0 +ℤ pos 1)) m ms j last))
between day (m ∷ ms) (suc i) zero first last =
    absurd (never m.day.0 day.0 (first.0 0 m (omega arith) (omega arith)) (last.1 0 m (omega arith) (omega arith)))
between day (m ∷ ms) zero (suc j) first last =
    let on : int_eq m.day.0 day.0 ≡ true = same m.day.0 day.0 (first.1 0 m (omega arith) (omega arith)) (last.0 0 m (omega arith) (omega arith)) in
    let more : suc j - 0 ≡ suc (j - 0) = omega arith in
    rw (on, more) (ap (λ (xs : List Movement). m ∷ xs) (between day ms zero j (parted-none (is_of_earlier_day day.0) m ms first) (parted-rest (is_of_earlier_day (day.0 +ℤ pos 1)) m ms j last)))
between day (m ∷ ms) zero zero first last =
    let off : int_eq m.day.0 day.0 ≡ false = late m.day.0 day.0 (last.1 0 m (omega arith) (omega arith)) in
    rw off (between day ms zero zero (parted-none (is_of_earlier_day day.0) m ms first) (parted-none (is_of_earlier_day (day.0 +ℤ pos 1)) m ms last))

-- they begin where they end or before
pub ordered : (day : Day) (ms : List Movement) (i j : ℕ) → IsParted (is_of_earlier_day day.0) ms i → IsParted (is_of_earlier_day (day.0 +ℤ pos 1)) ms j → i ≤ length ms → i ≤ j
ordered day [] i j first last le = omega (arith, le)
ordered day (m ∷ ms) zero j first last le = omega arith
ordered day (m ∷ ms) (suc i) (suc j) first last le =
    let rest = ordered day ms i j (parted-rest (is_of_earlier_day day.0) m ms i first) (parted-rest (is_of_earlier_day (day.0 +ℤ pos 1)) m ms j last) (omega (arith, le)) in
    omega (arith, rest)
ordered day (m ∷ ms) (suc i) zero first last le =
    absurd (never m.day.0 day.0 (first.0 0 m (omega arith) (omega arith)) (last.1 0 m (omega arith) (omega arith)))

-- ---- where days never fall, earlier ones stand first

not-later : (a b day : ℤ) → a ≤ℤ b → int_lt b day ≡ true → int_lt a day ≡ true
not-later a b day le e = grind (arith, ints)

pub rise_parts : (ms : List Movement) (day : ℤ) → Rise ms → IsPartitionedBy (is_of_earlier_day day) ms
rise_parts ms day up i j d le lt e =
    let at_j = slice_get-get_or ms j d lt in
    let at_i = slice_get-get_or ms i d (omega (arith, le, lt)) in
    elim (cases_lt i j) [
      | inl less ↦ not-later (get_or ms i d).day.0 (get_or ms j d).day.0 day (up i j (get_or ms i d) (get_or ms j d) less at_i at_j) e
      | inr more ↦
          let one : i ≡ j = omega (arith, le, more) in
          ap (λ (k : ℕ). is_of_earlier_day day (get_or ms k d)) one ∙ e
    ]
