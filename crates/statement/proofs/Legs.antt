-- What the legs of an entry do to one account's balance.
use Rattle.std.proofs.Common.{◌≡◌, ℕ, ◌+◌, ◌==◌, ◌&&◌, Bool, true, false, cond, List, [], ◌∷◌, ◌++◌, refl, sym, ap, ◌∙◌, arith, pos, ◌+ℤ◌, ◌-ℤ◌, ℤ}
use Rattle.std.specs.Prelude.{sum_by, if◌then◌else◌}
use Rattle.std.specs.List.{filter}
use Rattle.std.proofs.lemmas.Int.{ints}
use Rattle.std.proofs.lemmas.List.Sums.{sum_by-cons}
use Rattle.day_model.specs.Balance.{balance_of, changed, moved, opening_of}
use Rattle.day_model.specs.Chart.{Chart}
use Rattle.day_model.specs.Totals.{Pair, balance_with, booked_legs, leg_pair, legs_pair, on_side, plus, totals_of}
use Rattle.day_model.specs.declared.entry.Entry.{Entry}
use Rattle.day_model.specs.declared.pay.Leg.{Leg}
use Rattle.day_model.specs.declared.pay.Side.{Side}
use Rattle.day_model.specs.declared.pay.Side.TheVariants.{Credit, Debit}
use Rattle.day_model.specs.Fit.{is_side}
use Rattle.day_model.proofs.laws.Pairs.{entry_adds_its_legs, own_leg, plus_nothing}
use Rattle.statement.specs.Legs.{legs_on}

nothing : (b : Bool) (amount : ℕ) → (if b && false then amount else 0) ≡ 0
nothing true amount = refl
nothing false amount = refl

elsewhere : (side : Side) (n : ℕ) (leg : Leg) → (leg.account.0 == n) ≡ false → moved side n leg ≡ 0
elsewhere side n leg e = rw e (nothing (is_side side leg.side) leg.amount.0)

-- what adds nothing may be left out of a sum
one-kept : {A : Type 0} (f : A → ℕ) (b : Bool) (x : A) (xs : List A) → (b ≡ false → f x ≡ 0) → f x + sum_by f xs ≡ sum_by f (cond b (x ∷ xs) xs)
one-kept f true x xs none = sym (sum_by-cons f x xs)
one-kept f false x xs none = rw (none refl) (omega arith)

sum-kept : {A : Type 0} (f : A → ℕ) (p : A → Bool) → ((x : A) → p x ≡ false → f x ≡ 0) → (xs : List A) → sum_by f xs ≡ sum_by f (filter p xs)
sum-kept f p none [] = refl
sum-kept f p none (x ∷ xs) = sum_by-cons f x xs ∙ ap (λ (k : ℕ). f x + k) (sum-kept f p none xs) ∙ one-kept f (p x) x (filter p xs) (none x)

-- only legs on an account move it
moved-on : (side : Side) (n : ℕ) (legs : List Leg) → sum_by (moved side n) legs ≡ sum_by (moved side n) (filter (λ leg. leg.account.0 == n) legs)
moved-on side n legs = sum-kept (moved side n) (λ leg. leg.account.0 == n) (elsewhere side n) legs

pair-on : (n : ℕ) (entry : Entry) → legs_pair n (booked_legs entry) ≡ legs_pair n (legs_on n entry)
pair-on n entry = λ i. (moved-on Credit n (booked_legs entry) i, moved-on Debit n (booked_legs entry) i)

credit-more : (o : ℤ) (c d a : ℕ) → (o +ℤ pos (c + a)) -ℤ pos (d + 0) ≡ ((o +ℤ pos c) -ℤ pos d) +ℤ pos a
credit-more o c d a = omega (arith, ints)

debit-more : (o : ℤ) (c d a : ℕ) → (o +ℤ pos (c + 0)) -ℤ pos (d + a) ≡ ((o +ℤ pos c) -ℤ pos d) -ℤ pos a
debit-more o c d a = omega (arith, ints)

with-leg : (chart : Chart) (n : ℕ) (p : Pair) (side : Side) (amount : ℕ) → balance_with chart n (plus p (on_side side amount)) ≡ changed side amount (balance_with chart n p)
with-leg chart n p Credit amount = credit-more (opening_of chart n) p.0 p.1 amount
with-leg chart n p Debit amount = debit-more (opening_of chart n) p.0 p.1 amount

module _ (chart : Chart) (before : List Entry) (entry : Entry) where
  -- an entry without a leg on an account leaves its balance
  pub unmoved : (n : ℕ) → legs_on n entry ≡ [] → balance_of chart (before ++ entry ∷ []) n ≡ balance_of chart before n
  unmoved n none =
      ap (balance_with chart n) (entry_adds_its_legs before entry n ∙ ap (plus (totals_of n before)) (pair-on n entry ∙ ap (legs_pair n) none) ∙ plus_nothing (totals_of n before))

  -- one leg changes it
  pub one-moves : (leg : Leg) → legs_on leg.account.0 entry ≡ leg ∷ []
      → balance_of chart (before ++ entry ∷ []) leg.account.0 ≡ changed leg.side leg.amount.0 (balance_of chart before leg.account.0)
  one-moves leg only =
      let n = leg.account.0 in
      let added : legs_pair n (booked_legs entry) ≡ leg_pair leg = pair-on n entry ∙ ap (legs_pair n) only ∙ own_leg leg in
      ap (balance_with chart n) (entry_adds_its_legs before entry n ∙ ap (plus (totals_of n before)) added) ∙ with-leg chart n (totals_of n before) leg.side leg.amount.0
