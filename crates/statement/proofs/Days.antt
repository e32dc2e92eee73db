-- Days that never fall: those of entries, and of their movements.
use Rattle.std.proofs.Common.{◌≡◌, ℕ, zero, suc, ◌<◌, Bool, true, false, List, [], ◌∷◌, ◌++◌, map, Some, refl, sym, ap, ◌∙◌, subst, arith, inl, inr, pos, ◌+ℤ◌, ◌≤ℤ◌, ℤ, append_assoc}
use Rattle.std.specs.Prelude.{slice_get, int_lt, int_le}
use Rattle.std.specs.List.{filter}
use Rattle.std.proofs.lemmas.Bool.{cases_Bool}
use Rattle.std.proofs.lemmas.Int.{ints}
use Rattle.std.proofs.lemmas.List.{append-nil}
use Rattle.std.proofs.lemmas.List.Elements.{filter_agree}
use Rattle.std.proofs.lemmas.Option.{none-some, same_Some}
use Rattle.corr_ids.specs.declared.day.Day.{Day}
use Rattle.day_model.specs.Balance.{balance_of}
use Rattle.day_model.specs.Chart.{Chart}
use Rattle.day_model.specs.declared.entry.Entry.{Entry}
use Rattle.day_model.specs.declared.pay.Leg.{Leg}
use Rattle.statement.specs.Index.{movement_of, movements_from}
use Rattle.statement.specs.inner.Index.{last_balance}
use Rattle.statement.specs.Legs.{before_day, legs_on}
use Rattle.statement.specs.Lines.{up_to_day}
use Rattle.statement.specs.declared.movement.Movement.{Movement}
use Rattle.statement.proofs.Moves.{entry-last, last-append}

-- no element of a list has a day before this one
abbrev pub From : {A : Type 0} → (A → ℤ) → ℤ → List A → Type 0
From day first [] = Unit {0}
From day first (x ∷ xs) = (first ≤ℤ day x) × From day first xs

-- the days of a list never fall
abbrev pub Rising : {A : Type 0} → (A → ℤ) → List A → Type 0
Rising day [] = Unit {0}
Rising day (x ∷ xs) = From day (day x) xs × Rising day xs

module _ {A : Type 0} (day : A → ℤ) where
  from-all : (first : ℤ) (xs : List A) → ((j : ℕ) (x : A) → slice_get xs j ≡ Some x → first ≤ℤ day x) → From day first xs
  from-all first [] all = tt
  from-all first (x ∷ xs) all = (all 0 x refl, from-all first xs (λ j y e. all (suc j) y e))

  pub rising : (xs : List A) → ((i j : ℕ) (a b : A) → i < j → slice_get xs i ≡ Some a → slice_get xs j ≡ Some b → day a ≤ℤ day b) → Rising day xs
  rising [] all = tt
  rising (x ∷ xs) all = (from-all (day x) xs (λ j y e. all 0 (suc j) x y (omega arith) refl e), rising xs (λ i j a b lt e f. all (suc i) (suc j) a b (omega arith) e f))

  from-at : (first : ℤ) (xs : List A) → From day first xs → (j : ℕ) (x : A) → slice_get xs j ≡ Some x → first ≤ℤ day x
  from-at first [] all j x e = absurd (none-some x e)
  from-at first (y ∷ xs) all zero x e = subst (λ (o : A). first ≤ℤ day o) (same_Some y x e) all.0
  from-at first (y ∷ xs) all (suc j) x e = from-at first xs all.1 j x e

  pub rise-at : (xs : List A) → Rising day xs → (i j : ℕ) (a b : A) → i < j → slice_get xs i ≡ Some a → slice_get xs j ≡ Some b → day a ≤ℤ day b
  rise-at [] up i j a b lt e f = absurd (none-some a e)
  rise-at (x ∷ xs) up zero zero a b lt e f = absurd (omega (arith, lt))
  rise-at (x ∷ xs) up zero (suc j) a b lt e f = subst (λ (o : A). day o ≤ℤ day b) (same_Some x a e) (from-at (day x) xs up.0 j b f)
  rise-at (x ∷ xs) up (suc i) zero a b lt e f = absurd (omega (arith, lt))
  rise-at (x ∷ xs) up (suc i) (suc j) a b lt e f = rise-at xs up.1 i j a b (omega (arith, lt)) e f

-- the days of entries, and of movements
abbrev pub entry_day : Entry → ℤ
entry_day entry = entry.day.0

abbrev pub movement_day : Movement → ℤ
movement_day movement = movement.day.0

here-no-later : (d : ℤ) → d ≤ℤ d
here-no-later d = grind (arith, ints)

module _ (chart : Chart) (n : ℕ) where
  legs-from : (first : ℤ) (before : List Entry) (entry : Entry) (legs : List Leg) (more : List Movement) → first ≤ℤ entry.day.0 → From movement_day first more → From movement_day first (map (movement_of chart n before entry) legs ++ more)
  legs-from first before entry [] more le all = all
  legs-from first before entry (leg ∷ legs) more le all = (le, legs-from first before entry legs more le all)

  moves-from : (first : ℤ) (before entries : List Entry) → From entry_day first entries → From movement_day first (movements_from chart n before entries)
  moves-from first before [] all = tt
  moves-from first before (entry ∷ entries) all =
      legs-from first before entry (legs_on n entry) (movements_from chart n (before ++ entry ∷ []) entries) all.0 (moves-from first (before ++ entry ∷ []) entries all.1)

  legs-rise : (before : List Entry) (entry : Entry) (legs : List Leg) (more : List Movement) → From movement_day entry.day.0 more → Rising movement_day more → Rising movement_day (map (movement_of chart n before entry) legs ++ more)
  legs-rise before entry [] more all up = up
  legs-rise before entry (leg ∷ legs) more all up =
      (legs-from entry.day.0 before entry legs more (here-no-later entry.day.0) all, legs-rise before entry legs more all up)

  pub moves-rise : (before entries : List Entry) → Rising entry_day entries → Rising movement_day (movements_from chart n before entries)
  moves-rise before [] up = tt
  moves-rise before (entry ∷ entries) up =
      legs-rise before entry (legs_on n entry) (movements_from chart n (before ++ entry ∷ []) entries) (moves-from entry.day.0 (before ++ entry ∷ []) entries up.0) (moves-rise (before ++ entry ∷ []) entries up.1)

-- ---- days up to some day

-- a test that passes each day before one that it passes
abbrev pub Down : (ℤ → Bool) → Type 0
Down test = (a b : ℤ) → a ≤ℤ b → test b ≡ true → test a ≡ true

pub lt-down : (day : ℤ) → Down (λ d. int_lt d day)
lt-down day a b le e = grind (arith, ints)

pub le-down : (day : ℤ) → Down (λ d. int_le d day)
le-down day a b le e = grind (arith, ints)

falls : (test : ℤ → Bool) (down : Down test) (a b : ℤ) → a ≤ℤ b → test a ≡ false → test b ≡ false
falls test down a b le e =
    elim (cases_Bool (test b)) [
      | inl met ↦ absurd (cc (sym e ∙ down a b le met))
      | inr unmet ↦ unmet
    ]

module _ {A : Type 0} (day : A → ℤ) (test : ℤ → Bool) (down : Down test) where
  pub none-from : (first : ℤ) (xs : List A) → test first ≡ false → From day first xs → filter (λ x. test (day x)) xs ≡ []
  none-from first [] e all = refl
  none-from first (x ∷ xs) e all = rw (falls test down first (day x) all.0 e) (none-from first xs e all.1)

module _ (chart : Chart) (n : ℕ) (test : ℤ → Bool) (down : Down test) where
  legs-kept : (before : List Entry) (entry : Entry) (legs : List Leg) (more : List Movement) → test entry.day.0 ≡ true
      → filter (λ m. test (movement_day m)) (map (movement_of chart n before entry) legs ++ more) ≡ map (movement_of chart n before entry) legs ++ filter (λ m. test (movement_day m)) more
  legs-kept before entry [] more e = refl
  legs-kept before entry (leg ∷ legs) more e = rw e (ap (λ (ms : List Movement). movement_of chart n before entry leg ∷ ms) (legs-kept before entry legs more e))

  -- the balance by the entries whose days pass
  pub kept-balance : (before entries : List Entry) → Rising entry_day entries
      → last_balance (balance_of chart before n) (filter (λ m. test (movement_day m)) (movements_from chart n before entries)) ≡ balance_of chart (before ++ filter (λ e. test (entry_day e)) entries) n
  kept-balance before [] up = ap (λ (es : List Entry). balance_of chart es n) (sym (append-nil before))
  kept-balance before (entry ∷ entries) up =
      let legs : List Leg = legs_on n entry in
      let here : List Movement = map (movement_of chart n before entry) legs in
      let more : List Movement = movements_from chart n (before ++ entry ∷ []) entries in
      let p : Movement → Bool = λ m. test (movement_day m) in
      elim (cases_Bool (test entry.day.0)) [
        | inl met ↦
            ap (last_balance (balance_of chart before n)) (legs-kept before entry legs more met)
            ∙ last-append (balance_of chart before n) here (filter p more)
            ∙ ap (λ (b : ℤ). last_balance b (filter p more)) (entry-last chart n before entry)
            ∙ kept-balance (before ++ entry ∷ []) entries up.1
            ∙ ap (λ (es : List Entry). balance_of chart es n) (append_assoc before (entry ∷ []) (filter (λ e. test (entry_day e)) entries))
            ∙ rw met refl
        | inr unmet ↦
            let all : From movement_day entry.day.0 (here ++ more) = legs-from chart n entry.day.0 before entry legs more (here-no-later entry.day.0) (moves-from chart n entry.day.0 (before ++ entry ∷ []) entries up.0) in
            ap (last_balance (balance_of chart before n)) (none-from movement_day test down entry.day.0 (here ++ more) unmet all)
            ∙ ap (λ (es : List Entry). balance_of chart es n) (sym (append-nil before) ∙ ap (λ (es : List Entry). before ++ es) (sym (none-from entry_day test down entry.day.0 entries unmet up.0)))
            ∙ rw unmet refl
      ]

-- the entries up to a day are those before the next one
until : (a day : ℤ) → int_lt a (day +ℤ pos 1) ≡ int_le a day
until a day = grind (arith, ints)

pub up-to-before : (day : Day) (entries : List Entry) → before_day (record { 0 = day.0 +ℤ pos 1 }) entries ≡ up_to_day day entries
up-to-before day entries = filter_agree (λ (e : Entry). int_lt e.day.0 (day.0 +ℤ pos 1)) (λ (e : Entry). int_le e.day.0 day.0) (λ e. until e.day.0 day.0) entries
