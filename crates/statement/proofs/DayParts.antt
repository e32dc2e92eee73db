-- The entries of a day stand between those of earlier days and those of later ones.
use Rattle.std.proofs.Common.{◌≡◌, ℕ, ◌+◌, Bool, true, false, List, [], ◌∷◌, ◌++◌, length, refl, sym, ap, ◌∙◌, arith, inl, inr, ◌≤ℤ◌, ℤ, append_assoc}
use Rattle.std.specs.Prelude.{int_le, int_lt}
use Rattle.std.specs.Ordering.{int_eq}
use Rattle.std.specs.List.{AllByRecursion, filter}
use Rattle.std.proofs.lemmas.Bool.{cases_Bool}
use Rattle.std.proofs.lemmas.Int.{ints}
use Rattle.std.proofs.lemmas.List.{append-nil}
use Rattle.std.proofs.lemmas.List.Elements.{filter-append}
use Rattle.corr_ids.specs.declared.day.Day.{Day}
use Rattle.day_model.specs.declared.entry.Entry.{Entry}
use Rattle.statement.specs.Legs.{before_day}
use Rattle.statement.specs.Lines.{Placed, entry_lines, lines_from, up_to_day}
use Rattle.statement.proofs.Days.{From, Rising, entry_day}

-- ---- lists of which all pass a test, or none

pub each : {A : Type 0} (P Q : A → Type 0) → ((x : A) → P x → Q x) → (xs : List A) → AllByRecursion P xs → AllByRecursion Q xs
each P Q f [] all = tt
each P Q f (x ∷ xs) all = (f x all.0, each P Q f xs all.1)

filter-all : {A : Type 0} (p : A → Bool) (xs : List A) → AllByRecursion (λ x. p x ≡ true) xs → filter p xs ≡ xs
filter-all p [] all = refl
filter-all p (x ∷ xs) all = rw all.0 (ap (λ ys. x ∷ ys) (filter-all p xs all.1))

filter-none : {A : Type 0} (p : A → Bool) (xs : List A) → AllByRecursion (λ x. p x ≡ false) xs → filter p xs ≡ []
filter-none p [] all = refl
filter-none p (x ∷ xs) all = rw all.0 (filter-none p xs all.1)

-- ---- days

not-earlier : (a day : ℤ) → int_lt a day ≡ false → day ≤ℤ a
not-earlier a day e = grind (arith, ints)

later-one : (a day : ℤ) → day ≤ℤ a → int_eq a day ≡ false → int_lt day a ≡ true
later-one a day le e = grind (arith, ints)

later-still : (day a b : ℤ) → int_lt day a ≡ true → a ≤ℤ b → int_lt day b ≡ true
later-still day a b e le = grind (arith, ints)

no-later : (a b c : ℤ) → a ≤ℤ b → b ≤ℤ c → a ≤ℤ c
no-later a b c le more = grind (arith, ints)

early-on : (a day : ℤ) → int_lt a day ≡ true → int_eq a day ≡ false
early-on a day e = grind (arith, ints)

early-up : (a day : ℤ) → int_lt a day ≡ true → int_le a day ≡ true
early-up a day e = grind (arith, ints)

on-before : (a day : ℤ) → int_eq a day ≡ true → int_lt a day ≡ false
on-before a day e = grind (arith, ints)

on-up : (a day : ℤ) → int_eq a day ≡ true → int_le a day ≡ true
on-up a day e = grind (arith, ints)

late-before : (a day : ℤ) → int_lt day a ≡ true → int_lt a day ≡ false
late-before a day e = grind (arith, ints)

late-on : (a day : ℤ) → int_lt day a ≡ true → int_eq a day ≡ false
late-on a day e = grind (arith, ints)

late-up : (a day : ℤ) → int_lt day a ≡ true → int_le a day ≡ false
late-up a day e = grind (arith, ints)

lower : (a b : ℤ) (entries : List Entry) → a ≤ℤ b → From entry_day b entries → From entry_day a entries
lower a b [] le all = tt
lower a b (e ∷ entries) le all = (no-later a b e.day.0 le all.0, lower a b entries le all.1)

-- ---- the parts

-- entries of earlier days, of a day, and of later days
pub record AreParts (day : Day) (entries earlier here later : List Entry) : Type 0 where
  pub whole : entries ≡ (earlier ++ here) ++ later
  pub before : AllByRecursion (λ e. int_lt e.day.0 day.0 ≡ true) earlier
  pub on : AllByRecursion (λ e. int_eq e.day.0 day.0 ≡ true) here
  pub after : AllByRecursion (λ e. int_lt day.0 e.day.0 ≡ true) later

module _ (day : Day) where
  all-later : (first : ℤ) (entries : List Entry) → int_lt day.0 first ≡ true → From entry_day first entries → AllByRecursion (λ e. int_lt day.0 e.day.0 ≡ true) entries
  all-later first [] e all = tt
  all-later first (x ∷ entries) e all = (later-still day.0 first x.day.0 e all.0, all-later first entries e all.1)

  from-day : (entries : List Entry) → From entry_day day.0 entries → Rising entry_day entries → (here : List Entry) × (later : List Entry) × AreParts day entries [] here later
  from-day [] all up = ([], [], record { whole = refl; before = tt; on = tt; after = tt })
  from-day (x ∷ entries) all up =
      elim (cases_Bool (int_eq x.day.0 day.0)) [
        | inl met ↦
            let more = from-day entries all.1 up.1 in
            (x ∷ more.0, more.1, record { whole = ap (λ es. x ∷ es) more.2.whole; before = tt; on = (met, more.2.on); after = more.2.after })
        | inr unmet ↦
            let late = later-one x.day.0 day.0 all.0 unmet in
            ([], x ∷ entries, record { whole = refl; before = tt; on = tt; after = (late, all-later x.day.0 entries late up.0) })
      ]

  -- entries whose days never fall have these parts
  pub parts : (entries : List Entry) → Rising entry_day entries → (earlier : List Entry) × (here : List Entry) × (later : List Entry) × AreParts day entries earlier here later
  parts [] up = ([], [], [], record { whole = refl; before = tt; on = tt; after = tt })
  parts (x ∷ entries) up =
      elim (cases_Bool (int_lt x.day.0 day.0)) [
        | inl met ↦
            let more = parts entries up.1 in
            (x ∷ more.0, more.1, more.2, record { whole = ap (λ es. x ∷ es) more.3.whole; before = (met, more.3.before); on = more.3.on; after = more.3.after })
        | inr unmet ↦
            let from = not-earlier x.day.0 day.0 unmet in
            let rest = from-day (x ∷ entries) (from, lower day.0 x.day.0 entries from up.0) up in
            ([], rest.0, rest.1, rest.2)
      ]

-- ---- what they give

filter-parts : (p : Entry → Bool) (a b c : List Entry) → filter p ((a ++ b) ++ c) ≡ (filter p a ++ filter p b) ++ filter p c
filter-parts p a b c = filter-append p (a ++ b) c ∙ ap (λ es. es ++ filter p c) (filter-append p a b)

module _ (returned : ℕ → Bool) (n : ℕ) (day : Day) where
  lines-append : (place : ℕ) (xs ys : List Entry) → lines_from returned n day place (xs ++ ys) ≡ lines_from returned n day place xs ++ lines_from returned n day (place + length xs) ys
  lines-append place [] ys = ap (λ (k : ℕ). lines_from returned n day k ys) (omega arith)
  lines-append place (x ∷ xs) ys =
      let here : List Placed = entry_lines returned n day place x in
      let next : place + 1 + length xs ≡ place + length (x ∷ xs) = omega arith in
      ap (λ (ls : List Placed). here ++ ls) (lines-append (place + 1) xs ys ∙ ap (λ (k : ℕ). lines_from returned n day (place + 1) xs ++ lines_from returned n day k ys) next)
      ∙ sym (append_assoc here (lines_from returned n day (place + 1) xs) (lines_from returned n day (place + length (x ∷ xs)) ys))

  lines-none : (place : ℕ) (entries : List Entry) → AllByRecursion (λ e. int_eq e.day.0 day.0 ≡ false) entries → lines_from returned n day place entries ≡ []
  lines-none place [] all = refl
  lines-none place (x ∷ entries) all = rw all.0 (lines-none (place + 1) entries all.1)

module _ (day : Day) (entries earlier here later : List Entry) (are : AreParts day entries earlier here later) where
  -- the entries of earlier days
  pub before-is : before_day day entries ≡ earlier
  before-is =
      let p : Entry → Bool = λ e. int_lt e.day.0 day.0 in
      let b = filter-none p here (each _ (λ e. p e ≡ false) (λ e. on-before e.day.0 day.0) here are.on) in
      let c = filter-none p later (each _ (λ e. p e ≡ false) (λ e. late-before e.day.0 day.0) later are.after) in
      ap (filter p) are.whole ∙ filter-parts p earlier here later ∙ rw (filter-all p earlier are.before, b, c) (append-nil (earlier ++ []) ∙ append-nil earlier)

  -- those up to the day
  pub up-to-is : up_to_day day entries ≡ earlier ++ here
  up-to-is =
      let p : Entry → Bool = λ e. int_le e.day.0 day.0 in
      let a = filter-all p earlier (each _ (λ e. p e ≡ true) (λ e. early-up e.day.0 day.0) earlier are.before) in
      let b = filter-all p here (each _ (λ e. p e ≡ true) (λ e. on-up e.day.0 day.0) here are.on) in
      let c = filter-none p later (each _ (λ e. p e ≡ false) (λ e. late-up e.day.0 day.0) later are.after) in
      ap (filter p) are.whole ∙ filter-parts p earlier here later ∙ rw (a, b, c) (append-nil (earlier ++ here))

  -- the lines of the day
  pub lines-are : (returned : ℕ → Bool) (n : ℕ) → lines_from returned n day 1 entries ≡ lines_from returned n day (length earlier + 1) here
  lines-are returned n =
      let off : Entry → Type 0 = λ e. int_eq e.day.0 day.0 ≡ false in
      let a = lines-none returned n day 1 earlier (each _ off (λ e. early-on e.day.0 day.0) earlier are.before) in
      let c = lines-none returned n day (1 + length (earlier ++ here)) later (each _ off (λ e. late-on e.day.0 day.0) later are.after) in
      let place : 1 + length earlier ≡ length earlier + 1 = omega arith in
      ap (lines_from returned n day 1) are.whole
      ∙ lines-append returned n day 1 (earlier ++ here) later
      ∙ rw c (append-nil (lines_from returned n day 1 (earlier ++ here)))
      ∙ lines-append returned n day 1 earlier here
      ∙ rw (a, place) refl
