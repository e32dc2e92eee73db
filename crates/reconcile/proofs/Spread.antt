-- The entries of ours of distinct accounts and days: together no more than the booked legs.
use Rattle.std.proofs.Common.{◌≡◌, ℕ, suc, ◌+◌, ◌*◌, ◌≤◌, ◌==◌, ◌&&◌, Bool, true, false, cond, List, [], ◌∷◌, map, length, Some, refl, sym, ◌∙◌, subst, arith, length-append, ℤ}
use Rattle.std.specs.Prelude.{count_by, slice_get, sum_by}
use Rattle.std.specs.List.{filter, flat_map}
use Rattle.std.specs.Ordering.{int_eq}
use Rattle.std.proofs.lemmas.Bool.{and_parts, eqb-true}
use Rattle.std.proofs.lemmas.Bool.Decides.{Decides-int_eq}
use Rattle.std.proofs.lemmas.List.{length-map}
use Rattle.std.proofs.lemmas.List.Sums.{sum_by-append, sum_by-cons}
use Rattle.corr_ids.specs.declared.day.Day.{Day}
use Rattle.day_model.specs.Balance.{is_booked}
use Rattle.day_model.specs.Chart.{Chart}
use Rattle.day_model.specs.Legal.{FollowsRules}
use Rattle.day_model.specs.Totals.{booked_legs}
use Rattle.day_model.specs.declared.entry.Entry.{Entry}
use Rattle.day_model.specs.declared.pay.Leg.{Leg}
use Rattle.day_model.proofs.laws.Fitting.{fitting}
use Rattle.statement.specs.Legs.{legs_on}
use Rattle.statement.specs.Lines.{Placed, entry_line, entry_lines, is_return, lines_from}
use Rattle.day_model.specs.Chart.{chart_at}
use Rattle.reconcile.specs.LeftOut.{ComeOnce, OurStatement, entries_of}

-- ---- what is counted of two lists

counted-cons : {A : Type 0} (p : A → Bool) (x : A) (xs : List A) → count_by p (x ∷ xs) ≡ cond (p x) 1 0 + count_by p xs
counted-cons p x xs = sum_by-cons (λ y. cond (p y) 1 0) x xs

-- what none of a list passes
none-counted : {A : Type 0} (p : A → Bool) (xs : List A) → ((i : ℕ) (x : A) → slice_get xs i ≡ Some x → p x ≡ false) → count_by p xs ≡ 0
none-counted p [] none = refl
none-counted p (x ∷ xs) none =
    let rest = none-counted p xs (λ i y at. none (suc i) y at) in
    counted-cons p x xs ∙ rw (none 0 x refl) (omega (arith, rest))

-- what one of a list passes at most
abbrev AtMostOne : {A : Type 0} → (A → Bool) → List A → Type 0
AtMostOne {A} p xs = (i j : ℕ) (x y : A) → slice_get xs i ≡ Some x → slice_get xs j ≡ Some y → p x ≡ true → p y ≡ true → i ≡ j

other-fails : {A : Type 0} (p : A → Bool) (x : A) (xs : List A) → AtMostOne p (x ∷ xs) → p x ≡ true → (b : Bool) (i : ℕ) (y : A) → slice_get xs i ≡ Some y → p y ≡ b → b ≡ false
other-fails p x xs one passes true i y at e = let same : 0 ≡ suc i = one 0 (suc i) x y refl at passes e in absurd (omega (arith, same))
other-fails p x xs one passes false i y at e = refl

one-with : {A : Type 0} (p : A → Bool) (x : A) (xs : List A) → AtMostOne p (x ∷ xs) → (b : Bool) → p x ≡ b → count_by p xs ≤ 1 → cond b 1 0 + count_by p xs ≤ 1
one-with p x xs one true e rest = let none = none-counted p xs (λ i y at. other-fails p x xs one e (p y) i y at refl) in omega (arith, none)
one-with p x xs one false e rest = omega (arith, rest)

one-counted : {A : Type 0} (p : A → Bool) (xs : List A) → AtMostOne p xs → count_by p xs ≤ 1
one-counted p [] one = omega arith
one-counted p (x ∷ xs) one =
    let rest : count_by p xs ≤ 1 = one-counted p xs (λ i j y z at there passes too. let same : suc i ≡ suc j = one (suc i) (suc j) y z at there passes too in omega (arith, same)) in
    subst (λ (n : ℕ). n ≤ 1) (sym (counted-cons p x xs)) (one-with p x xs one (p x) refl rest)

sum-none : {A : Type 0} (xs : List A) → sum_by (λ x. 0) xs ≡ 0
sum-none [] = refl
sum-none (x ∷ xs) = let rest = sum-none xs in let whole = sum_by-cons (λ x. 0) x xs in omega (arith, rest, whole)

sum-plus : {A : Type 0} (f g : A → ℕ) (xs : List A) → sum_by (λ x. f x + g x) xs ≡ sum_by f xs + sum_by g xs
sum-plus f g [] = refl
sum-plus f g (x ∷ xs) =
    let whole = sum_by-cons (λ x. f x + g x) x xs in
    let one = sum_by-cons f x xs in
    let two = sum_by-cons g x xs in
    let rest = sum-plus f g xs in
    omega (arith, whole, one, two, rest)

sum-same : {A : Type 0} (f g : A → ℕ) → ((x : A) → f x ≡ g x) → (xs : List A) → sum_by f xs ≡ sum_by g xs
sum-same f g same [] = refl
sum-same f g same (x ∷ xs) =
    let one = sum_by-cons f x xs in
    let two = sum_by-cons g x xs in
    let rest = sum-same f g same xs in
    let here = same x in
    omega (arith, one, two, rest, here)

-- where each of a list belongs to at most one of another, those that belong are no more than it has
spread : {A B : Type 0} (belongs : A → B → Bool) (xs : List A) → ((y : B) → AtMostOne (λ x. belongs x y) xs) → (ys : List B) → sum_by (λ x. count_by (belongs x) ys) xs ≤ length ys
spread belongs xs one [] = let none = sum-none xs in omega (arith, none)
spread {A} belongs xs one (y ∷ ys) =
    let each : (x : A) → count_by (belongs x) (y ∷ ys) ≡ cond (belongs x y) 1 0 + count_by (belongs x) ys = λ x. counted-cons (belongs x) y ys in
    let whole = sum-same (λ x. count_by (belongs x) (y ∷ ys)) (λ x. cond (belongs x y) 1 0 + count_by (belongs x) ys) each xs in
    let parts = sum-plus (λ x. cond (belongs x y) 1 0) (λ x. count_by (belongs x) ys) xs in
    let here : sum_by (λ x. cond (belongs x y) 1 0) xs ≤ 1 = one-counted (λ x. belongs x y) xs (one y) in
    let rest = spread belongs xs one ys in
    omega (arith, whole, parts, here, rest)

-- ---- legs

-- an account's number and a day
abbrev AccountDay : Type 0
AccountDay = ℕ × ℤ

-- those of each booked leg of an entry
abbrev own-days : Entry → List AccountDay
own-days entry = map (λ leg. (leg.account.0, entry.day.0)) (booked_legs entry)

abbrev leg-days : List Entry → List AccountDay
leg-days entries = flat_map own-days entries

-- one is of this account and this day
abbrev is-on : ℕ → Day → AccountDay → Bool
is-on n day one = (one.0 == n) && int_eq one.1 day.0

kept-leg : (b here : Bool) (leg : Leg) (legs : List Leg) (count : ℕ) → cond here (length legs) 0 ≡ count → cond here (length (cond b (leg ∷ legs) legs)) 0 ≡ cond (b && here) 1 0 + count
kept-leg true true leg legs count e = omega (arith, e)
kept-leg true false leg legs count e = omega (arith, e)
kept-leg false true leg legs count e = omega (arith, e)
kept-leg false false leg legs count e = omega (arith, e)

own-count : (n : ℕ) (day : Day) (at : ℤ) (legs : List Leg) → cond (int_eq at day.0) (length (filter (λ leg. leg.account.0 == n) legs)) 0 ≡ count_by (is-on n day) (map (λ leg. (leg.account.0, at)) legs)
own-count n day at [] = none (int_eq at day.0)
  where
    none : (b : Bool) → cond {A = ℕ} b 0 0 ≡ 0
    none true = refl
    none false = refl
own-count n day at (leg ∷ legs) =
    kept-leg (leg.account.0 == n) (int_eq at day.0) leg (filter (λ leg. leg.account.0 == n) legs) (count_by (is-on n day) (map (λ leg. (leg.account.0, at)) legs)) (own-count n day at legs)
    ∙ sym (counted-cons (is-on n day) (leg.account.0, at) (map (λ leg. (leg.account.0, at)) legs))

lines-if : (b : Bool) (legs : List Leg) (f : Leg → Placed) → length (cond b (map f legs) []) ≡ cond b (length legs) 0
lines-if true legs f = length-map legs f
lines-if false legs f = refl

module _ (returned : ℕ → Bool) (n : ℕ) (day : Day) where
  entry-count : (place : ℕ) (entry : Entry) → length (entry_lines returned n day place entry) ≡ count_by (is-on n day) (own-days entry)
  entry-count place entry =
      lines-if (int_eq entry.day.0 day.0) (legs_on n entry) (λ leg. record { place = place; line = entry_line day place (returned place) entry leg })
      ∙ own-count n day entry.day.0 (booked_legs entry)

  -- the lines of an account and a day are its booked legs of that day
  lines-count : (place : ℕ) (entries : List Entry) → length (lines_from returned n day place entries) ≡ count_by (is-on n day) (leg-days entries)
  lines-count place [] = refl
  lines-count place (entry ∷ entries) =
      let size = length-append (entry_lines returned n day place entry) (lines_from returned n day (place + 1) entries) in
      let here = entry-count place entry in
      let rest = lines-count (place + 1) entries in
      let parts = sum_by-append (λ y. cond (is-on n day y) 1 0) (own-days entry) (leg-days entries) in
      omega (arith, size, here, rest, parts)

-- each entry has three legs at most
booked-few : (b : Bool) (legs : List Leg) → length legs ≤ 3 → length (cond b legs []) ≤ 3
booked-few true legs few = few
booked-few false legs few = omega arith

legs-few : (entries : List Entry) → ((i : ℕ) (e : Entry) → slice_get entries i ≡ Some e → length e.pay.legs ≤ 3) → length (leg-days entries) ≤ 3 * length entries
legs-few [] few = omega arith
legs-few (e ∷ entries) few =
    let size = length-append (own-days e) (leg-days entries) in
    let same : length (own-days e) ≡ length (booked_legs e) = length-map (booked_legs e) (λ leg. (leg.account.0, e.day.0)) in
    let here : length (booked_legs e) ≤ 3 = booked-few (is_booked e.outcome) e.pay.legs (few 0 e refl) in
    let rest = legs-few entries (λ i x at. few (suc i) x at) in
    omega (arith, size, same, here, rest)

module _ (chart : Chart) (entries : List Entry) where
  abbrev belongs : OurStatement → AccountDay → Bool
  belongs statement one = is-on statement.0.0 statement.1.day one

  count-is : (statement : OurStatement) → entries_of chart entries statement ≡ count_by (belongs statement) (leg-days entries)
  count-is statement = lines-count (is_return chart entries) statement.0.0 statement.1.day 1 entries

  same-account : (a b : OurStatement) (k : ℕ) → k ≡ a.0.0 → k ≡ b.0.0 → a.0 ≡ b.0
  same-account a b k e f = λ i. record { 0 = (sym e ∙ f) i }

  same-day : (a b : OurStatement) (d : ℤ) → d ≡ a.1.day.0 → d ≡ b.1.day.0 → a.1.day ≡ b.1.day
  same-day a b d e f = λ i. record { 0 = (sym e ∙ f) i }

  one-belongs : (statements : List OurStatement) → ComeOnce statements → (one : AccountDay) → AtMostOne (λ statement. belongs statement one) statements
  one-belongs statements once one i j a b at there first second =
      let p = and_parts (one.0 == a.0.0) (int_eq one.1 a.1.day.0) first in
      let q = and_parts (one.0 == b.0.0) (int_eq one.1 b.1.day.0) second in
      once i j a b at there
      (same-account a b one.0 (eqb-true one.0 a.0.0 p.0) (eqb-true one.0 b.0.0 q.0))
      (same-day a b one.1 ((Decides-int_eq one.1 a.1.day.0).0 p.1) ((Decides-int_eq one.1 b.1.day.0).0 q.1))

  -- so statements of distinct accounts and days have three entries of ours at most for each of the history
  pub statements-few : (statements : List OurStatement) → FollowsRules chart entries → ComeOnce statements → sum_by (entries_of chart entries) statements ≤ 3 * length entries
  statements-few statements rules once =
      let all = spread belongs statements (one-belongs statements once) (leg-days entries) in
      let same = sum-same (entries_of chart entries) (λ statement. count_by (belongs statement) (leg-days entries)) count-is statements in
      let legs = legs-few entries (λ i e at. (fitting (chart_at chart i) e.pay.legs (rules.fits i e at)).few) in
      omega (arith, all, same, legs)
