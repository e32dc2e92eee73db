-- The first line of a text, where it is of set X.
use Rattle.std.proofs.Common.{◌≡◌, ◌≢◌, ◌<◌, ◌≤◌, ◌+◌, ◌-◌, ◌||◌, ℕ, zero, suc, Bool, true, false, not, cond, List, [], ◌∷◌, length, take, drop, get_or, Option, Some, None, nat_lt, refl, sym, ap, subst, ◌∙◌, inl, inr, arith}
use Rattle.std.specs.Prelude.{◌==◌}
use Rattle.std.specs.List.{list_any, position, position_or_len, slice_range}
use Rattle.std.proofs.lemmas.Bool.{false≢true, ne_eqb, cases_lt, lt-ltb}
use Rattle.std.proofs.lemmas.Bool.Decides.{nat_tests}
use Rattle.std.proofs.Math.Seq.{take-length}
use Rattle.std.proofs.Math.ListN.{drop_of_length-le}
use Rattle.std.proofs.lemmas.List.{length-take, length-drop, get_or-take, get_or-drop}
use Rattle.std.proofs.lemmas.List.Quantifiers.{position-Some}
use Rattle.std.proofs.lemmas.List.Sums.{fails_before_first, position_or_len_is}
use Rattle.corr_text.specs.Lines.{lines_of, with_byte}
use Rattle.corr_text.specs.Sets.{is_x_byte}

abbrev pub is_other : ℕ → Bool
is_other b = not (is_x_byte b)

-- each byte before a place is of set X
abbrev pub PlainTo : List ℕ → ℕ → Type 0
PlainTo xs i = (k : ℕ) → k < i → is_x_byte (get_or xs k 0) ≡ true

later : (x : ℕ) (xs : List ℕ) (i : ℕ) → PlainTo (x ∷ xs) (suc i) → PlainTo xs i
later x xs i all k l = all (suc k) (omega (arith, l))

no-end : (b : ℕ) → is_x_byte b ≡ true → ((b == 10) ≡ false) × ((b == 13) ≡ false)
no-end b h = (
  ne_eqb b 10 (λ e. false≢true (subst (λ n. is_x_byte n ≡ true) e h)),
  ne_eqb b 13 (λ e. false≢true (subst (λ n. is_x_byte n ≡ true) e h)),
)

plain-feed : (xs : List ℕ) (i : ℕ) → i < length xs → get_or xs i 0 ≡ 10 → PlainTo xs i → lines_of xs ≡ take i xs ∷ lines_of (drop (suc i) xs)
plain-feed [] i lt h all = absurd (omega (arith, lt))
plain-feed (b ∷ bs) zero lt h all = rw h refl
plain-feed (b ∷ bs) (suc i) lt h all =
    let inner = no-end b (all 0 (omega arith)) in
    rw (inner.0, inner.1) (ap (with_byte b) (plain-feed bs i (omega (arith, lt)) h (later b bs i all)))

plain-return : (xs : List ℕ) (i : ℕ) → suc i < length xs → get_or xs i 0 ≡ 13 → get_or xs (suc i) 0 ≡ 10 → PlainTo xs i → lines_of xs ≡ take i xs ∷ lines_of (drop (suc (suc i)) xs)
plain-return [] i lt h g all = absurd (omega (arith, lt))
plain-return (b ∷ []) i lt h g all = absurd (omega (arith, lt))
plain-return (b ∷ c ∷ cs) zero lt h g all = rw (h, g) refl
plain-return (b ∷ c ∷ cs) (suc i) lt h g all =
    let inner = no-end b (all 0 (omega arith)) in
    rw (inner.0, inner.1) (ap (with_byte b) (plain-return (c ∷ cs) i (omega (arith, lt)) h g (later b (c ∷ cs) i all)))

plain-whole : (x : ℕ) (xs : List ℕ) → PlainTo (x ∷ xs) (suc (length xs)) → lines_of (x ∷ xs) ≡ (x ∷ xs) ∷ []
plain-whole x [] all =
    let inner = no-end x (all 0 (omega arith)) in
    rw (inner.0, inner.1) refl
plain-whole x (y ∷ ys) all =
    let inner = no-end x (all 0 (omega arith)) in
    rw (inner.0, inner.1) (ap (with_byte x) (plain-whole y ys (later x (y ∷ ys) (suc (length ys)) all)))

not-of : (b : Bool) → b ≡ true → not b ≡ false
not-of true h = refl
not-of false h = absurd (false≢true h)

of-not : (b : Bool) → not b ≡ false → b ≡ true
of-not true h = refl
of-not false h = absurd (false≢true (sym h))

neither : (a b : Bool) → a ≡ false → b ≡ false → (a || b) ≡ false
neither a b p q = rw (p, q) refl

none-other : (xs : List ℕ) (i : ℕ) → i ≤ length xs → PlainTo xs i → list_any is_other (take i xs) ≡ false
none-other [] zero le all = refl
none-other [] (suc i) le all = absurd (omega (arith, le))
none-other (x ∷ xs) zero le all = refl
none-other (x ∷ xs) (suc i) le all =
    neither (is_other x) (list_any is_other (take i xs)) (not-of (is_x_byte x) (all 0 (omega arith))) (none-other xs i (omega (arith, le)) (later x xs i all))

none-other-all : (xs : List ℕ) → PlainTo xs (length xs) → list_any is_other xs ≡ false
none-other-all [] all = refl
none-other-all (x ∷ xs) all =
    neither (is_other x) (list_any is_other xs) (not-of (is_x_byte x) (all 0 (omega arith))) (none-other-all xs (later x xs (length xs) all))

-- what position says of bytes outside X
plain-to : (xs : List ℕ) (i : ℕ) → Some i ≡ position is_other xs → (i < length xs) × PlainTo xs i
plain-to xs i e =
    let found = position-Some is_other xs i 0 (sym e) in
    (found.0, λ k l. of-not (is_x_byte (get_or xs k 0)) (found.2 k l))

plain-all : (xs : List ℕ) → None ≡ position is_other xs → PlainTo xs (length xs)
plain-all xs e =
    let all : length xs ≤ position_or_len is_other xs = grind (arith, nat_tests) in
    λ k l. of-not (is_x_byte (get_or xs k 0)) (fails_before_first is_other xs k 0 (omega (arith, all, l)))

one-line : (xs : List ℕ) → xs ≢ [] → None ≡ position is_other xs → lines_of xs ≡ xs ∷ []
one-line [] some e = absurd (some refl)
one-line (x ∷ xs) some e = plain-whole x xs (plain-all (x ∷ xs) e)

pub same-cut : (xs line rest a b : List ℕ) → line ≡ a → rest ≡ b → lines_of xs ≡ a ∷ lines_of b → lines_of xs ≡ line ∷ lines_of rest
same-cut xs line rest a b p q e = rw (p, q) e

-- ---- the three ends of a line

pub whole-cut : (xs : List ℕ) → xs ≢ [] → None ≡ position is_other xs → lines_of xs ≡ take (length xs) xs ∷ lines_of (drop (length xs + 0) xs)
whole-cut xs some e =
    let gone : drop (length xs + 0) xs ≡ [] = drop_of_length-le xs (omega arith) in
    rw (take-length xs, gone) (one-line xs some e)

pub whole-plain : (xs : List ℕ) → None ≡ position is_other xs → list_any is_other (take (length xs) xs) ≡ false
whole-plain xs e = rw (take-length xs) (none-other-all xs (plain-all xs e))

pub front-plain : (xs : List ℕ) (i : ℕ) → Some i ≡ position is_other xs → list_any is_other (take i xs) ≡ false
front-plain xs i e = let front = plain-to xs i e in none-other xs i (omega (arith, front.0)) front.1

pub feed-cut : (xs : List ℕ) (i : ℕ) → Some i ≡ position is_other xs → get_or xs i 0 ≡ 10 → lines_of xs ≡ take i xs ∷ lines_of (drop (i + 1) xs)
feed-cut xs i e h =
    let front = plain-to xs i e in
    let same : suc i ≡ i + 1 = omega arith in
    subst (λ n. lines_of xs ≡ take i xs ∷ lines_of (drop n xs)) same (plain-feed xs i front.0 h front.1)

pub return-cut : (xs : List ℕ) (i : ℕ) → Some i ≡ position is_other xs → get_or xs i 0 ≡ 13 → i + 1 < length xs → get_or xs (i + 1) 0 ≡ 10
    → lines_of xs ≡ take i xs ∷ lines_of (drop (i + 2) xs)
return-cut xs i e h lt g =
    let front = plain-to xs i e in
    let one : suc i ≡ i + 1 = omega arith in
    let two : suc (suc i) ≡ i + 2 = omega arith in
    subst (λ n. lines_of xs ≡ take i xs ∷ lines_of (drop n xs)) two (plain-return xs i (omega (arith, lt)) h (ap (λ n. get_or xs n 0) one ∙ g) front.1)

-- ---- group after group

abbrev at_place : List ℕ → ℕ → Option ℕ
at_place xs i = cond (nat_lt i (length xs)) (Some i) None

-- a byte outside X after bytes of X alone is the first one
first-other : (xs : List ℕ) (i : ℕ) → i < length xs → PlainTo xs i → is_other (get_or xs i 0) ≡ true → position is_other xs ≡ Some i
first-other xs i lt all other =
    let place : position_or_len is_other xs ≡ i = position_or_len_is is_other xs i 0 (omega (arith, lt)) (λ k l. not-of (is_x_byte (get_or xs k 0)) (all k l)) (λ l. other) in
    ap (at_place xs) place ∙ ap (λ (b : Bool). cond b (Some i) None) (lt-ltb i (length xs) lt)

no-other : (xs : List ℕ) → PlainTo xs (length xs) → position is_other xs ≡ None
no-other xs all =
    let place : position_or_len is_other xs ≡ length xs =
    position_or_len_is is_other xs (length xs) 0 (omega arith) (λ k l. not-of (is_x_byte (get_or xs k 0)) (all k l)) (λ l. absurd (omega (arith, l))) in
    let past : nat_lt (length xs) (length xs) ≡ false = grind (arith, nat_tests) in
    ap (at_place xs) place ∙ ap (λ (b : Bool). cond b (Some (length xs)) None) past

slice-byte : (xs : List ℕ) (from to k : ℕ) → k < to - from → get_or (slice_range xs from to) k 0 ≡ get_or xs (from + k) 0
slice-byte xs from to k lt = get_or-take (to - from) (drop from xs) k 0 lt ∙ get_or-drop from xs k 0

-- bytes of X in front of a slice, and bytes of X at its start
plain-on : (xs : List ℕ) (from to k : ℕ) → k ≤ to - from → PlainTo xs from → PlainTo (slice_range xs from to) k → PlainTo xs (from + k)
plain-on xs from to k within before more j l =
    elim (cases_lt j from) [
      | inl less ↦ before j less
      | inr past ↦
          (let place : from + (j - from) ≡ j = omega (arith, past) in
          let inside : j - from < k = omega (arith, past, l) in
          ap is_x_byte (sym (slice-byte xs from to (j - from) (omega (arith, inside, within)) ∙ ap (λ i. get_or xs i 0) place)) ∙ more (j - from) inside)
    ]

-- the first byte outside X of a slice, after bytes of X
found-inside : (xs : List ℕ) (from to k : ℕ) → Some k ≡ position is_other (slice_range xs from to) → (k < to - from) × (from + k < length xs)
found-inside xs from to k e =
    let found : k < length (take (to - from) (drop from xs)) = (plain-to (slice_range xs from to) k e).0 in
    let long = length-take (to - from) (drop from xs) in
    let rest = length-drop from xs in
    (omega (arith, found, long), omega (arith, found, long, rest))

pub found-here : (xs : List ℕ) (from to k : ℕ) → PlainTo xs from → Some k ≡ position is_other (slice_range xs from to) → Some (from + k) ≡ position is_other xs
found-here xs from to k before e =
    let inside = found-inside xs from to k e in
    let other : is_other (get_or (slice_range xs from to) k 0) ≡ true = (position-Some is_other (slice_range xs from to) k 0 (sym e)).1 in
    let plain = plain-on xs from to k (omega (arith, inside.0)) before (plain-to (slice_range xs from to) k e).1 in
    sym (first-other xs (from + k) inside.1 plain (ap is_other (sym (slice-byte xs from to k inside.0)) ∙ other))

-- a slice without one
pub plain-past : (xs : List ℕ) (from to : ℕ) → from ≤ to → to ≤ length xs → PlainTo xs from → None ≡ position is_other (slice_range xs from to) → PlainTo xs to
plain-past xs from to low high before e =
    let long = length-take (to - from) (drop from xs) in
    let rest = length-drop from xs in
    let size : length (take (to - from) (drop from xs)) ≡ to - from = omega (arith, long, rest, low, high) in
    let end : from + (to - from) ≡ to = omega (arith, low) in
    subst (PlainTo xs) end (plain-on xs from to (to - from) (omega arith) before (subst (PlainTo (slice_range xs from to)) size (plain-all (slice_range xs from to) e)))

pub none-here : (xs : List ℕ) (from : ℕ) → from ≤ length xs → PlainTo xs from → None ≡ position is_other (slice_range xs from (length xs)) → None ≡ position is_other xs
none-here xs from low before e = sym (no-other xs (plain-past xs from (length xs) low (omega arith) before e))
