-- Each entry and each line stands in one list.
use Rattle.std.proofs.Common.{◌≡◌, ℕ, zero, suc, ◌+◌, ◌<◌, ◌==◌, ◌||◌, not, Bool, true, false, cond, List, [], ◌∷◌, ◌++◌, map, length, take, Option, Some, None, option_map, refl, sym, ap, ◌∙◌, subst, arith, inl, inr}
use Rattle.std.specs.Prelude.{IsPermutation, slice_get}
use Rattle.std.specs.List.{Contains, filter, range_with_len}
use Rattle.std.proofs.lemmas.Bool.{cases_Bool, ne_eqb}
use Rattle.std.proofs.lemmas.Bool.Decides.{nat_tests}
use Rattle.std.proofs.lemmas.List.Elements.{filter_agree}
use Rattle.std.proofs.lemmas.List.Sorted.{IsPermutation-append_right, IsPermutation-cons, IsPermutation-filter_both, IsPermutation-middle, IsPermutation-refl, IsPermutation-sym, IsPermutation-trans}
use Rattle.std.proofs.lemmas.Option.{none-some, same_Some, slice_get-map}
use Rattle.mt950.specs.declared.entry.Line61.{Line61}
use Rattle.statement.specs.Lines.{Placed}
use Rattle.statement.specs.inner.Lines.{PlacesFrom, RiseFrom}
use Rattle.reconcile.specs.Pairing.{alone, alone_from, is_paired, matches, line_numbers, ours_left, pair_with, line_pairs_from, pairs_of, line_partner, entry_places, says_same, theirs_left}
use Rattle.reconcile.proofs.Counting.{kept-at, kept-from}
use Rattle.reconcile.proofs.First.{apart, contains-at}
use Rattle.reconcile.proofs.Partners.{in-order, pair-taken}
use Rattle.reconcile.proofs.Rising.{filter-rises}
use Rattle.reconcile.proofs.Tests.{above, itself, met}

-- ---- lines

line-once : (k : ℕ) (partner : Option Placed) (ps : List (ℕ × ℕ)) (ns rs : List ℕ) → IsPermutation (map (λ p. p.1) ps ++ ns) rs → IsPermutation (map (λ p. p.1) (pair_with k partner ++ ps) ++ (alone k partner ++ ns)) (k ∷ rs)
line-once k None ps ns rs h = IsPermutation-trans _ _ _ (IsPermutation-middle (map (λ p. p.1) ps) k ns) (IsPermutation-cons k _ _ h)
line-once k (Some placed) ps ns rs h = IsPermutation-cons k _ _ h

lines-from-once : (ours : List Placed) (ahead : List Line61) (k : ℕ) (lines : List Line61)
    → IsPermutation (map (λ p. p.1) (line_pairs_from ours ahead k lines) ++ alone_from ours ahead k lines) (range_with_len k (length lines))
lines-from-once ours ahead k [] = IsPermutation-refl []
lines-from-once ours ahead k (line ∷ lines) =
    line-once k (line_partner ours ahead line) (line_pairs_from ours (ahead ++ line ∷ []) (k + 1) lines) (alone_from ours (ahead ++ line ∷ []) (k + 1) lines) (range_with_len (k + 1) (length lines)) (lines-from-once ours (ahead ++ line ∷ []) (k + 1) lines)

pub lines-once : (ours : List Placed) (theirs : List Line61) → IsPermutation (map (λ pair. pair.1) (pairs_of ours theirs) ++ theirs_left ours theirs) (line_numbers theirs)
lines-once ours theirs = lines-from-once ours [] 1 theirs

-- ---- entries: numbers that rise, taken out one by one

-- numbers rise, from this one on
abbrev pub NumbersRise : ℕ → List ℕ → Type 0
NumbersRise low ns = RiseFrom (λ (n : ℕ). n) low ns

pub places-rise : (low : ℕ) (ours : List Placed) → PlacesFrom low ours → NumbersRise low (entry_places ours)
places-rise low [] up = tt
places-rise low (p ∷ ps) up = (up.0, places-rise (p.place + 1) ps up.1)

none-of : (n low : ℕ) (ns : List ℕ) → n < low → NumbersRise low ns → filter (λ m. m == n) ns ≡ []
none-of n low [] lt up = refl
none-of n low (m ∷ ns) lt up = let le = up.0 in rw (above m n (omega (arith, lt, le))) (none-of n (m + 1) ns (omega (arith, lt, le)) up.1)

-- a number that is there stands there once
one-of : (n low : ℕ) (ns : List ℕ) (i : ℕ) → NumbersRise low ns → slice_get ns i ≡ Some n → filter (λ m. m == n) ns ≡ n ∷ []
one-of n low [] i up at = absurd (none-some n at)
one-of n low (m ∷ ns) zero up at =
    let same : m ≡ n = same_Some m n at in
    let rest : filter (λ x. x == n) ns ≡ [] = none-of n (m + 1) ns (omega (arith, same)) up.1 in
    let here : (m == n) ≡ true = ap (λ (x : ℕ). x == n) same ∙ itself n in
    rw (here, rest) (λ i. same i ∷ [])
one-of n low (m ∷ ns) (suc i) up at =
    let rest = one-of n (m + 1) ns i up.1 at in
    elim (cases_Bool (m == n)) [
      | inl here ↦
          let none : filter (λ x. x == n) ns ≡ [] = none-of n (m + 1) ns (let same = met m n here in omega (arith, same)) up.1 in
          absurd (cc (sym none ∙ rest))
      | inr there ↦ rw there rest
    ]

-- so it may be taken out
taken-out : (n low : ℕ) (ns : List ℕ) (i : ℕ) → NumbersRise low ns → slice_get ns i ≡ Some n → IsPermutation ns (n ∷ filter (λ m. not (m == n)) ns)
taken-out n low ns i up at =
    subst (λ (front : List ℕ). IsPermutation ns (front ++ filter (λ m. not (m == n)) ns)) (one-of n low ns i up at)
    (IsPermutation-filter_both (λ m. m == n) (λ m. not (m == n)) (λ m. refl) ns)

-- pairs of distinct places that stand in a list
abbrev pub AreDistinct : List ℕ → List (ℕ × ℕ) → Type 0
AreDistinct ns [] = Unit {0}
AreDistinct ns (p ∷ ps) = (is_paired ps p.0 ≡ false) × ((i : ℕ) × (slice_get ns i ≡ Some p.0)) × AreDistinct ns ps

-- numbers that are in no pair
abbrev pub left_of : List (ℕ × ℕ) → List ℕ → List ℕ
left_of pairs ns = filter (λ n. not (is_paired pairs n)) ns

filter-both : (p q : ℕ → Bool) (ns : List ℕ) → filter p (filter q ns) ≡ filter (λ n. cond (q n) (p n) false) ns
filter-both p q [] = refl
filter-both p q (n ∷ ns) =
    elim (cases_Bool (q n)) [
      | inl there ↦ rw there (ap (λ (ms : List ℕ). cond (p n) (n ∷ ms) ms) (filter-both p q ns))
      | inr gone ↦ rw gone (filter-both p q ns)
    ]

flip : (a b : ℕ) → (a == b) ≡ (b == a)
flip a b = grind (arith, nat_tests)

both-not : (a b : Bool) → cond (not b) (not a) false ≡ not (a || b)
both-not true true = refl
both-not true false = refl
both-not false true = refl
both-not false false = refl

left-more : (p : ℕ × ℕ) (ps : List (ℕ × ℕ)) (ns : List ℕ) → filter (λ m. not (m == p.0)) (left_of ps ns) ≡ left_of (p ∷ ps) ns
left-more p ps ns =
    filter-both (λ m. not (m == p.0)) (λ m. not (is_paired ps m)) ns
    ∙ filter_agree (λ n. cond (not (is_paired ps n)) (not (n == p.0)) false) (λ n. not (is_paired (p ∷ ps) n))
    (λ n. both-not (n == p.0) (is_paired ps n) ∙ ap (λ (b : Bool). not (b || is_paired ps n)) (flip n p.0)) ns

all-left : (ns : List ℕ) → left_of [] ns ≡ ns
all-left [] = refl
all-left (n ∷ ns) = ap (λ (ms : List ℕ). n ∷ ms) (all-left ns)

-- the numbers of pairs and those in no pair are all numbers
pub each-once : (low : ℕ) (ns : List ℕ) (pairs : List (ℕ × ℕ)) → NumbersRise low ns → AreDistinct ns pairs → IsPermutation (map (λ pair. pair.0) pairs ++ left_of pairs ns) ns
each-once low ns [] up all = subst (λ (ms : List ℕ). IsPermutation ms ns) (sym (all-left ns)) (IsPermutation-refl ns)
each-once low ns (p ∷ ps) up all =
    let front : List ℕ = map (λ pair. pair.0) ps in
    let left : List ℕ = left_of ps ns in
    let at = kept-at (λ n. not (is_paired ps n)) ns all.1.0 p.0 all.1.1 (ap not all.0) in
    let out : IsPermutation left (p.0 ∷ filter (λ m. not (m == p.0)) left) = taken-out p.0 low left at.0 (filter-rises (λ (n : ℕ). n) low (λ n. not (is_paired ps n)) ns up) at.1 in
    let less : IsPermutation left (p.0 ∷ left_of (p ∷ ps) ns) = subst (λ (ms : List ℕ). IsPermutation left (p.0 ∷ ms)) (left-more p ps ns) out in
    IsPermutation-trans _ _ _ (IsPermutation-sym _ _ (IsPermutation-middle front p.0 (left_of (p ∷ ps) ns)))
    (IsPermutation-trans _ _ _ (IsPermutation-append_right front _ _ (IsPermutation-sym _ _ less)) (each-once low ns ps up all.2))

-- ---- pairs of lines and entries

none-paired : (n : ℕ) (ps : List (ℕ × ℕ)) → ((j : ℕ) (q : ℕ × ℕ) → slice_get ps j ≡ Some q → q.0 ≡ n → ⊥) → is_paired ps n ≡ false
none-paired n [] f = refl
none-paired n (q ∷ ps) f = rw (ne_eqb q.0 n (λ e. f 0 q refl e), none-paired n ps (λ j r e s. f (suc j) r e s)) refl

all-distinct : (ns : List ℕ) (ps : List (ℕ × ℕ)) → ((i : ℕ) (p : ℕ × ℕ) → slice_get ps i ≡ Some p → (j : ℕ) × (slice_get ns j ≡ Some p.0))
    → ((i j : ℕ) (p q : ℕ × ℕ) → i < j → slice_get ps i ≡ Some p → slice_get ps j ≡ Some q → q.0 ≡ p.0 → ⊥) → AreDistinct ns ps
all-distinct ns [] inside apart = tt
all-distinct ns (p ∷ ps) inside apart = (
  none-paired p.0 ps (λ j q e same. apart 0 (suc j) p q (omega arith) refl e same),
  inside 0 p refl,
  all-distinct ns ps (λ i q e. inside (suc i) q e) (λ i j q r lt e f same. apart (suc i) (suc j) q r (omega (arith, lt)) e f same),
)

module _ (low : ℕ) (ours : List Placed) (theirs : List Line61) (up : PlacesFrom low ours) where
  abbrev pairs : List (ℕ × ℕ)
  pairs = pairs_of ours theirs

  inside : (i : ℕ) (p : ℕ × ℕ) → slice_get pairs i ≡ Some p → (j : ℕ) × (slice_get (entry_places ours) j ≡ Some p.0)
  inside i p at =
      let t = pair-taken ours [] 1 theirs p.0 p.1 (contains-at pairs i p at) in
      let k = kept-from (matches t.line) ours (length (filter (says_same t.line) (take t.at theirs))) t.placed t.partner in
      (k.place, slice_get-map (λ placed. placed.place) ours k.place ∙ ap (option_map (λ placed. placed.place)) k.there ∙ ap Some t.same)

  not-twice : (i j : ℕ) (p q : ℕ × ℕ) → i < j → slice_get pairs i ≡ Some p → slice_get pairs j ≡ Some q → q.0 ≡ p.0 → ⊥
  not-twice i j p q lt e f same =
      apart low ours theirs up q.0 q.1 p.1 (in-order ours theirs i j p q lt e f) (contains-at pairs j q f)
      (subst (λ (x : ℕ). Contains pairs (x, p.1)) (sym same) (contains-at pairs i p e))

  pub entries-once : IsPermutation (map (λ pair. pair.0) pairs ++ ours_left pairs ours) (entry_places ours)
  entries-once = each-once low (entry_places ours) pairs (places-rise low ours up) (all-distinct (entry_places ours) pairs inside not-twice)
