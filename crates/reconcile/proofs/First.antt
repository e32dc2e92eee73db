-- The pairs are by the rule: each line takes the first entry that matches it and that no line before it took.
use Rattle.std.proofs.Common.{◌≡◌, ℕ, ◌+◌, ◌-◌, ◌<◌, ◌≤◌, ◌&&◌, true, List, [], length, get_or, take, Some, sym, ap, ◌∙◌, subst, arith, inl, inr}
use Rattle.std.specs.Prelude.{neg_ℤ, slice_get}
use Rattle.std.specs.List.{Contains, filter}
use Rattle.std.specs.Ordering.{int_eq}
use Rattle.std.specs.Str.{bytes_eq}
use Rattle.std.proofs.lemmas.Bool.{cases_lt}
use Rattle.std.proofs.lemmas.List.Elements.{filter_agree}
use Rattle.std.proofs.lemmas.Option.{get_or_from_slice_get, same_Some, slice_get-get_or, slice_get_within}
use Rattle.std.proofs.lemmas.Slice.Eq.{bytes_eq-Decides}
use Rattle.mt950.specs.Entry.{effect_of}
use Rattle.mt950.specs.declared.entry.Line61.{Line61}
use Rattle.statement.specs.Lines.{Placed}
use Rattle.statement.specs.inner.Lines.{PlacesFrom}
use Rattle.reconcile.specs.Pairing.{matches, pairs_of, line_partner, says_same}
use Rattle.reconcile.specs.Rule.{IsFirstFree, IsFree, IsPairing}
use Rattle.reconcile.proofs.Counting.{count-lt, kept-at, kept-from, nth}
use Rattle.reconcile.proofs.Partners.{IsTaken, in-order, pair-taken, taken-pair}
use Rattle.reconcile.proofs.Rising.{filter-rises, rises, same-item}
use Rattle.reconcile.proofs.Tests.{int-alike, int-same, neg-same, three, three-true}

-- ---- lines that say the same

-- what two lines share that say the same
record Alike (line other : Line61) : Type 0 where
  pub effect : effect_of other ≡ effect_of line
  pub value : other.value.0 ≡ line.value.0
  pub reference : other.reference ≡ line.reference

alike : (line other : Line61) → says_same line other ≡ true → Alike line other
alike line other e =
    let a = three (int_eq (effect_of other) (effect_of line)) (int_eq other.value.0 line.value.0) (bytes_eq other.reference line.reference) e in
    record {
      effect = int-same (effect_of other) (effect_of line) a.0;
      value = int-same other.value.0 line.value.0 a.1;
      reference = (bytes_eq-Decides other.reference line.reference).0 a.2;
    }

says-alike : (line other : Line61) → Alike line other → says_same line other ≡ true
says-alike line other a =
    three-true (int_eq (effect_of other) (effect_of line)) (int_eq other.value.0 line.value.0) (bytes_eq other.reference line.reference)
    (int-alike (effect_of other) (effect_of line) a.effect) (int-alike other.value.0 line.value.0 a.value) ((bytes_eq-Decides other.reference line.reference).1 a.reference)

-- what a line and an entry share that match
pub record Meets (line : Line61) (p : Placed) : Type 0 where
  pub effect : neg_ℤ (effect_of line) ≡ effect_of p.line
  pub value : line.value.0 ≡ p.line.value.0
  pub reference : line.reference ≡ p.line.reference

pub meets : (line : Line61) (p : Placed) → matches line p ≡ true → Meets line p
meets line p e =
    let a = three (int_eq (neg_ℤ (effect_of line)) (effect_of p.line)) (int_eq line.value.0 p.line.value.0) (bytes_eq line.reference p.line.reference) e in
    record {
      effect = int-same (neg_ℤ (effect_of line)) (effect_of p.line) a.0;
      value = int-same line.value.0 p.line.value.0 a.1;
      reference = (bytes_eq-Decides line.reference p.line.reference).0 a.2;
    }

-- lines that one entry matches say the same
pub match-same : (line other : Line61) (p : Placed) → matches line p ≡ true → matches other p ≡ true → says_same line other ≡ true
match-same line other p e f =
    let a = meets line p e in
    let b = meets other p f in
    says-alike line other (record {
      effect = neg-same (effect_of other) (effect_of line) (b.effect ∙ sym a.effect);
      value = b.value ∙ sym a.value;
      reference = b.reference ∙ sym a.reference;
    })

-- the same entries match them, and the same lines say the same
same-entries : (line other : Line61) → Alike line other → (ours : List Placed) → filter (matches other) ours ≡ filter (matches line) ours
same-entries line other a ours = filter_agree (matches other) (matches line) (λ p i. int_eq (neg_ℤ (a.effect i)) (effect_of p.line) && (int_eq (a.value i) p.line.value.0 && bytes_eq (a.reference i) p.line.reference)) ours

same-lines : (line other : Line61) → Alike line other → (lines : List Line61) → filter (says_same other) lines ≡ filter (says_same line) lines
same-lines line other a lines = filter_agree (says_same other) (says_same line) (λ l i. int_eq (effect_of l) (a.effect i) && (int_eq l.value.0 (a.value i) && bytes_eq l.reference (a.reference i))) lines

-- so the partner of the other line is told by the entries and the lines of this one
other-partner : (line other : Line61) → says_same line other ≡ true → (ours : List Placed) (ahead : List Line61)
    → line_partner ours ahead other ≡ slice_get (filter (matches line) ours) (length (filter (says_same line) ahead))
other-partner line other e ours ahead =
    let a = alike line other e in
    ap (λ (ps : List Placed). slice_get ps (length (filter (says_same other) ahead))) (same-entries line other a ours)
    ∙ ap (λ (ls : List Line61). slice_get (filter (matches line) ours) (length ls)) (same-lines line other a ahead)

-- ---- places in lists

pub contains-at : {A : Type 0} (xs : List A) (i : ℕ) (x : A) → slice_get xs i ≡ Some x → Contains xs x
contains-at xs i x e = (i, slice_get_within xs i x e, get_or_from_slice_get xs i x x e)

pub at-contains : {A : Type 0} (xs : List A) (x : A) (c : Contains xs x) → slice_get xs c.0 ≡ Some x
at-contains xs x c = slice_get-get_or xs c.0 x c.1 ∙ ap Some c.2

-- ---- the rule

module _ (low : ℕ) (ours : List Placed) (theirs : List Line61) (up : PlacesFrom low ours) where
  abbrev pairs : List (ℕ × ℕ)
  pairs = pairs_of ours theirs

  -- how many lines ahead of a place say the same as a line
  abbrev ahead_of : Line61 → ℕ → ℕ
  ahead_of line at = length (filter (says_same line) (take at theirs))

  abbrev own : Line61 → List Placed
  own line = filter (matches line) ours

  -- two lines have no entry in common
  pub apart : (place k l : ℕ) → l < k → Contains pairs (place, k) → Contains pairs (place, l) → ⊥
  apart place k l lt c d =
      let t : IsTaken ours [] 1 theirs place k = pair-taken ours [] 1 theirs place k c in
      let u : IsTaken ours [] 1 theirs place l = pair-taken ours [] 1 theirs place l d in
      let a = kept-from (matches t.line) ours (ahead_of t.line t.at) t.placed t.partner in
      let b = kept-from (matches u.line) ours (ahead_of u.line u.at) u.placed u.partner in
      let one : u.placed ≡ t.placed = same-item (λ (p : Placed). p.place) low ours b.place a.place u.placed t.placed up b.there a.there (u.same ∙ sym t.same) in
      let says : says_same t.line u.line ≡ true = match-same t.line u.line t.placed a.holds (ap (matches u.line) (sym one) ∙ b.holds) in
      let number_t = t.number in
      let number_u = u.number in
      let less = count-lt (says_same t.line) theirs u.at t.at u.line (omega (arith, lt, number_t, number_u)) u.there says in
      let other : slice_get (own t.line) (ahead_of t.line u.at) ≡ Some u.placed = sym (other-partner t.line u.line says ours (take u.at theirs)) ∙ u.partner in
      let before = rises (λ (p : Placed). p.place) low (own t.line) (ahead_of t.line u.at) (ahead_of t.line t.at) u.placed t.placed (filter-rises (λ (p : Placed). p.place) low (matches t.line) ours up) less other t.partner in
      let same : u.placed.place ≡ t.placed.place = u.same ∙ sym t.same in
      absurd (omega (arith, before, same))

  -- a free entry has as many that match ahead of it as there are lines ahead that say the same, or more
  free-late : (k : ℕ) (line : Line61) (other : Placed) → slice_get theirs (k - 1) ≡ Some line → IsFree ours theirs pairs k other → (j : ℕ) × (ahead_of line (k - 1) ≤ j) × (slice_get (own line) j ≡ Some other)
  free-late k line other there free =
      let same : free.line ≡ line = same_Some free.line line (sym free.there ∙ there) in
      let holds : matches line other ≡ true = ap (λ (l : Line61). matches l other) (sym same) ∙ free.same in
      let kept = kept-at (matches line) ours free.is_ours.0 other (at-contains ours other free.is_ours) holds in
      elim (cases_lt kept.0 (ahead_of line (k - 1))) [
        | inl lt ↦
            let n = nth (says_same line) theirs (k - 1) kept.0 lt in
            let partner : line_partner ours (take n.place theirs) n.item ≡ Some other =
            other-partner line n.item n.holds ours (take n.place theirs) ∙ ap (slice_get (own line)) n.count ∙ kept.1 in
            let below = n.below in
            absurd (free.untaken (1 + n.place) (omega (arith, below)) (taken-pair ours [] 1 theirs n.place n.item other n.there partner))
        | inr le ↦ (kept.0, le, kept.1)
      ]

  no-earlier : (line : Line61) (i j : ℕ) (p q : Placed) → i ≤ j → slice_get (own line) i ≡ Some p → slice_get (own line) j ≡ Some q → p.place ≤ q.place
  no-earlier line i j p q le e f =
      elim (cases_lt i j) [
        | inl lt ↦ let less = rises (λ (p : Placed). p.place) low (own line) i j p q (filter-rises (λ (p : Placed). p.place) low (matches line) ours up) lt e f in omega (arith, less)
        | inr ge ↦
            let here : i ≡ j = omega (arith, le, ge) in
            let same : p ≡ q = same_Some p q (sym e ∙ ap (slice_get (own line)) here ∙ f) in
            let place : p.place ≡ q.place = ap (λ (x : Placed). x.place) same in
            omega (arith, place)
      ]

  takes : (place k : ℕ) → Contains pairs (place, k) → (placed : Placed) × (placed.place ≡ place) × IsFirstFree ours theirs pairs k placed
  takes place k c =
      let t : IsTaken ours [] 1 theirs place k = pair-taken ours [] 1 theirs place k c in
      let number = t.number in
      let at : k - 1 ≡ t.at = omega (arith, number) in
      let there : slice_get theirs (k - 1) ≡ Some t.line = ap (slice_get theirs) at ∙ t.there in
      let a = kept-from (matches t.line) ours (ahead_of t.line t.at) t.placed t.partner in (
        t.placed,
        t.same,
        record {
          free = record {
            line = t.line;
            from_one = omega (arith, number);
            there = there;
            is_ours = contains-at ours a.place t.placed a.there;
            same = a.holds;
            untaken = λ l lt d. apart place k l lt c (subst (λ (x : ℕ). Contains pairs (x, l)) t.same d);
          };
          first = λ other free.
              let late = free-late k t.line other there free in
              let le : ahead_of t.line t.at ≤ late.0 = subst (λ (x : ℕ). ahead_of t.line x ≤ late.0) at late.1 in
              no-earlier t.line (ahead_of t.line t.at) late.0 t.placed other le t.partner late.2;
        },
      )

  leaves : (k : ℕ) → ((place : ℕ) → Contains pairs (place, k) → ⊥) → (placed : Placed) → IsFree ours theirs pairs k placed → ⊥
  leaves k none placed free =
      let late = free-late k free.line placed free.there free in
      let within = slice_get_within (own free.line) late.0 placed late.2 in
      let le = late.1 in
      let first : Placed = get_or (own free.line) (ahead_of free.line (k - 1)) placed in
      let partner : line_partner ours (take (k - 1) theirs) free.line ≡ Some first = slice_get-get_or (own free.line) (ahead_of free.line (k - 1)) placed (omega (arith, within, le)) in
      let low_k = free.from_one in
      let number : 1 + (k - 1) ≡ k = omega (arith, low_k) in
      none first.place (subst (λ (x : ℕ). Contains pairs (first.place, x)) number (taken-pair ours [] 1 theirs (k - 1) free.line first free.there partner))

  pub by-the-rule : IsPairing ours theirs pairs
  by-the-rule = record { takes = takes; leaves = leaves; order = λ i j p q lt e f. in-order ours theirs i j p q lt e f }
