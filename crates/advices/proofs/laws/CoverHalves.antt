-- A cover that passes its tests, in two halves: the fields before 50a stand at the places before its place, and those from it on
-- at the others.
use Rattle.std.proofs.Common.{◌≡◌, ◌≢◌, ℕ, ◌+◌, ◌<◌, ◌≤◌, ◌==◌, Bool, true, List, [], ◌∷◌, ◌++◌, length, get_or, drop, position, option_map, slice_get, Option, Some, None, refl, sym, ap, ◌∙◌, arith, subst, inl, inr}
use Rattle.std.specs.Prelude.{codes, find}
use Rattle.std.specs.List.{AllByRecursion, list_any}
use Rattle.std.proofs.lemmas.Bool.{cases_Bool, eqb-true}
use Rattle.std.proofs.lemmas.List.{get_or_append_left, length-append}
use Rattle.corr_text.specs.First.{first_of}
use Rattle.ref_tables.specs.Seen.{Tables}
use Rattle.fin_fields.specs.Faults.{letter_of}
use Rattle.fin_fields.specs.declared.field.Field.{Field}
use Rattle.fin_layout.specs.declared.place.Place.{Place}
use Rattle.fin_layout.specs.Order.{fits, free_after, place_from, places_from}
use Rattle.fin_layout.specs.Places.{any, bare, may, one}
use Rattle.fin_layout.proofs.laws.Fine.{all-hold, present, taken-from}
use Rattle.fin_layout.proofs.laws.Grouped.{free_after-bounds, grouped-places}
use Rattle.fin_contents.specs.Writing.{some_field}
use Rattle.fin_contents.proofs.laws.Bytes.{and-both}
use Rattle.fin_contents.proofs.laws.Said.{HoldsInPlaces, Stands, stand}
use Rattle.mt202cov.specs.Message.{content_test, field_tests}
use Rattle.mt202cov.specs.Order.{order_202}
use Rattle.advices.specs.Fields.{copied, is_named}
use Rattle.advices.proofs.laws.Finding.{Agrees, any-field, field_of, find-at, tells_from, told-at}
use Rattle.advices.proofs.laws.Fitted.{first_for, one-named, row}
use Rattle.advices.proofs.laws.Said.{at_place}
use Rattle.advices.proofs.laws.Seats.{Seated, none-seated}
use Rattle.advices.proofs.laws.Sequences.{Apart, Passing, above-apart, at-back, at-front, below-apart, contents-hold, each-more, free_past, from_place, full-front, hold-at, holds-parts, place-above, places-above, places-append, places-after, taken-in-back, taken-in-front}

-- the places before 50a, and the others
abbrev pub order_a : List Place
order_a =
    one 20 bare ∷ one 21 bare ∷ any 13 (codes "CCCC") ∷ one 32 (codes "AAAA") ∷ may 52 (codes "ADDD") ∷ may 53 (codes "ABDD") ∷ may 54 (codes "ABDD")
    ∷ may 56 (codes "ADDD") ∷ may 57 (codes "ABDD") ∷ one 58 (codes "ADDD") ∷ may 72 bare ∷ []

abbrev order_b : List Place
order_b =
    one 50 (codes "AFKK") ∷ may 52 (codes "ADDD") ∷ may 56 (codes "ACDD") ∷ may 57 (codes "ABCD") ∷ one 59 (codes " AFF") ∷ may 70 bare ∷ may 72 bare
    ∷ may 33 (codes "BBBB") ∷ []

two-orders : order_202 ≡ order_a ++ order_b
two-orders = refl

-- ---- 50a

place-11 : (free k : ℕ) (payer : Field) → is_named 50 (codes "AFK") payer ≡ true → place_from order_202 free payer ≡ Some k → k ≡ 11
unfolding places_from
place-11 free k payer is at =
    let alone : places_from order_202 free (payer ∷ []) ≡ k ∷ [] = rw at refl in
    let stands =
    subst (λ (ps : List ℕ). HoldsInPlaces (Stands order_202 (λ _. Unit {0})) ps (payer ∷ [])) alone
    (stand order_202 (λ _. Unit {0}) free (payer ∷ []) (any-field (payer ∷ []))) in
    let told = told-at 50 (codes "AFK") 11 0 k order_202 payer refl (stands.0.fitting) in
    let same : 0 + k ≡ 11 = eqb-true (0 + k) 11 (sym told ∙ is) in
    omega (arith, same)

-- where it takes a place, that is its own
payer-at : (free : ℕ) (payer : Field) (b : List Field) → is_named 50 (codes "AFK") payer ≡ true
    → length (places_from order_202 free (payer ∷ b)) ≡ length (payer ∷ b) → place_from order_202 free payer ≡ Some 11
unfolding places_from
payer-at free payer b is e = go (place_from order_202 free payer) refl e
  where
    go : (o : Option ℕ) → place_from order_202 free payer ≡ o
        → length (from_place (λ k. places_from order_202 (free_after order_202 k) b) o) ≡ length (payer ∷ b) → place_from order_202 free payer ≡ Some 11
    go None h e = absurd (omega (arith, e))
    go (Some k) h e = h ∙ ap (λ (n : ℕ). Some n) (place-11 free k payer is h)

pub payer-places : (free : ℕ) (payer : Field) (b : List Field) → place_from order_202 free payer ≡ Some 11
    → places_from order_202 free (payer ∷ b) ≡ 11 ∷ places_from order_202 12 b
unfolding places_from
payer-places free payer b h = rw h refl

only-place : (o : Option ℕ) → from_place (λ k. []) o ≡ 11 ∷ [] → o ≡ Some 11
only-place None e = absurd (cc e)
only-place (Some k) e = let same : k ≡ 11 = cc e in ap (λ (n : ℕ). Some n) same

-- it takes its place after any fields that stand before it
pub payer-after : (free : ℕ) (payer : Field) → is_named 50 (codes "AFK") payer ≡ true → free ≤ 11 → place_from order_202 free payer ≡ Some 11
unfolding places_from
payer-after free payer is le =
    only-place (place_from order_202 free payer)
    (grouped-places order_202 row 0 11 free ((payer ∷ []) ∷ []) (omega arith) le
    (one-named order_202 0 11 50 (codes "AFK") payer refl is, (0, inl (omega arith), tt)))

before-11 : (q fa : ℕ) → fa ≤ 11 → free_after order_202 q ≤ fa → q < 11
before-11 q fa low h =
    let bounds = free_after-bounds order_202 q in
    elim (cases_Bool (q == 11)) [
      | inl here ↦
          let same : q ≡ 11 = eqb-true q 11 here in
          let late : free_after order_202 11 ≤ fa = subst (λ (k : ℕ). free_after order_202 k ≤ fa) same h in
          let next : 12 ≤ fa = late in
          absurd (omega (arith, next, low))
      | inr other ↦
          let apart : q ≢ 11 = λ e. absurd (cc (sym other ∙ ap (λ (k : ℕ). k == 11) e)) in
          omega (arith, bounds.0, low, h, apart)
    ]

-- a field that fits a place has its name
fits-named : (p : Place) (f : Field) → fits p f ≡ true → is_named p.tag p.options f ≡ true
fits-named p f fit =
    let both = and-both (p.tag == f.tag) (list_any (λ o. o == letter_of f) p.options) fit in
    let same : p.tag ≡ f.tag = eqb-true p.tag f.tag both.0 in
    let tag : (f.tag == p.tag) ≡ true = ap (λ (n : ℕ). f.tag == n) same ∙ ap (λ (n : ℕ). n == f.tag) (sym same) ∙ both.0 in
    rw (tag, both.1) refl

-- ---- the halves

module _ (t : Tables) (a b : List Field) (payer : Field) (is : is_named 50 (codes "AFK") payer ≡ true)
    (none : first_of (field_tests t (a ++ payer ∷ b)) ≡ None) where
  abbrev found : List ℕ
  found = places_from order_202 0 (a ++ payer ∷ b)

  abbrev pub pa : List ℕ
  pa = places_from order_202 0 a

  abbrev pub pb : List ℕ
  pb = places_from order_202 12 b

  abbrev fa : ℕ
  fa = free_past order_202 0 pa

  long : length found ≡ length (a ++ payer ∷ b)
  long = (all-hold order_202 (content_test t) (a ++ payer ∷ b) none).whole

  pub long-a : length pa ≡ length a
  long-a = full-front order_202 0 a (payer ∷ b) long

  parts : found ≡ pa ++ places_from order_202 fa (payer ∷ b)
  parts = places-append order_202 0 a (payer ∷ b) long-a

  long-back : length (places_from order_202 fa (payer ∷ b)) ≡ length (payer ∷ b)
  long-back =
      let one : length (pa ++ places_from order_202 fa (payer ∷ b)) ≡ length (a ++ payer ∷ b) = sym (ap length parts) ∙ long in
      let two : length pa + length (places_from order_202 fa (payer ∷ b)) ≡ length a + length (payer ∷ b) =
      sym (length-append pa (places_from order_202 fa (payer ∷ b))) ∙ one ∙ length-append a (payer ∷ b) in
      omega (arith, two, long-a)

  at-11 : place_from order_202 fa payer ≡ Some 11
  at-11 = payer-at fa payer b is long-back

  pub halves : found ≡ pa ++ 11 ∷ pb
  halves = parts ∙ ap (λ (ps : List ℕ). pa ++ ps) (payer-places fa payer b at-11)

  pub long-b : length pb ≡ length b
  long-b = let all : length (11 ∷ pb) ≡ length (payer ∷ b) = sym (ap length (payer-places fa payer b at-11)) ∙ long-back in omega (arith, all)

  pub below : AllByRecursion (λ q. q < 11) pa
  below =
      let low : fa ≤ 11 = place-above fa 11 (position (λ p. fits p payer) (drop fa order_202)) at-11 in
      each-more (λ q. free_after order_202 q ≤ fa) (λ q. q < 11) pa (λ q h. before-11 q fa low h) (places-after order_202 0 a)

  pub above : AllByRecursion (λ q. 12 ≤ q) pb
  above = places-above order_202 12 b

  -- no place before 50a's is one of the back half, and none after it one of the front half
  pub apart-back : (k : ℕ) → k < 11 → Apart k (11 ∷ pb)
  apart-back k lt = above-apart k 11 (11 ∷ pb) lt (omega arith, each-more (λ q. 12 ≤ q) (λ q. 11 ≤ q) pb (λ q h. omega (arith, h)) above)

  pub apart-front : (k : ℕ) → 11 ≤ k → Apart k pa
  apart-front k le = below-apart k 11 pa le below

  -- the field at a place stands in the one half or in the other
  pub at-a : (k : ℕ) → k < 11 → at_place (a ++ payer ∷ b) found k ≡ at_place a pa k
  at-a k lt = ap (λ (ps : List ℕ). at_place (a ++ payer ∷ b) ps k) halves ∙ at-front k a (payer ∷ b) pa (11 ∷ pb) long-a (apart-back k lt)

  pub at-b : (k : ℕ) → 11 ≤ k → at_place (a ++ payer ∷ b) found k ≡ at_place (payer ∷ b) (11 ∷ pb) k
  at-b k le = ap (λ (ps : List ℕ). at_place (a ++ payer ∷ b) ps k) halves ∙ at-back k a (payer ∷ b) pa (11 ∷ pb) long-a (apart-front k le)

  contents : HoldsInPlaces (Passing (content_test t)) pa a × HoldsInPlaces (Passing (content_test t)) (11 ∷ pb) (payer ∷ b)
  contents =
      holds-parts (Passing (content_test t)) a (payer ∷ b) pa (11 ∷ pb) long-a
      (subst (λ (ps : List ℕ). HoldsInPlaces (Passing (content_test t)) ps (a ++ payer ∷ b)) halves
      (contents-hold (content_test t) (a ++ payer ∷ b) 0 found (a ++ payer ∷ b) (all-hold order_202 (content_test t) (a ++ payer ∷ b) none).contents))

  pub back-passes : HoldsInPlaces (Passing (content_test t)) (11 ∷ pb) (payer ∷ b)
  back-passes = contents.1

  taken : (k : ℕ) (p : Place) → slice_get order_202 k ≡ Some p → p.must ≡ true → list_any (λ q. q == k) (pa ++ 11 ∷ pb) ≡ true
  taken k p at must =
      subst (λ (ps : List ℕ). list_any (λ q. q == k) ps ≡ true) halves
      (taken-from order_202 0 k k p found (omega arith) (all-hold order_202 (content_test t) (a ++ payer ∷ b) none).complete at must)

  -- a mandatory field of the front half, and a mandatory place of the back half
  pub must-a : (k : ℕ) (p : Place) → slice_get order_202 k ≡ Some p → p.must ≡ true → k < 11 → (f : Field) × (at_place a pa k ≡ Some f)
  must-a k p at must lt =
      let there = present k pa a (taken-in-front k pa (11 ∷ pb) (apart-back k lt) (taken k p at must)) long-a in
      (there.1, ap (option_map field_of) there.2)

  pub must-b : (k : ℕ) (p : Place) → slice_get order_202 k ≡ Some p → p.must ≡ true → 11 ≤ k → list_any (λ q. q == k) (11 ∷ pb) ≡ true
  must-b k p at must le = taken-in-back k pa (11 ∷ pb) (apart-front k le) (taken k p at must)

  -- ---- the names of the front half

  standing : HoldsInPlaces (Stands order_202 (λ _. Unit {0})) pa a
  standing = stand order_202 (λ _. Unit {0}) 0 a (any-field a)

  agree-front : (tag : ℕ) (letters : List ℕ) (k : ℕ) (ps : List ℕ) (fs : List Field) → tells_from tag letters k 0 order_a ≡ true
      → AllByRecursion (λ q. q < 11) ps → HoldsInPlaces (Stands order_202 (λ _. Unit {0})) ps fs
      → HoldsInPlaces (Agrees (is_named tag letters) k) ps fs
  agree-front tag letters k [] fs tells lt h = tt
  agree-front tag letters k (q ∷ ps) [] tells lt h = tt
  agree-front tag letters k (q ∷ ps) (f ∷ fs) tells lt h =
      let same : 0 + q ≡ q = omega arith in
      let in_a : (d : Place) → fits (get_or order_a q d) f ≡ true =
      λ d. subst (λ (p : Place). fits p f ≡ true) (get_or_append_left order_a order_b d q lt.0) (h.0.fitting d) in
      (told-at tag letters k 0 q order_a f tells in_a ∙ ap (λ (n : ℕ). n == k) same, agree-front tag letters k ps fs tells lt.1 h.1)

  pub named-a : (tag : ℕ) (letters : List ℕ) (k : ℕ) → tells_from tag letters k 0 order_a ≡ true → find (is_named tag letters) a ≡ at_place a pa k
  named-a tag letters k tells = find-at (is_named tag letters) k pa a (agree-front tag letters k pa a tells below standing) long-a

  -- a field of the front half stands at its place, and passes
  place-seated : (k tag : ℕ) (letters : List ℕ) (o : Option Field) → at_place a pa k ≡ o
      → is_named tag letters ≡ is_named (get_or order_202 k row).tag (get_or order_202 k row).options → first_for tag letters order_202 k ≡ true
      → Seated order_202 (content_test t) 0 k (some_field (λ f. f) o)
  place-seated k tag letters None at same is = none-seated order_202 (content_test t) 0 k
  place-seated k tag letters (Some f) at same is =
      let stands = hold-at (Stands order_202 (λ _. Unit {0})) k pa a f standing at in
      let passes : content_test t k f ≡ None = hold-at (Passing (content_test t)) k pa a f contents.0 at in
      let named : is_named tag letters f ≡ true = ap (λ (test : Field → Bool). test f) same ∙ fits-named (get_or order_202 k row) f (stands.fitting row) in
      let place : k ≡ 0 + k = omega arith in
      record { placed = one-named order_202 0 k tag letters f is named; passing = (subst (λ (n : ℕ). content_test t n f ≡ None) place passes, tt) }

  pub copy-seated-a : (tag : ℕ) (letters : List ℕ) (k : ℕ) (options : List ℕ) → tells_from tag letters k 0 order_a ≡ true
      → is_named tag options ≡ is_named (get_or order_202 k row).tag (get_or order_202 k row).options → first_for tag options order_202 k ≡ true
      → Seated order_202 (content_test t) 0 k (copied tag letters a)
  copy-seated-a tag letters k options tells same is = rw (named-a tag letters k tells) (place-seated k tag options (at_place a pa k) refl same is)
