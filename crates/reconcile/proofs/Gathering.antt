-- Pages that are put together one by one: the pieces and the open ones after a page more.
use Rattle.std.proofs.Common.{◌≡◌, ℕ, zero, suc, ◌<◌, ◌&&◌, Bool, true, false, cond, List, [], ◌∷◌, ◌++◌, map, length, get_or, Option, Some, None, refl, sym, ap, ◌∙◌, subst, arith, inl, inr, ◌⊎◌}
use Rattle.std.specs.Prelude.{slice_get}
use Rattle.std.specs.List.{filter, last_or}
use Rattle.std.specs.Map.{lookup}
use Rattle.std.specs.Option.{is_none}
use Rattle.std.specs.Str.{bytes_eq}
use Rattle.std.proofs.Math.ListN.{set}
use Rattle.std.proofs.lemmas.Bool.{cases_Bool, cases_eq}
use Rattle.std.proofs.lemmas.List.{append-nil}
use Rattle.std.proofs.lemmas.List.Elements.{filter-append}
use Rattle.std.proofs.lemmas.Option.{none-some, same_Some, slice_get_read, slice_get_within}
use Rattle.std.proofs.lemmas.Slice.Eq.{bytes_eq-Decides}
use Rattle.mt950.specs.declared.page.Page950.{Page950}
use Rattle.reconcile.specs.inner.Gathering.{Gathers, page_account, is_open, open_at, place_after, place_for_page, room_in}
use Rattle.reconcile.specs.Pieces.{begins_piece, is_unfinished, is_of, pieces_of}
use Rattle.reconcile.specs.declared.grouping.Gathered.{Gathered}
use Rattle.reconcile.proofs.Growing.{begun, extended, pieces-more}
use Rattle.reconcile.proofs.Keyed.{short-eq}

-- ---- lists of which one element changes

set-here : {A : Type 0} (xs : List A) (i : ℕ) (x y : A) → slice_get xs i ≡ Some x → slice_get (set xs i y) i ≡ Some y
set-here [] i x y at = absurd (none-some x at)
set-here (z ∷ xs) zero x y at = refl
set-here (z ∷ xs) (suc i) x y at = set-here xs i x y at

set-other : {A : Type 0} (xs : List A) (i j : ℕ) (y : A) → (j ≡ i → ⊥) → slice_get (set xs i y) j ≡ slice_get xs j
set-other [] i j y ne = refl
set-other (z ∷ xs) zero zero y ne = absurd (ne refl)
set-other (z ∷ xs) zero (suc j) y ne = refl
set-other (z ∷ xs) (suc i) zero y ne = refl
set-other (z ∷ xs) (suc i) (suc j) y ne = set-other xs i j y (λ e. ne (ap suc e))

set-end : {A : Type 0} (xs : List A) (x y : A) → set (xs ++ x ∷ []) (length xs) y ≡ xs ++ y ∷ []
set-end {A} [] x y = refl
set-end {A} (z ∷ xs) x y = ap (λ (ys : List A). z ∷ ys) (set-end xs x y)

no-change : {A : Type 0} (f : A → A) (xs : List A) → ((j : ℕ) (z : A) → slice_get xs j ≡ Some z → f z ≡ z) → map f xs ≡ xs
no-change f [] same = refl
no-change f (x ∷ xs) same = λ k. same 0 x refl k ∷ no-change f xs (λ j z at. same (suc j) z at) k

only-one : {A : Type 0} (f : A → A) (xs : List A) (i : ℕ) (x y : A) → slice_get xs i ≡ Some x → f x ≡ y → ((j : ℕ) (z : A) → slice_get xs j ≡ Some z → (j ≡ i → ⊥) → f z ≡ z) → map f xs ≡ set xs i y
only-one f [] i x y at e same = absurd (none-some x at)
only-one f (z ∷ xs) zero x y at e same =
    let here : f z ≡ y = ap f (same_Some z x at) ∙ e in
    λ k. here k ∷ no-change f xs (λ j w there. same (suc j) w there (λ q. omega (arith, q))) k
only-one f (z ∷ xs) (suc i) x y at e same =
    let here : f z ≡ z = same 0 z refl (λ q. omega (arith, q)) in
    λ k. here k ∷ only-one f xs i x y at e (λ j w there ne. same (suc j) w there (λ q. ne (omega (arith, q)))) k

end-there : {A : Type 0} (xs : List A) (x : A) → slice_get (xs ++ x ∷ []) (length xs) ≡ Some x
end-there [] x = refl
end-there (z ∷ xs) x = end-there xs x

still-there : {A : Type 0} (xs ys : List A) (i : ℕ) (x : A) → slice_get xs i ≡ Some x → slice_get (xs ++ ys) i ≡ Some x
still-there [] ys i x at = absurd (none-some x at)
still-there (z ∷ xs) ys zero x at = at
still-there (z ∷ xs) ys (suc i) x at = still-there xs ys i x at

there-or-end : {A : Type 0} (xs : List A) (y : A) (i : ℕ) (x : A) → slice_get (xs ++ y ∷ []) i ≡ Some x → (slice_get xs i ≡ Some x) ⊎ (y ≡ x)
there-or-end [] y zero x at = inr (same_Some y x at)
there-or-end [] y (suc i) x at = absurd (none-some x at)
there-or-end (z ∷ xs) y zero x at = inl at
there-or-end (z ∷ xs) y (suc i) x at = there-or-end xs y i x at

-- ---- open pieces

two : (a b : Bool) → (a && b) ≡ true → (a ≡ true) × (b ≡ true)
two true true e = (refl, refl)
two true false e = absurd (cc e)
two false b e = absurd (cc e)

last-append : (o : Option Page950) (xs : List Page950) (p : Page950) → last_or o (xs ++ p ∷ []) ≡ Some p
last-append o [] p = refl
last-append o (x ∷ xs) p = last-append (Some x) xs p

same-bytes : (a b : List ℕ) → bytes_eq a b ≡ true → a ≡ b
same-bytes a b e = (bytes_eq-Decides a b).0 e

bytes-same : (a b : List ℕ) → a ≡ b → bytes_eq a b ≡ true
bytes-same a b e = (bytes_eq-Decides a b).1 e

-- a piece to which a page goes: a new one, or the open one of its account
abbrev pub IsFor : Page950 → List Page950 → Type 0
IsFor p was = (was ≡ []) ⊎ (is_open (page_account p) was ≡ true)

open-more : (a : List ℕ) (was : List Page950) (p : Page950) → IsFor p was → is_open a (was ++ p ∷ []) ≡ (bytes_eq a (page_account p) && is_unfinished (Some p))
open-more a [] p own = refl
open-more a (w ∷ ws) p (inl e) = absurd (cc e)
open-more a (w ∷ ws) p (inr e) =
    let same : page_account p ≡ page_account w = same-bytes (page_account p) (page_account w) (two (bytes_eq (page_account p) (page_account w)) (is_unfinished (last_or None (w ∷ ws))) e).0 in
    λ i. bytes_eq a (sym same i) && is_unfinished (last-append (Some w) ws p i)

own-account : (a : List ℕ) (was : List Page950) (p : Page950) → IsFor p was → is_open a was ≡ true → a ≡ page_account p
own-account a [] p own opens = absurd (cc opens)
own-account a (w ∷ ws) p (inl e) opens = absurd (cc e)
own-account a (w ∷ ws) p (inr e) opens =
    same-bytes a (page_account w) (two (bytes_eq a (page_account w)) (is_unfinished (last_or None (w ∷ ws))) opens).0
    ∙ sym (same-bytes (page_account p) (page_account w) (two (bytes_eq (page_account p) (page_account w)) (is_unfinished (last_or None (w ∷ ws))) e).0)

not-extended : (p : Page950) (piece : List Page950) → is_open (page_account p) piece ≡ false → extended p piece ≡ piece
not-extended p piece e = ap (λ (b : Bool). cond b (piece ++ p ∷ []) piece) e

-- ---- a page more

-- room for a page at a place: the piece there is for it, and all else is as it was
pub record Fits (front : List Page950) (old : Gathered) (p : Page950) (room : List (List Page950)) (at : ℕ) (was : List Page950) : Type 0 where
  pub there : slice_get room at ≡ Some was
  pub own : IsFor p was
  pub noted : (a : List ℕ) (i : ℕ) → open_at old a ≡ Some i → (piece : List Page950) × (slice_get room i ≡ Some piece) × (is_open a piece ≡ true)
  pub every : (a : List ℕ) (i : ℕ) (piece : List Page950) → slice_get room i ≡ Some piece → is_open a piece ≡ true → open_at old a ≡ Some i
  pub placed : (i : ℕ) → open_at old (page_account p) ≡ Some i → i ≡ at
  pub are : set room at (was ++ p ∷ []) ≡ pieces_of (front ++ p ∷ [])

module _ (front : List Page950) (old : Gathered) (p : Page950) (so : Gathers front old) where
  abbrev pieces : List (List Page950)
  pieces = old.pieces.items

  abbrev account : List ℕ
  account = page_account p

  grown : (o : Option ℕ) → open_at old account ≡ o → pieces_of (front ++ p ∷ []) ≡ map (extended p) pieces ++ begun (is_none o) p
  grown o e =
      pieces-more front p ∙ ap (λ (ps : List (List Page950)). map (extended p) ps ++ begun (begins_piece front p) p) (sym so.are)
      ∙ ap (λ (b : Bool). map (extended p) pieces ++ begun b p) (so.begin p ∙ ap is_none e)

  fits-open : (i : ℕ) → open_at old account ≡ Some i → (was : List Page950) × Fits front old p pieces i was
  fits-open i e =
      let (was, there, opens) = so.noted account i e in (
        was,
        record {
          there = there;
          own = inr opens;
          noted = so.noted;
          every = so.every;
          placed = λ j f. same_Some j i (sym f ∙ e);
          are =
              sym (grown (Some i) e ∙ append-nil (map (extended p) pieces)
              ∙ only-one (extended p) pieces i was (was ++ p ∷ []) there (ap (λ (b : Bool). cond b (was ++ p ∷ []) was) opens) (λ j z at ne.
              elim (cases_Bool (is_open account z)) [
                | inl other ↦ absurd (ne (same_Some j i (sym (so.every account j z at other) ∙ e)))
                | inr none ↦ not-extended p z none
              ]));
        },
      )

  fits-new : open_at old account ≡ None → Fits front old p (pieces ++ [] ∷ []) (length pieces) []
  fits-new e = record {
    there = end-there pieces [];
    own = inl refl;
    noted = λ a i f. let (piece, there, opens) = so.noted a i f in (piece, still-there pieces ([] ∷ []) i piece there, opens);
    every = λ a i piece at opens.
        elim (there-or-end pieces [] i piece at) [
          | inl there ↦ so.every a i piece there opens
          | inr none ↦ let closed : false ≡ true = ap (is_open a) none ∙ opens in absurd (cc closed)
        ];
    placed = λ i f. absurd (none-some i (sym e ∙ f));
    are =
        set-end pieces [] (p ∷ [])
        ∙ sym (grown None e ∙ ap (λ (ps : List (List Page950)). ps ++ (p ∷ []) ∷ []) (no-change (extended p) pieces (λ j z at.
        elim (cases_Bool (is_open account z)) [
          | inl opens ↦ absurd (none-some j (sym e ∙ so.every account j z at opens))
          | inr none ↦ not-extended p z none
        ])));
  }

  pub fits : (o : Option ℕ) → open_at old account ≡ o → (was : List Page950) × Fits front old p (room_in o pieces) (place_for_page o pieces) was
  fits None e = ([], fits-new e)
  fits (Some i) e = fits-open i e

  module _ (new : Gathered) (room : List (List Page950)) (at : ℕ) (was : List Page950) (fit : Fits front old p room at was) (put : new.pieces.items ≡ set room at (was ++ p ∷ []))
      (notes : (other : List ℕ) → open_at new other ≡ cond (bytes_eq account other) (place_after p.closing.last at) (open_at old other)) where
    here : slice_get new.pieces.items at ≡ Some (was ++ p ∷ [])
    here = ap (λ (ps : List (List Page950)). slice_get ps at) put ∙ set-here room at was (was ++ p ∷ []) fit.there

    elsewhere : (i : ℕ) → (i ≡ at → ⊥) → slice_get new.pieces.items i ≡ slice_get room i
    elsewhere i ne = ap (λ (ps : List (List Page950)). slice_get ps i) put ∙ set-other room at i (was ++ p ∷ []) ne

    for-own : (a : List ℕ) → bytes_eq account a ≡ true → open_at new a ≡ place_after p.closing.last at
    for-own a e = notes a ∙ ap (λ (b : Bool). cond b (place_after p.closing.last at) (open_at old a)) e

    for-other : (a : List ℕ) → bytes_eq account a ≡ false → open_at new a ≡ open_at old a
    for-other a e = notes a ∙ ap (λ (b : Bool). cond b (place_after p.closing.last at) (open_at old a)) e

    after-open : (last : Bool) (i : ℕ) → place_after last at ≡ Some i → (last ≡ false) × (at ≡ i)
    after-open true i e = absurd (none-some i e)
    after-open false i e = (refl, same_Some at i e)

    is-going : p.closing.last ≡ false → is_unfinished (Some p) ≡ true
    is-going e = ap (λ (b : Bool). cond b false true) e

    not-last : (last : Bool) → cond last false true ≡ true → last ≡ false
    not-last true e = absurd (cc e)
    not-last false e = refl

    noted : (a : List ℕ) (i : ℕ) → open_at new a ≡ Some i → (piece : List Page950) × (slice_get new.pieces.items i ≡ Some piece) × (is_open a piece ≡ true)
    noted a i e =
        elim (cases_Bool (bytes_eq account a)) [
          | inl own ↦
              let after = after-open p.closing.last i (sym (for-own a own) ∙ e) in
              let same : bytes_eq a account ≡ true = bytes-same a account (sym (same-bytes account a own)) in
              (was ++ p ∷ [], ap (slice_get new.pieces.items) (sym after.1) ∙ here, open-more a was p fit.own ∙ (λ k. same k && is-going after.0 k))
          | inr other ↦
              let (piece, there, opens) = fit.noted a i (sym (for-other a other) ∙ e) in
              let ne : i ≡ at → ⊥ =
              λ q.
              let is : piece ≡ was = same_Some piece was (sym there ∙ ap (slice_get room) q ∙ fit.there) in
              let own : a ≡ account = own-account a was p fit.own (ap (is_open a) (sym is) ∙ opens) in
              cc (sym other ∙ bytes-same account a (sym own)) in
              (piece, elsewhere i ne ∙ there, opens)
        ]

    every : (a : List ℕ) (i : ℕ) (piece : List Page950) → slice_get new.pieces.items i ≡ Some piece → is_open a piece ≡ true → open_at new a ≡ Some i
    every a i piece there opens =
        elim (cases_eq i at) [
          | inl q ↦
              let is : was ++ p ∷ [] ≡ piece = same_Some (was ++ p ∷ []) piece (sym here ∙ ap (slice_get new.pieces.items) (sym q) ∙ there) in
              let parts = two (bytes_eq a account) (is_unfinished (Some p)) (sym (open-more a was p fit.own) ∙ ap (is_open a) is ∙ opens) in
              let own : bytes_eq account a ≡ true = bytes-same account a (sym (same-bytes a account parts.0)) in
              for-own a own ∙ ap (λ (b : Bool). place_after b at) (not-last p.closing.last parts.1) ∙ ap Some (sym q)
          | inr ne ↦
              let was_open : open_at old a ≡ Some i = fit.every a i piece (sym (elsewhere i ne) ∙ there) opens in
              elim (cases_Bool (bytes_eq account a)) [
                | inl own ↦ absurd (ne (fit.placed i (ap (open_at old) (same-bytes account a own) ∙ was_open)))
                | inr other ↦ for-other a other ∙ was_open
              ]
        ]

    ends : (last : Bool) → cond (cond last false true) false true ≡ is_none (place_after last at)
    ends true = refl
    ends false = refl

    begin-more : (q : Page950) (b : Bool) → bytes_eq account (page_account q) ≡ b
        → cond (is_unfinished (last_or None (filter (is_of q) front ++ cond b (p ∷ []) []))) false true ≡ is_none (cond b (place_after p.closing.last at) (open_at old (page_account q)))
    begin-more q true e = ap (λ (o : Option Page950). cond (is_unfinished o) false true) (last-append None (filter (is_of q) front) p) ∙ ends p.closing.last
    begin-more q false e = ap (λ (ps : List Page950). cond (is_unfinished (last_or None ps)) false true) (append-nil (filter (is_of q) front)) ∙ so.begin q

    begin : (q : Page950) → begins_piece (front ++ p ∷ []) q ≡ is_none (open_at new (page_account q))
    begin q =
        let same : bytes_eq account (page_account q) ≡ is_of q p = short-eq 36 p.account q.account in
        ap (λ (ps : List Page950). cond (is_unfinished (last_or None ps)) false true) (filter-append (is_of q) front (p ∷ []))
        ∙ begin-more q (is_of q p) same
        ∙ ap (λ (b : Bool). is_none (cond b (place_after p.closing.last at) (open_at old (page_account q)))) (sym same)
        ∙ ap is_none (sym (notes (page_account q)))

    pub gathers : Gathers (front ++ p ∷ []) new
    gathers = record { are = put ∙ fit.are; noted = noted; every = every; begin = begin }

-- a page that is put at the place for it
pub gathered-more : (front : List Page950) (old : Gathered) (p : Page950) (so : Gathers front old) (new : Gathered) (room : List (List Page950)) (at : ℕ) (item : List Page950)
    → at ≡ place_for_page (open_at old (page_account p)) old.pieces.items → room ≡ room_in (open_at old (page_account p)) old.pieces.items → item ≡ get_or room at item
    → new.pieces.items ≡ set room at (item ++ p ∷ []) → ((other : List ℕ) → open_at new other ≡ cond (bytes_eq (page_account p) other) (place_after p.closing.last at) (open_at old other))
    → Gathers (front ++ p ∷ []) new
gathered-more front old p so new room at item place is read put notes =
    let (was, fit) = fits front old p so (open_at old (page_account p)) refl in
    let there : Fits front old p room at was =
    subst (λ (r : List (List Page950)). Fits front old p r at was) (sym is) (subst (λ (k : ℕ). Fits front old p (room_in (open_at old (page_account p)) old.pieces.items) k was) (sym place) fit) in
    let within : at < length room = slice_get_within room at was there.there in
    let same : item ≡ was = same_Some item was (sym (slice_get_read room (length room) at item refl within read) ∙ there.there) in
    gathers front old p so new room at was there (put ∙ ap (λ (x : List Page950). set room at (x ++ p ∷ [])) same) notes

-- there is such a place
pub place-within : (front : List Page950) (old : Gathered) (p : Page950) (so : Gathers front old) → place_for_page (open_at old (page_account p)) old.pieces.items < length (room_in (open_at old (page_account p)) old.pieces.items)
place-within front old p so =
    let (was, fit) = fits front old p so (open_at old (page_account p)) refl in
    slice_get_within (room_in (open_at old (page_account p)) old.pieces.items) (place_for_page (open_at old (page_account p)) old.pieces.items) was fit.there

-- the first page of all
pub none-gathered : (g : Gathered) → g.pieces.items ≡ [] → g.places.entries ≡ [] → Gathers [] g
none-gathered g none empty = record {
  are = none;
  noted = λ a i e. absurd (none-some i (sym (ap (λ entries. lookup (bytes_eq a) entries) empty) ∙ e));
  every = λ a i piece at opens. absurd (none-some piece (sym (ap (λ (ps : List (List Page950)). slice_get ps i) none) ∙ at));
  begin = λ q. ap (λ entries. is_none (lookup (bytes_eq (page_account q)) entries)) (sym empty);
}
