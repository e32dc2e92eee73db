-- Entries that are in no pair, one by one.
use Rattle.std.proofs.Common.{◌≡◌, ℕ, ◌+◌, ◌<◌, not, Bool, true, false, cond, List, [], ◌∷◌, ◌++◌, map, length, get_or, take, refl, sym, ap, ◌∙◌}
use Rattle.std.specs.List.{filter}
use Rattle.std.proofs.lemmas.List.{append-nil, map-append, take_more}
use Rattle.std.proofs.lemmas.List.Elements.{filter-append}
use Rattle.statement.specs.Running.{placed_by}
use Rattle.statement.specs.declared.movement.Movement.{Movement}
use Rattle.reconcile.specs.Pairing.{is_paired, ours_left}

abbrev own-places : List Movement → List ℕ
own-places entries = map (λ placed. placed.place) (map placed_by entries)

one-left : (b : Bool) (place : ℕ) → cond (not b) (place ∷ []) [] ≡ cond b [] (place ∷ [])
one-left true place = refl
one-left false place = refl

module _ (pairs : List (ℕ × ℕ)) (entries : List Movement) (i : ℕ) (entry : Movement) (is : entry ≡ get_or entries i entry) (lt : i < length entries) where
  abbrev left-so-far : List ℕ
  left-so-far = ours_left pairs (map placed_by (take i entries))

  more : ours_left pairs (map placed_by (take (i + 1) entries)) ≡ left-so-far ++ cond (is_paired pairs entry.place) [] (entry.place ∷ [])
  more =
      let test : ℕ → Bool = λ place. not (is_paired pairs place) in
      let front : take (i + 1) entries ≡ take i entries ++ entry ∷ [] = take_more entries i entry lt ∙ ap (λ (m : Movement). take i entries ++ m ∷ []) (sym is) in
      let places : own-places (take i entries ++ entry ∷ []) ≡ own-places (take i entries) ++ entry.place ∷ [] =
      ap (map (λ placed. placed.place)) (map-append placed_by (take i entries) (entry ∷ [])) ∙ map-append (λ placed. placed.place) (map placed_by (take i entries)) (placed_by entry ∷ []) in
      ap (λ (es : List Movement). filter test (own-places es)) front
      ∙ ap (filter test) places
      ∙ filter-append test (own-places (take i entries)) (entry.place ∷ [])
      ∙ ap (λ (ns : List ℕ). left-so-far ++ ns) (one-left (is_paired pairs entry.place) entry.place)

  -- an entry in a pair isn't left
  pub left-paired : (places : List ℕ) → places ≡ left-so-far → is_paired pairs entry.place ≡ true → places ≡ ours_left pairs (map placed_by (take (i + 1) entries))
  left-paired places e paired = e ∙ sym (more ∙ ap (λ (b : Bool). left-so-far ++ cond b [] (entry.place ∷ [])) paired ∙ append-nil left-so-far)

  -- one in none is
  pub left-alone : (places others : List ℕ) → places ≡ left-so-far → others ≡ places ++ entry.place ∷ [] → is_paired pairs entry.place ≡ false → others ≡ ours_left pairs (map placed_by (take (i + 1) entries))
  left-alone places others e added paired =
      added ∙ ap (λ (ns : List ℕ). ns ++ entry.place ∷ []) e ∙ sym (more ∙ ap (λ (b : Bool). left-so-far ++ cond b [] (entry.place ∷ [])) paired)
