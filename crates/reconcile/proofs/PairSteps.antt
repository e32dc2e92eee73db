-- Lines that take their entries one by one.
use Rattle.std.proofs.Common.{◌≡◌, ℕ, ◌+◌, ◌<◌, ◌≤◌, List, [], ◌∷◌, ◌++◌, map, length, get_or, take, drop, Option, Some, None, option_map, refl, sym, ap, ◌∙◌, subst, append_assoc}
use Rattle.std.specs.Prelude.{slice_get}
use Rattle.std.proofs.lemmas.List.{append-nil, drop_all, drop_more, take_more}
use Rattle.std.proofs.lemmas.Option.{none-some, same_Some}
use Rattle.mt950.specs.declared.entry.Line61.{Line61}
use Rattle.statement.specs.Lines.{Placed}
use Rattle.statement.specs.Running.{placed_by}
use Rattle.statement.specs.declared.movement.Movement.{Movement}
use Rattle.reconcile.specs.inner.Keys.{taken_by}
use Rattle.reconcile.specs.Pairing.{alone, alone_from, pair_with, line_pairs_from, pairs_of, line_partner, theirs_left}
use Rattle.reconcile.specs.inner.Waiting.{AllWait, WithoutFirst, waiting_for}
use Rattle.reconcile.specs.declared.waiting.Waiting.{Waiting}
use Rattle.reconcile.proofs.Matching.{AreLeft, first-is-partner, left-after}

-- the first so many lines took their entries: what waits, the pairs and the lines without an entry so far
pub record ArePaired (entries : List Movement) (lines : List Line61) (at : ℕ) (waiting : Waiting) (pairs : List (ℕ × ℕ)) (theirs : List ℕ) : Type 0 where
  pub left : AreLeft entries (take at lines) waiting
  pub pairs_so_far : pairs ++ line_pairs_from (map placed_by entries) (take at lines) (at + 1) (drop at lines) ≡ pairs_of (map placed_by entries) lines
  pub theirs_so_far : theirs ++ alone_from (map placed_by entries) (take at lines) (at + 1) (drop at lines) ≡ theirs_left (map placed_by entries) lines

pub none-paired : (entries : List Movement) (lines : List Line61) (waiting : Waiting) → AllWait entries waiting → ArePaired entries lines 0 waiting [] []
none-paired entries lines waiting all = record { left = all; pairs_so_far = refl; theirs_so_far = refl }

abbrev pub placed_place : Option Placed → Option ℕ
placed_place partner = option_map (λ placed. placed.place) partner

pair-some : (k place : ℕ) (partner : Option Placed) → placed_place partner ≡ Some place → pair_with k partner ≡ (place, k) ∷ []
pair-some k place None e = absurd (none-some place e)
pair-some k place (Some placed) e = ap (λ (p : ℕ). (p, k) ∷ []) (same_Some placed.place place e)

alone-some : (k place : ℕ) (partner : Option Placed) → placed_place partner ≡ Some place → alone k partner ≡ []
alone-some k place None e = absurd (none-some place e)
alone-some k place (Some placed) e = refl

pair-none : (k : ℕ) (partner : Option Placed) → placed_place partner ≡ None → pair_with k partner ≡ []
pair-none k None e = refl
pair-none k (Some placed) e = absurd (none-some placed.place (sym e))

alone-none : (k : ℕ) (partner : Option Placed) → placed_place partner ≡ None → alone k partner ≡ k ∷ []
alone-none k None e = refl
alone-none k (Some placed) e = absurd (none-some placed.place (sym e))

module _ (entries : List Movement) (lines : List Line61) (at : ℕ) (line : Line61) (is : line ≡ get_or lines at line) (lt : at < length lines) where
  abbrev ours : List Placed
  ours = map placed_by entries

  abbrev ahead : List Line61
  ahead = take at lines

  abbrev partner : Option Placed
  partner = line_partner ours ahead line

  abbrev pairs_after : List (ℕ × ℕ)
  pairs_after = line_pairs_from ours (take (at + 1) lines) (at + 1 + 1) (drop (at + 1) lines)

  abbrev alone_after : List ℕ
  alone_after = alone_from ours (take (at + 1) lines) (at + 1 + 1) (drop (at + 1) lines)

  next-front : take (at + 1) lines ≡ ahead ++ line ∷ []
  next-front = take_more lines at line lt ∙ ap (λ (x : Line61). ahead ++ x ∷ []) (sym is)

  next-back : drop at lines ≡ line ∷ drop (at + 1) lines
  next-back = drop_more lines at line lt ∙ ap (λ (x : Line61). x ∷ drop (at + 1) lines) (sym is)

  pairs-split : line_pairs_from ours ahead (at + 1) (drop at lines) ≡ pair_with (at + 1) partner ++ pairs_after
  pairs-split =
      ap (line_pairs_from ours ahead (at + 1)) next-back
      ∙ ap (λ (ls : List Line61). pair_with (at + 1) partner ++ line_pairs_from ours ls (at + 1 + 1) (drop (at + 1) lines)) (sym next-front)

  alone-split : alone_from ours ahead (at + 1) (drop at lines) ≡ alone (at + 1) partner ++ alone_after
  alone-split =
      ap (alone_from ours ahead (at + 1)) next-back
      ∙ ap (λ (ls : List Line61). alone (at + 1) partner ++ alone_from ours ls (at + 1 + 1) (drop (at + 1) lines)) (sym next-front)

  next : (old new : Waiting) (pairs more : List (ℕ × ℕ)) (theirs others : List ℕ) → ArePaired entries lines at old pairs theirs → WithoutFirst (taken_by line) old new
      → more ≡ pairs ++ pair_with (at + 1) partner → others ≡ theirs ++ alone (at + 1) partner → ArePaired entries lines (at + 1) new more others
  next old new pairs more theirs others so rest p t = record {
    left = subst (λ (ls : List Line61). AreLeft entries ls new) (sym next-front) (left-after entries ahead line old new so.left rest);
    pairs_so_far =
        ap (λ (ps : List (ℕ × ℕ)). ps ++ pairs_after) p ∙ append_assoc pairs (pair_with (at + 1) partner) pairs_after
        ∙ ap (λ (ps : List (ℕ × ℕ)). pairs ++ ps) (sym pairs-split) ∙ so.pairs_so_far;
    theirs_so_far =
        ap (λ (ns : List ℕ). ns ++ alone_after) t ∙ append_assoc theirs (alone (at + 1) partner) alone_after
        ∙ ap (λ (ns : List ℕ). theirs ++ ns) (sym alone-split) ∙ so.theirs_so_far;
  }

  partner-is : (old : Waiting) (taken : Option ℕ) → AreLeft entries ahead old → taken ≡ slice_get (waiting_for old (taken_by line)) 0 → placed_place partner ≡ taken
  partner-is old taken left e = sym (e ∙ first-is-partner entries ahead old line left)

  -- a line that took an entry
  pub next-pair : (old new : Waiting) (pairs more : List (ℕ × ℕ)) (theirs : List ℕ) (taken : Option ℕ) (place number : ℕ) → ArePaired entries lines at old pairs theirs → WithoutFirst (taken_by line) old new
      → taken ≡ slice_get (waiting_for old (taken_by line)) 0 → taken ≡ Some place → number ≡ at + 1 → more ≡ pairs ++ (place, number) ∷ [] → ArePaired entries lines (at + 1) new more theirs
  next-pair old new pairs more theirs taken place number so rest first some e p =
      let from : placed_place partner ≡ Some place = partner-is old taken so.left first ∙ some in
      next old new pairs more theirs theirs so rest (p ∙ ap (λ (k : ℕ). pairs ++ (place, k) ∷ []) e ∙ ap (λ (ps : List (ℕ × ℕ)). pairs ++ ps) (sym (pair-some (at + 1) place partner from)))
      (sym (ap (λ (ns : List ℕ). theirs ++ ns) (alone-some (at + 1) place partner from) ∙ append-nil theirs))

  -- a line that found none
  pub next-alone : (old new : Waiting) (pairs : List (ℕ × ℕ)) (theirs others : List ℕ) (taken : Option ℕ) (number : ℕ) → ArePaired entries lines at old pairs theirs → WithoutFirst (taken_by line) old new
      → taken ≡ slice_get (waiting_for old (taken_by line)) 0 → taken ≡ None → number ≡ at + 1 → others ≡ theirs ++ number ∷ [] → ArePaired entries lines (at + 1) new pairs others
  next-alone old new pairs theirs others taken number so rest first none e t =
      let from : placed_place partner ≡ None = partner-is old taken so.left first ∙ none in
      next old new pairs pairs theirs others so rest (sym (ap (λ (ps : List (ℕ × ℕ)). pairs ++ ps) (pair-none (at + 1) partner from) ∙ append-nil pairs))
      (t ∙ ap (λ (k : ℕ). theirs ++ k ∷ []) e ∙ ap (λ (ns : List ℕ). theirs ++ ns) (sym (alone-none (at + 1) partner from)))

-- all lines
pub pairs-end : (entries : List Movement) (lines : List Line61) (at : ℕ) (waiting : Waiting) (pairs : List (ℕ × ℕ)) (theirs : List ℕ) → length lines ≤ at → ArePaired entries lines at waiting pairs theirs
    → (pairs ≡ pairs_of (map placed_by entries) lines) × (theirs ≡ theirs_left (map placed_by entries) lines)
pairs-end entries lines at waiting pairs theirs le so =
    let ours : List Placed = map placed_by entries in
    let none : drop at lines ≡ [] = drop_all at lines le in (
      sym (append-nil pairs) ∙ ap (λ (ls : List Line61). pairs ++ line_pairs_from ours (take at lines) (at + 1) ls) (sym none) ∙ so.pairs_so_far,
      sym (append-nil theirs) ∙ ap (λ (ls : List Line61). theirs ++ alone_from ours (take at lines) (at + 1) ls) (sym none) ∙ so.theirs_so_far,
    )
