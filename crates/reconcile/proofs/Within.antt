-- Each piece is made of the pages that were received, and of no more.
use Rattle.std.proofs.Common.{◌≤◌, Bool, true, false, cond, List, [], ◌∷◌, ◌++◌, length, arith}
use Rattle.std.specs.Prelude.{All}
use Rattle.std.specs.List.{AllByRecursion, filter}
use Rattle.std.proofs.lemmas.List.Elements.{All-from_recursion, recursion_from_All}
use Rattle.fin_contents.specs.Writing.{IsReadable}
use Rattle.mt950.specs.Joining.{most_pages}
use Rattle.mt950.specs.Page.{mt950_of}
use Rattle.mt950.specs.declared.page.Page950.{Page950}
use Rattle.reconcile.specs.Pieces.{begins_piece, is_of, piece_of, pieces_from, pieces_of, until_closed}

-- so many pages at most, each of which was read
pub record CanBeJoined (pages : List Page950) : Type 0 where
  pub few : length pages ≤ most_pages
  pub given : All (IsReadable mt950_of) pages

module _ (P : Page950 → Type 0) where
  kept-if : (b : Bool) (p : Page950) (ps : List Page950) → P p → AllByRecursion P ps → AllByRecursion P (cond b (p ∷ ps) ps)
  kept-if true p ps one all = (one, all)
  kept-if false p ps one all = all

  all-kept : (test : Page950 → Bool) (ps : List Page950) → AllByRecursion P ps → AllByRecursion P (filter test ps)
  all-kept test [] all = tt
  all-kept test (p ∷ ps) all = kept-if (test p) p (filter test ps) all.0 (all-kept test ps all.1)

  stopped : (b : Bool) (ps : List Page950) → AllByRecursion P ps → AllByRecursion P (cond b [] ps)
  stopped true ps all = tt
  stopped false ps all = all

  all-until : (ps : List Page950) → AllByRecursion P ps → AllByRecursion P (until_closed ps)
  all-until [] all = tt
  all-until (p ∷ ps) all = (all.0, stopped p.closing.last (until_closed ps) (all-until ps all.1))

few-if : (b : Bool) (p : Page950) (xs ps : List Page950) → length xs ≤ length ps → length (cond b (p ∷ xs) xs) ≤ length (p ∷ ps)
few-if true p xs ps le = omega (arith, le)
few-if false p xs ps le = omega (arith, le)

few-kept : (test : Page950 → Bool) (ps : List Page950) → length (filter test ps) ≤ length ps
few-kept test [] = omega arith
few-kept test (p ∷ ps) = few-if (test p) p (filter test ps) ps (few-kept test ps)

few-stopped : (b : Bool) (p : Page950) (xs ps : List Page950) → length xs ≤ length ps → length (p ∷ cond b [] xs) ≤ length (p ∷ ps)
few-stopped true p xs ps le = omega arith
few-stopped false p xs ps le = omega (arith, le)

few-until : (ps : List Page950) → length (until_closed ps) ≤ length ps
few-until [] = omega arith
few-until (p ∷ ps) = few-stopped p.closing.last p (until_closed ps) ps (few-until ps)

piece-joins : (p : Page950) (ps : List Page950) → length (p ∷ ps) ≤ most_pages → AllByRecursion (IsReadable mt950_of) (p ∷ ps) → CanBeJoined (piece_of p ps)
piece-joins p ps few all =
    let kept : length (filter (is_of p) ps) ≤ length ps = few-kept (is_of p) ps in
    let until : length (piece_of p ps) ≤ length (p ∷ filter (is_of p) ps) = few-until (p ∷ filter (is_of p) ps) in
    record {
      few = omega (arith, few, kept, until);
      given = All-from_recursion (IsReadable mt950_of) (piece_of p ps) (all-until (IsReadable mt950_of) (p ∷ filter (is_of p) ps) (all.0, all-kept (IsReadable mt950_of) (is_of p) ps all.1));
    }

begun-joins : (b : Bool) (piece : List Page950) (rest : List (List Page950)) → CanBeJoined piece → AllByRecursion CanBeJoined rest → AllByRecursion CanBeJoined (cond b (piece ∷ []) [] ++ rest)
begun-joins true piece rest one all = (one, all)
begun-joins false piece rest one all = all

pieces-from-join : (ahead ps : List Page950) → length ps ≤ most_pages → AllByRecursion (IsReadable mt950_of) ps → AllByRecursion CanBeJoined (pieces_from ahead ps)
pieces-from-join ahead [] few all = tt
pieces-from-join ahead (p ∷ ps) few all =
    begun-joins (begins_piece ahead p) (piece_of p ps) (pieces_from (ahead ++ p ∷ []) ps) (piece-joins p ps few all) (pieces-from-join (ahead ++ p ∷ []) ps (omega (arith, few)) all.1)

-- so each piece may be joined
pub pieces-join : (pages : List Page950) → length pages ≤ most_pages → All (IsReadable mt950_of) pages → All CanBeJoined (pieces_of pages)
pieces-join pages few given =
    All-from_recursion CanBeJoined (pieces_of pages) (pieces-from-join [] pages few (recursion_from_All (IsReadable mt950_of) pages given))
