use Rattle.std.proofs.Common.{◌≡◌, ◌+◌, ◌-◌, ◌≤◌, ◌++◌, false, List, ℕ, length, take, drop, vec_capacity}
use Rattle.std.specs.List.{All}
use Rattle.fin_frame.specs.Pieces.{at_places, HasTakenFile, IsPlaceIn}
use Rattle.fin_frame.specs.inner.Whole.{gap_goes_on}
use Rattle.fin_frame.proofs.PieceFile.{IsLedOn}
use Rattle.fin_frame.proofs.pieces.PieceCutter.cut_piece.Given as goal

abbrev pub invariant-loop-at : goal.invariant-loop-at
invariant-loop-at l = record {
  most : l.at ≤ length l.piece;
  few : length l.places.items ≤ l.most;
  room : vec_capacity l.places ≡ vec_capacity l.fn.places;
  fed : l.cutter.fed ≡ l.fn.self.fed + l.at;
  kept : l.self ≡ l.fn.self;
  ends : gap_goes_on l.cutter.marked (drop l.at l.piece) ≡ false;
  led : IsLedOn l.last l.cutter.apart (drop l.at l.piece);
  within : All (λ place. IsPlaceIn (length l.piece) place) l.places.items;
  took : (file : List ℕ) (messages : List (List ℕ)) → HasTakenFile l.fn.self file messages → HasTakenFile l.cutter (file ++ take l.at l.piece) (messages ++ at_places l.piece l.places.items);
}

abbrev pub decreases-loop-at : goal.decreases-loop-at
decreases-loop-at l = length l.piece - l.at
