use Rattle.std.proofs.Common.{◌≤◌, ℕ, All, take}
use Rattle.fin_frame.specs.Pieces.{IsPlaceIn}
use Rattle.corr_top.specs.inner.Batching.{StandsBetween}
use Rattle.corr_top.proofs.batching.stretch_of.Given as goal

-- where so many messages stand
abbrev pub invariant-loop-place : goal.invariant-loop-place
invariant-loop-place l = record {
  each : All (StandsBetween l.begin l.past) (take l.place-index l.at);
  within : (size : ℕ) → All (IsPlaceIn size) l.at → l.past ≤ size;
  order : l.begin ≤ l.past;
}
