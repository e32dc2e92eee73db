-- A message file, fed to a cutter piece by piece.
use Rattle.std.specs.Prelude.{ℕ, ◌≡◌, List, length, None}
use Rattle.fin_frame.specs.Cutting.{WasFed}
use Rattle.fin_frame.specs.Shown.{HaveBegun}
use Rattle.fin_frame.specs.declared.cutter.Cutter.{Cutter}
use Rattle.corr_top.specs.declared.cutting.FileStop.{FileStop}
use Rattle.corr_top.specs.declared.cutting.FileStop.TheVariants as file
use Rattle.corr_top.specs.MessageFile.{IsAtFault, IsPast}

-- the cutter was fed these bytes, which show no fault and pass no limit, and gave these messages
pub record HasPassed (c : Cutter) (fed : List ℕ) (given : List (List ℕ)) : Type 0 where
  pub was : WasFed c fed given
  pub sound : c.failed ≡ None
  pub within : IsPast fed → ⊥

-- how feeding stops with a piece up to which the bytes are these
abbrev pub StopsFeeding : List ℕ → FileStop → Type 0
StopsFeeding fed (file.TooLarge bytes messages) = (bytes ≡ length fed) × IsPast fed × HaveBegun fed messages
StopsFeeding fed (file.Framing at) = IsAtFault fed at
StopsFeeding fed (file.Fault before after) = ⊥
StopsFeeding fed file.Memory = Unit {0}
