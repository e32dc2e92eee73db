-- What holds where a test passes.
use Rattle.std.proofs.Common.{◌≡◌, Bool, true, false}
use Rattle.std.specs.Bool.{OnTrue}

-- one fact for another
pub on_true : (b : Bool) (P Q : Type 0) → (P → Q) → OnTrue b P → OnTrue b Q
on_true true P Q f p = f p
on_true false P Q f p = p

-- the fact, where it passed
pub of_true : (b : Bool) (P : Type 0) → b ≡ true → OnTrue b P → P
of_true true P passed p = p
of_true false P passed p = absurd (cc)
