-- Bytes that were read of a source behind a text.
use Rattle.std.proofs.Common.{ℕ, ◌+◌, ◌≤◌, List, [], ◌++◌, append-nil, length, length-append, Option, None, Some, sym, ap, ◌∙◌, subst, arith}
use Rattle.std.specs.Io.KnownBytes.{Consumes, Keeps}
use Rattle.std.proofs.KnownBytes.{Consumes-trans}
use Rattle.corr_top.specs.inner.Reading.{AddsRead, AddsSome}

-- none of them was lost
pub adds_all : (before after : Option (List ℕ)) (limit : ℕ) (old new : List ℕ) → AddsRead before after old new → (length old ≤ limit → length new ≤ limit) → AddsSome before after limit old new
adds_all before after limit old new adds bound = record {
  more = adds.more;
  lost = [];
  text = adds.text;
  taken = subst (Consumes before after) (sym (append-nil adds.more)) adds.taken;
  short = λ fits. let short = bound fits in let long = length-append new [] in omega (arith, short, long);
}

-- a read that failed took none
pub adds_kept : (before mid after : Option (List ℕ)) (old new : List ℕ) → AddsRead before mid old new → Keeps mid after → AddsRead before after old new
adds_kept before mid after old new adds kept = record { more = adds.more; text = adds.text; taken = still before mid after adds.more adds.taken kept }
  where
    still : (before mid after : Option (List ℕ)) (more : List ℕ) → Consumes before mid more → Keeps mid after → Consumes before after more
    still None mid after more took kept = tt
    still (Some xs) None after more took kept = absurd took
    still (Some xs) (Some ys) None more took kept = absurd kept
    still (Some xs) (Some ys) (Some zs) more took kept = took ∙ ap (λ (l : List ℕ). more ++ l) (sym kept)

-- there was no memory for the last ones
pub adds_lost : (before mid after : Option (List ℕ)) (limit : ℕ) (old new lost : List ℕ) → AddsRead before mid old new → Consumes mid after lost → length new + length lost ≤ limit → AddsSome before after limit old new
adds_lost before mid after limit old new lost adds took within = record {
  more = adds.more;
  lost = lost;
  text = adds.text;
  taken = Consumes-trans before mid after adds.more lost adds.taken took;
  short = λ fits. let long = length-append new lost in omega (arith, within, long);
}
