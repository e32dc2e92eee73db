use Rattle.std.proofs.Common.{◌≡◌, drop, flat_map}
use Rattle.std.specs.Str.{bytes_eq}
use Rattle.pay_returns.proofs.after.is_made_of.Given as goal

-- the text is made of all pieces exactly where its rest is of those to come
abbrev pub invariant-loop-k : goal.invariant-loop-k
invariant-loop-k l = bytes_eq l.text (flat_map (λ piece. piece.now) l.pieces) ≡ bytes_eq l.rest (flat_map (λ piece. piece.now) (drop l.k l.pieces))
