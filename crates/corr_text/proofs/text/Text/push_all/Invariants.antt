use Rattle.std.proofs.Common.{◌≡◌, ◌++◌, flat_map, length, take}
use Rattle.corr_text.proofs.text.Text.push_all.Given as goal

-- after what stood there are the pieces so far
abbrev pub invariant-loop-piece : goal.invariant-loop-piece
invariant-loop-piece l = (l.self-inside.bytes.items ≡ l.fn.self ++ flat_map (λ piece. piece.now) (take l.piece-index l.pieces)) × (l.before ≡ length l.fn.self)
