-- Bytes that were copied to the front of a buffer.
use Rattle.std.proofs.Common.{◌≡◌, ◌++◌, length, take, drop, ℕ, ◌+◌, ◌-◌, ◌≤◌, List, arith, sym, length-take, length-drop}
use Rattle.std.proofs.lemmas.List.{take-append-drop, drop-drop}
use Rattle.std.proofs.Math.Seq.{take-append_seam}

pub taken : (at n : ℕ) (bs copied more : List ℕ) → copied ≡ take n (drop at bs) → n ≤ length bs - at
    → drop at bs ≡ take n (copied ++ more) ++ drop (at + n) bs
taken at n bs copied more e fits =
    let count : length copied ≡ n = grind (arith, length-take, length-drop) in
    let front : take n (copied ++ more) ≡ copied = rw (sym count) (take-append_seam copied more) in
    rw (front, e, sym (drop-drop n at bs)) (sym (take-append-drop n (drop at bs)))
