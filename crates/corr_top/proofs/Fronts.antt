-- The front part of a list has what the whole list has.
use Rattle.std.proofs.Common.{zero, suc, All, List, [], ◌∷◌, ◌++◌, arith}
use Rattle.day_model.specs.declared.entry.Entry.{Entry}

pub All-front : (P : Entry → Type 0) (front more : List Entry) → All P (front ++ more) → All P front
All-front P [] more all k d within = absurd (omega arith)
All-front P (e ∷ front) more all zero d within = all zero d (omega arith)
All-front P (e ∷ front) more all (suc k) d within = All-front P front more (λ j x less. all (suc j) x (omega arith)) k d (omega arith)

-- and so has the part after it
pub All-after : (P : Entry → Type 0) (front more : List Entry) → All P (front ++ more) → All P more
All-after P [] more all = all
All-after P (e ∷ front) more all = All-after P front more (λ k d within. all (suc k) d (omega arith))
