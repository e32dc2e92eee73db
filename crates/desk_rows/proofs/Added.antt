-- What is added piece by piece.
use Rattle.std.proofs.Common.{◌≡◌, ℕ, List, ◌++◌, ap, ◌∙◌, append_assoc}

-- one piece more
pub piece_more : (out row before new more : List ℕ) → before ≡ out ++ row → new ≡ before ++ more → new ≡ out ++ (row ++ more)
piece_more out row before new more was is = is ∙ ap (λ bs. bs ++ more) was ∙ append_assoc out row more
