-- Words and rows as cells.
use Rattle.std.proofs.Common.{◌≡◌, ℕ, zero, suc, ◌<◌, List, [], ◌∷◌, length, get_or, refl, arith}
use Rattle.std.specs.Borrow.{Bor}
use Rattle.csv.specs.Records.{field_at}
use Rattle.ref_tables.specs.Rows.{Cells, cell, cells_of}

-- a word is the cell at its place
pub cell_is : (words : List (Bor (List ℕ))) (k : ℕ) (d : Bor (List ℕ)) → k < length words → cell k (cells_of words) ≡ (get_or words k d).now
unfolding field_at
cell_is [] k d lt = absurd (omega arith)
cell_is (w ∷ words) zero d lt = refl
cell_is (w ∷ words) (suc k) d lt = cell_is words k d (omega arith)

-- seven cells are the row
pub seven_are : (row : Cells) → length row ≡ 7 → cell 0 row ∷ cell 1 row ∷ cell 2 row ∷ cell 3 row ∷ cell 4 row ∷ cell 5 row ∷ cell 6 row ∷ [] ≡ row
unfolding field_at
seven_are (a ∷ b ∷ c ∷ d ∷ e ∷ f ∷ g ∷ []) seven = refl
seven_are [] seven = absurd (omega arith)
seven_are (a ∷ []) seven = absurd (omega arith)
seven_are (a ∷ b ∷ []) seven = absurd (omega arith)
seven_are (a ∷ b ∷ c ∷ []) seven = absurd (omega arith)
seven_are (a ∷ b ∷ c ∷ d ∷ []) seven = absurd (omega arith)
seven_are (a ∷ b ∷ c ∷ d ∷ e ∷ []) seven = absurd (omega arith)
seven_are (a ∷ b ∷ c ∷ d ∷ e ∷ f ∷ []) seven = absurd (omega arith)
seven_are (a ∷ b ∷ c ∷ d ∷ e ∷ f ∷ g ∷ h ∷ more) seven = absurd (omega arith)
