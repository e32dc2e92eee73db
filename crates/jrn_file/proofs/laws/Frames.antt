-- The frame of a record.
use Rattle.std.proofs.Common.{◌≡◌, ℕ, ◌-◌, List, [], ◌∷◌, ◌++◌, length, take, drop, refl, ◌∙◌, ap, arith, append_assoc, length-append}
use Rattle.std.specs.Int.{w32, to_be_bytes}
use Rattle.std.proofs.lemmas.List.{take_at, drop_at}
use Rattle.jrn_file.specs.Reading.{with_length}
use Rattle.jrn_file.specs.Journal.{frame_of, record_in}
use Rattle.jrn_file.proofs.laws.Sizes.{length-sized}

-- it has the record
pub record_in-frame : (r frame : List ℕ) → frame ≡ frame_of r → record_in frame ≡ r
record_in-frame r frame is =
    let size : length frame - 5 ≡ length r = omega (arith, ap length is, length-append (with_length r) (0 ∷ []), length-sized r) in
    let after : drop 4 frame ≡ r ++ 0 ∷ [] =
    ap (λ (l : List ℕ). drop 4 l) (is ∙ append_assoc (to_be_bytes w32 (length r)) r (0 ∷ []))
    ∙ drop_at (to_be_bytes w32 (length r)) (r ++ 0 ∷ []) 4 refl in
    ap (λ (n : ℕ). take n (drop 4 frame)) size
    ∙ ap (λ (l : List ℕ). take (length r) l) after
    ∙ take_at r (0 ∷ []) (length r) refl
