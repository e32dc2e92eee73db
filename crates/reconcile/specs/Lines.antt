-- The lines that tell of a statement.
use Rattle.std.specs.Prelude.{ℕ, ℤ, ◌-◌, List, [], ◌∷◌, ◌++◌, codes, slice_get}
use Rattle.std.specs.List.{flat_map}
use Rattle.std.specs.Option.{option_map_or}
use Rattle.corr_text.specs.Digits.{padded}
use Rattle.corr_money.specs.Amounts.{amount_text, signed_text}
use Rattle.corr_report.specs.Lines.{line, spaced}
use Rattle.mt950.specs.Writing.{mark_text}
use Rattle.mt950.specs.declared.entry.Line61.{Line61}
use Rattle.mt950.specs.declared.entry.Mark.{Mark}
use Rattle.mt950.specs.declared.entry.Mark.TheVariants.{C, D, RC, RD}
use Rattle.mt950.specs.declared.joining.PageFault.{PageFault}
use Rattle.mt950.specs.declared.joining.PageFault.TheVariants.{Gap, NotCarried, DoesNotAdd, Memory}
use Rattle.statement.specs.Lines.{Placed}
use Rattle.reconcile.specs.Comparison.{placed_at}
use Rattle.reconcile.specs.declared.comparing.Compared.{Compared}

-- `PAIR 00000001 00001`
abbrev pub pair_line : ℕ × ℕ → List ℕ
pair_line pair = line (codes "PAIR") (padded 8 pair.0 ∷ padded 5 pair.1 ∷ [])

-- a line for each pair
abbrev pub pair_lines : List (ℕ × ℕ) → List ℕ
pair_lines pairs = flat_map pair_line pairs

-- the side of an entry by its mark: C where it adds to our balance, D where it takes from it
abbrev pub side_text : Mark → List ℕ
side_text C = codes "C"
side_text RD = codes "C"
side_text D = codes "D"
side_text RC = codes "D"

-- `OURS 00000001 C 1234,50 P00000001K2`
abbrev pub ours_line : ℕ → Placed → List ℕ
ours_line decimals placed =
    line (codes "OURS") (padded 8 placed.place ∷ side_text placed.line.mark ∷ amount_text decimals placed.line.amount.0 ∷ placed.line.reference ∷ [])

-- a line for each of the entries at places
abbrev pub ours_lines : ℕ → List Placed → List ℕ → List ℕ
ours_lines decimals ours places = flat_map (λ place. option_map_or (ours_line decimals) (placed_at place ours) []) places

-- `THEIRS 00001 D 10,00 X`
abbrev pub theirs_line : ℕ → ℕ → Line61 → List ℕ
theirs_line decimals k their =
    line (codes "THEIRS") (padded 5 k ∷ mark_text their.mark ∷ amount_text decimals their.amount.0 ∷ their.reference ∷ [])

-- a line for each of the lines with numbers
abbrev pub theirs_lines : ℕ → List Line61 → List ℕ → List ℕ
theirs_lines decimals theirs numbers = flat_map (λ k. option_map_or (theirs_line decimals k) (slice_get theirs (k - 1)) []) numbers

-- `GAP 0,00 1224,50`
abbrev pub gap_line : ℕ → ℤ → ℤ → List ℕ
gap_line decimals opening closing = line (codes "GAP") (signed_text decimals opening ∷ signed_text decimals closing ∷ [])

-- the lines of a statement that was compared: the pairs, what is left of ours and of theirs, and the gaps
abbrev pub compared_lines : ℕ → List Placed → List Line61 → Compared → List ℕ
compared_lines decimals ours theirs compared =
    pair_lines compared.pairs ++ ours_lines decimals ours compared.ours ++ theirs_lines decimals theirs compared.theirs
    ++ gap_line decimals compared.opening_gap compared.closing_gap

-- why pages are no statement
abbrev pub fault_words : ℕ → PageFault → List ℕ
fault_words decimals (Gap page) = spaced (codes "GAP" ∷ padded 5 page ∷ [])
fault_words decimals (NotCarried page closing opening) =
    spaced (codes "NOT" ∷ codes "CARRIED" ∷ padded 5 page ∷ signed_text decimals closing ∷ signed_text decimals opening ∷ [])
fault_words decimals (DoesNotAdd opening sum closing) =
    spaced (codes "DOES" ∷ codes "NOT" ∷ codes "ADD" ∷ signed_text decimals opening ∷ signed_text decimals sum ∷ signed_text decimals closing ∷ [])
fault_words decimals Memory = []
