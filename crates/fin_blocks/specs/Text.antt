-- Block 4: lines, each ended by a line end.
use Rattle.std.specs.Prelude.{ℕ, ◌-◌, ◌==◌, ◌||◌, Bool, List, [], ◌∷◌, ◌++◌, length, slice_index, Option, Some, codes}
use Rattle.std.specs.List.{flat_map}
use Rattle.std.specs.Option.{option_or}
use Rattle.corr_text.specs.Lines.{lines_of}
use Rattle.corr_ids.specs.Day.{◌>>=◌}
use Rattle.fin_blocks.specs.Forms.{between, when}

-- nothing stands after the last line feed
abbrev pub is_ended : List ℕ → Bool
is_ended bs = (length bs == 0) || (slice_index bs (length bs - 1) == 10)

-- CR LF
abbrev pub crlf : List ℕ
crlf = 13 ∷ 10 ∷ []

-- a line and its end, CR LF
abbrev pub ended : List ℕ → List ℕ
ended line = line ++ crlf

-- the lines of these bytes, each ended by CR LF
unfoldable pub text_in : List ℕ → List ℕ
text_in bs = flat_map ended (lines_of bs)

-- `{4:`, a line end, the lines, `-}`
unfoldable pub text_of : Option (List ℕ) → Option (List ℕ)
text_of group = do
  block ← group
  bs ← option_or (between (codes "{4:" ++ crlf) (codes "-}") block) (between (codes "{4:" ++ 10 ∷ []) (codes "-}") block)
  when (is_ended bs) (Some (text_in bs))
