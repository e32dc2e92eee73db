-- A statement of another bank against our books.
use Rattle.std.specs.Prelude.{◌≡◌, ℕ, ◌-◌, List, ◌++◌, map, ℤ, pos, ◌+ℤ◌, [], ◌∷◌, slice_get, Option, find, IsPermutation, ◌==◌}
use Rattle.std.specs.Option.{option_map_or}
use Rattle.day_model.specs.Balance.{balance_of}
use Rattle.day_model.specs.Chart.{Chart}
use Rattle.day_model.specs.declared.entry.Entry.{Entry}
use Rattle.mt950.specs.Entry.{effect_of}
use Rattle.mt950.specs.declared.entry.Line61.{Line61}
use Rattle.mt950.specs.declared.joining.Statement.{Statement}
use Rattle.statement.specs.Legs.{before_day}
use Rattle.statement.specs.Lines.{Placed, lines_on, up_to_day}
use Rattle.reconcile.specs.Pairing.{line_numbers, ours_left, pairs_of, entry_places, theirs_left}
use Rattle.reconcile.specs.Rule.{IsPairing}
use Rattle.reconcile.specs.declared.comparing.Compared.{Compared}

-- our entries on account n of the statement's day
abbrev pub ours_of : Chart → ℕ → List Entry → Statement → List Placed
ours_of chart n entries s = lines_on chart n s.day entries

-- the pairs, what is left of ours and of theirs, and the gaps before the day and after it
abbrev pub compared_of : Chart → List Entry → ℕ → Statement → Compared
compared_of chart entries n s = record {
  pairs = pairs_of (ours_of chart n entries s) s.lines;
  ours = ours_left (pairs_of (ours_of chart n entries s) s.lines) (ours_of chart n entries s);
  theirs = theirs_left (ours_of chart n entries s) s.lines;
  opening_gap = balance_of chart (before_day s.day entries) n +ℤ s.opening;
  closing_gap = balance_of chart (up_to_day s.day entries) n +ℤ s.closing;
}

-- the pairs are by the rule: each line takes the first entry that is free for it
abbrev pub TakesFirst : Chart → ℕ → List Entry → Statement → Compared → Type 0
TakesFirst chart n entries s compared = IsPairing (ours_of chart n entries s) s.lines compared.pairs

-- each entry of ours stands in one pair or in `ours`, and each line in one pair or in `theirs`, and nowhere else or twice
pub record StandOnce (chart : Chart) (n : ℕ) (entries : List Entry) (s : Statement) (compared : Compared) : Type 0 where
  pub entries_once : IsPermutation (map (λ pair. pair.0) compared.pairs ++ compared.ours) (entry_places (ours_of chart n entries s))
  pub lines_once : IsPermutation (map (λ pair. pair.1) compared.pairs ++ compared.theirs) (line_numbers s.lines)

-- the entry at a place
abbrev pub placed_at : ℕ → List Placed → Option Placed
placed_at place ours = find (λ placed. placed.place == place) ours

-- a sum over a list
abbrev pub total : {A : Type 0} → (A → ℤ) → List A → ℤ
total f [] = pos 0
total f (x ∷ xs) = f x +ℤ total f xs

-- what the entry at a place adds to our balance
abbrev pub entry_at : List Placed → ℕ → ℤ
entry_at ours place = option_map_or (λ placed. effect_of placed.line) (placed_at place ours) (pos 0)

-- what the entries at places add to it together
abbrev pub added_by : List Placed → List ℕ → ℤ
added_by ours places = total (entry_at ours) places

-- what the line with a number adds to their balance
abbrev pub line_at : List Line61 → ℕ → ℤ
line_at theirs k = option_map_or effect_of (slice_get theirs (k - 1)) (pos 0)

-- what the lines with numbers add to it together
abbrev pub effects_at : List Line61 → List ℕ → ℤ
effects_at theirs numbers = total (line_at theirs) numbers

-- the closing gap is the opening gap with what is in no pair
abbrev pub AddsUp : Chart → ℕ → List Entry → Statement → Compared → Type 0
AddsUp chart n entries s compared =
    compared.closing_gap ≡ (compared.opening_gap +ℤ added_by (ours_of chart n entries s) compared.ours) +ℤ effects_at s.lines compared.theirs
