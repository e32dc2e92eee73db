-- Block 3: subblocks with distinct numbers.
use Rattle.std.specs.Prelude.{ℕ, ◌==◌, ◌&&◌, ◌||◌, not, Bool, true, List, [], ◌∷◌, ◌++◌, length, map, Option, Some, nat_lt}
use Rattle.std.specs.List.{list_any}
use Rattle.corr_text.specs.Digits.{number_of}
use Rattle.corr_ids.specs.Day.{◌>>=◌}
use Rattle.corr_ids.specs.Uetr.{is_uetr}
use Rattle.fin_blocks.specs.Groups.{groups_of}
use Rattle.fin_blocks.specs.Forms.{when, tagged_of, each_of}

-- 121 holds a UETR; other numbers hold what they will
abbrev pub may_hold : ℕ → List ℕ → Bool
may_hold number text = not (number == 121) || is_uetr text

-- a subblock: its number, three digits, and its text
unfoldable pub subblock_of : Option (List ℕ) → Option (ℕ × List ℕ)
subblock_of group = do
  p ← tagged_of group
  number ← number_of p.0
  when (may_hold number p.1) (Some (number, p.1))

-- each number differs from these and from those that stand before it
abbrev pub differ_from : List ℕ → List ℕ → Bool
differ_from before [] = true
differ_from before (n ∷ ns) = not (list_any (λ q. q == n) before) && differ_from (before ++ n ∷ []) ns

-- no number stands twice
abbrev pub are_distinct : List ℕ → Bool
are_distinct ns = differ_from [] ns

-- one or more subblocks with distinct numbers
unfoldable pub subblocks_in : List ℕ → Option (List (ℕ × List ℕ))
subblocks_in bs = do
  subs ← each_of subblock_of (groups_of bs)
  when (nat_lt 0 (length subs) && are_distinct (map (λ s. s.0) subs)) (Some subs)
