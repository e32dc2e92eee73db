-- Groups: a `{` up to its matching `}`.
use Rattle.std.specs.Prelude.{◌≡◌, ℕ, List, Option}
use Rattle.fin_blocks.specs.Groups.{groups_of, next_group, groups_after}

-- bytes cut after their next group
pub record IsCut (from : List ℕ) (group : Option (List ℕ)) (rest : List ℕ) : Type 0 where
  pub group_is_next : group ≡ next_group (groups_of from)
  pub rest_is_after : groups_of rest ≡ groups_after (groups_of from)
