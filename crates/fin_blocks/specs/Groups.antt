-- Groups: a `{` up to its matching `}`.
use Rattle.std.specs.Prelude.{ℕ, ◌==◌, List, [], ◌∷◌, Option, Some, None, if◌then◌else◌}
use Rattle.corr_text.specs.Braces.{depth_after}

-- a byte put before the first group; one that is never closed stays none
abbrev pub group_with_byte : ℕ → List (Option (List ℕ)) → List (Option (List ℕ))
group_with_byte b [] = []
group_with_byte b (None ∷ groups) = None ∷ groups
group_with_byte b (Some group ∷ groups) = Some (b ∷ group) ∷ groups

-- the groups of bytes before which so many groups are open: a group ends after each byte that leaves none open
abbrev pub groups_from : ℕ → List ℕ → List (Option (List ℕ))
groups_from depth [] = if depth == 0 then [] else None ∷ []
groups_from depth (b ∷ bs) =
    if depth_after depth b == 0 then Some (b ∷ []) ∷ groups_from 0 bs
    else group_with_byte b (groups_from (depth_after depth b) bs)

-- the groups of bytes in order, and none at the end where one is never closed; a byte outside groups counts as one
unfoldable pub groups_of : List ℕ → List (Option (List ℕ))
groups_of bs = groups_from 0 bs

-- the next group, if there is one and it is closed
abbrev pub next_group : List (Option (List ℕ)) → Option (List ℕ)
next_group [] = None
next_group (group ∷ groups) = group

-- the groups after the next one
abbrev pub groups_after : List (Option (List ℕ)) → List (Option (List ℕ))
groups_after [] = []
groups_after (group ∷ groups) = groups
