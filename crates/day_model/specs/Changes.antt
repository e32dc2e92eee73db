-- How the accounts of a book change between its entries.
use Rattle.std.specs.Prelude.{ℕ, ◌-◌, ◌==◌, ◌&&◌, Bool, true, List, [], ◌∷◌, ◌++◌, filter, nat_le, slice_get, slice_set, ℤ}
use Rattle.std.specs.List.{list_all}
use Rattle.std.specs.Option.{option_map_or}
use Rattle.day_model.specs.declared.account.Account.{Account}
use Rattle.day_model.specs.declared.change.Change.{Change}
use Rattle.day_model.specs.declared.change.What.{What}
use Rattle.day_model.specs.declared.change.What.TheVariants.{Opened, Limits}

-- the most changes that a book has
abbrev pub most_changes : ℕ
most_changes = 1073741824

-- an account with other ends
abbrev pub with_ends : ℤ → ℤ → Account → Account
with_ends floor ceil account = record account { floor = floor; ceil = ceil }

-- accounts after a change: a new account stands last; limits put new ends to the account that they name
abbrev pub changed_by : What → List Account → List Account
changed_by (Opened account) accounts = accounts ++ account ∷ []
changed_by (Limits n floor ceil) accounts =
    option_map_or (λ account. slice_set accounts (n.0 - 1) (with_ends floor ceil account)) (slice_get accounts (n.0 - 1)) accounts

-- accounts after changes, one after another
abbrev pub all_changed : List Change → List Account → List Account
all_changed [] accounts = accounts
all_changed (change ∷ changes) accounts = all_changed changes (changed_by change.what accounts)

-- a change comes after at most k entries
abbrev pub is_by : ℕ → Change → Bool
is_by k change = nat_le change.after k

-- the changes by the time of k entries
abbrev pub by_then : ℕ → List Change → List Change
by_then k changes = filter (is_by k) changes

-- a change comes directly after k entries
abbrev pub is_just : ℕ → Change → Bool
is_just k change = change.after == k

-- the changes directly after k entries
abbrev pub just_then : ℕ → List Change → List Change
just_then k changes = filter (is_just k) changes

-- a change comes no earlier than another
abbrev pub is_since : Change → Change → Bool
is_since earlier change = nat_le earlier.after change.after

-- the changes stand in the order of their times
abbrev pub are_in_order : List Change → Bool
are_in_order [] = true
are_in_order (change ∷ changes) = list_all (is_since change) changes && are_in_order changes
