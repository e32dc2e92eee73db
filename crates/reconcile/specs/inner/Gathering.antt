-- Pages that are put together one by one, as the code keeps them.
use Rattle.std.specs.Prelude.{◌≡◌, ℕ, ◌&&◌, Bool, true, false, List, [], ◌∷◌, ◌++◌, length, slice_get, Option, Some, None, if◌then◌else◌}
use Rattle.std.specs.List.{last_or}
use Rattle.std.specs.Map.{lookup}
use Rattle.std.specs.Option.{is_none}
use Rattle.std.specs.Str.{bytes_eq}
use Rattle.mt950.specs.declared.page.Page950.{Page950}
use Rattle.reconcile.specs.inner.Keys.{short_of}
use Rattle.reconcile.specs.Pieces.{begins_piece, is_unfinished, pieces_of}
use Rattle.reconcile.specs.declared.grouping.Gathered.{Gathered}

-- a page's account, as the map keeps it
abbrev pub page_account : Page950 → List ℕ
page_account page = short_of 36 page.account

-- the place of the piece that the next page of an account belongs to, where one is open
abbrev pub open_at : Gathered → List ℕ → Option ℕ
open_at gathered account = lookup (bytes_eq account) gathered.places.entries

-- the place for its next page: that one, or the end
abbrev pub place_for_page : Option ℕ → List (List Page950) → ℕ
place_for_page None pieces = length pieces
place_for_page (Some at) pieces = at

-- the pieces with room for it
abbrev pub room_in : Option ℕ → List (List Page950) → List (List Page950)
room_in None pieces = pieces ++ [] ∷ []
room_in (Some at) pieces = pieces

-- where the one after it belongs
abbrev pub place_after : Bool → ℕ → Option ℕ
place_after last at = if last then None else Some at

-- a piece is of an account, and goes on
abbrev pub is_open : List ℕ → List Page950 → Bool
is_open account [] = false
is_open account (page ∷ pages) = bytes_eq account (page_account page) && is_unfinished (last_or None (page ∷ pages))

-- the pieces of pages are there, the open ones are noted, and no others; so a page begins a piece just where none is noted
pub record Gathers (front : List Page950) (gathered : Gathered) : Type 0 where
  pub are : gathered.pieces.items ≡ pieces_of front
  pub noted : (account : List ℕ) (at : ℕ) → open_at gathered account ≡ Some at → (piece : List Page950) × (slice_get gathered.pieces.items at ≡ Some piece) × (is_open account piece ≡ true)
  pub every : (account : List ℕ) (at : ℕ) (piece : List Page950) → slice_get gathered.pieces.items at ≡ Some piece → is_open account piece ≡ true → open_at gathered account ≡ Some at
  pub begin : (page : Page950) → begins_piece front page ≡ is_none (open_at gathered (page_account page))
