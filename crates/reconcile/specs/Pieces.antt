-- The pages that were received, put together as statements.
use Rattle.std.specs.Prelude.{Bool, true, false, List, [], ◌∷◌, ◌++◌, Option, Some, None, if◌then◌else◌}
use Rattle.std.specs.List.{filter, last_or}
use Rattle.std.specs.Str.{bytes_eq}
use Rattle.mt950.specs.declared.page.Page950.{Page950}

-- a page is of the same account as another, by the text of field 25
abbrev pub is_of : Page950 → Page950 → Bool
is_of page other = bytes_eq other.account page.account

-- pages up to and with the first that closes a statement
abbrev pub until_closed : List Page950 → List Page950
until_closed [] = []
until_closed (page ∷ pages) = page ∷ (if page.closing.last then [] else until_closed pages)

-- a statement may go on after its last page so far: there is one, and it doesn't close it
abbrev pub is_unfinished : Option Page950 → Bool
is_unfinished None = false
is_unfinished (Some page) = if page.closing.last then false else true

-- a page begins a piece where the pages of its account ahead of it don't go on
abbrev pub begins_piece : List Page950 → Page950 → Bool
begins_piece ahead page = if is_unfinished (last_or None (filter (is_of page) ahead)) then false else true

-- the piece that a page begins: it and those of its account after it, up to and with the first that closes the statement
abbrev pub piece_of : Page950 → List Page950 → List Page950
piece_of page after = until_closed (page ∷ filter (is_of page) after)

-- the pieces of pages that stand after others
abbrev pub pieces_from : List Page950 → List Page950 → List (List Page950)
pieces_from ahead [] = []
pieces_from ahead (page ∷ after) =
    (if begins_piece ahead page then piece_of page after ∷ [] else []) ++ pieces_from (ahead ++ page ∷ []) after

-- the pieces of pages, in the order of their first pages
abbrev pub pieces_of : List Page950 → List (List Page950)
pieces_of pages = pieces_from [] pages
