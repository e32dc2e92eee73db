-- The groups of the messages of a file: what is to be done with each.
use Rattle.std.specs.Prelude.{Bool, ◌||◌, true, false, List, [], ◌∷◌, ◌++◌, codes, if◌then◌else◌}
use Rattle.corr_text.specs.declared.fault.Code.{Code}
use Rattle.day_model.specs.declared.pay.Side.{Side}
use Rattle.day_model.specs.declared.pay.Side.TheVariants as side
use Rattle.desk_page.specs.declared.group.Group.{Group}
use Rattle.desk_page.specs.declared.group.Group.TheVariants.{Ask, ByHand, Disputed, Fund, InOrder, Mend, Nothing, Return, Room, Stray, Tables}
use Rattle.desk_page.specs.declared.row.Row.{Row}
use Rattle.desk_page.specs.declared.row.Row.TheVariants.{Asks, Refused, Told}
use Rattle.desk_page.specs.declared.row.Standing.{Standing}
use Rattle.desk_page.specs.declared.row.Standing.TheVariants.{Booked, Conflict, New, Unfunded, Unrouted}
use Rattle.desk_page.specs.Reasons.{is_code}

-- ---- by its code

-- possibly sent before; a correspondent that leads to no account; debit and credit on one account
abbrev pub wants_answer : Code → Bool
wants_answer code = is_code code (codes "P10") || is_code code (codes "P32") || is_code code (codes "P38")

-- no account with the sender; no account of the beneficiary; a charge that takes all
abbrev pub goes_back : Code → Bool
goes_back code = is_code code (codes "P31") || is_code code (codes "P33") || is_code code (codes "P39")

-- a bank or a currency that is in no table; no instruction, or one that doesn't fit; no account of fees
abbrev pub wants_tables : Code → Bool
wants_tables code =
    is_code code (codes "P12") || is_code code (codes "P25") || is_code code (codes "T52") || is_code code (codes "P30") || is_code code (codes "P36") || is_code code (codes "P40")

-- another type; another validation flag; an amount past the limit; a bank without its BIC
abbrev pub is_by_hand : Code → Bool
is_by_hand code = is_code code (codes "P11") || is_code code (codes "P13") || is_code code (codes "P27") || is_code code (codes "P35")

-- sent, not received; for another bank
abbrev pub is_astray : Code → Bool
is_astray code = is_code code (codes "P07") || is_code code (codes "P08")

-- an acknowledgement; a training message; a cover for the home bank
abbrev pub asks_nothing : Code → Bool
asks_nothing code = is_code code (codes "P02") || is_code code (codes "P09") || is_code code (codes "P34")

-- all others: the sender mends what is faulty
abbrev pub group_by : Code → Group
group_by code =
    if wants_answer code then Ask
    else if goes_back code then Return
    else if wants_tables code then Tables
    else if is_by_hand code then ByHand
    else if is_astray code then Stray
    else if asks_nothing code then Nothing
    else Mend

-- ---- by where it stands

-- an account couldn't be debited, or credited
abbrev pub group_short : Side → Group
group_short side.Debit = Fund
group_short side.Credit = Room

-- the group of a payment
abbrev pub group_for : Standing → Group
group_for New = InOrder
group_for (Booked place) = InOrder
group_for (Unfunded place account side amount) = group_short side
group_for (Conflict place) = Disputed
group_for (Unrouted code) = group_by code

-- the group of a message
abbrev pub group_of : Row → Group
group_of (Refused mir fault) = group_by fault.code
group_of (Asks payment standing) = group_for standing
group_of (Told mir account) = InOrder

-- two groups are the same
abbrev pub is_group : Group → Group → Bool
is_group Mend Mend = true
is_group Ask Ask = true
is_group Return Return = true
is_group Tables Tables = true
is_group ByHand ByHand = true
is_group Stray Stray = true
is_group Fund Fund = true
is_group Room Room = true
is_group Disputed Disputed = true
is_group Nothing Nothing = true
is_group InOrder InOrder = true
is_group _ _ = false

-- a message is of this group
abbrev pub is_in : Group → Row → Bool
is_in group row = is_group (group_of row) group

-- ---- as they stand on the page

-- those that need somebody
abbrev pub needing : List Group
needing = Mend ∷ Ask ∷ Return ∷ Tables ∷ ByHand ∷ Stray ∷ Fund ∷ Room ∷ Disputed ∷ []

-- the others
abbrev pub resting : List Group
resting = Nothing ∷ InOrder ∷ []

-- all of them
abbrev pub all_groups : List Group
all_groups = needing ++ resting
