-- Each message stands in one group alone.
use Rattle.std.proofs.Common.{◌≡◌, filter, length, refl}
use Rattle.desk_page.specs.declared.group.Group.{Group}
use Rattle.desk_page.specs.declared.group.Group.TheVariants.{Ask, ByHand, Disputed, Fund, InOrder, Mend, Nothing, Return, Room, Stray, Tables}
use Rattle.desk_page.specs.Groups.{all_groups, group_of, is_group}
use Rattle.desk_page.specs.Laws.{EachStandsOnce}

listed_once : (group : Group) → length (filter (λ other. is_group group other) all_groups) ≡ 1
listed_once Mend = refl
listed_once Ask = refl
listed_once Return = refl
listed_once Tables = refl
listed_once ByHand = refl
listed_once Stray = refl
listed_once Fund = refl
listed_once Room = refl
listed_once Disputed = refl
listed_once Nothing = refl
listed_once InOrder = refl

pub stands_once : EachStandsOnce
stands_once row = listed_once (group_of row)
