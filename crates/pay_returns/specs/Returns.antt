-- Which entry takes which payment back.
use Rattle.std.specs.Prelude.{ℕ, ◌-◌, ◌&&◌, Bool, List, [], ◌∷◌, ◌++◌, drop, nat_le, take, slice_get, not, is_some, Option, Some, None, option_and_then, option_map, if◌then◌else◌}
use Rattle.corr_text.specs.Digits.{number_of}
use Rattle.corr_ids.specs.declared.day.Day.{Day}
use Rattle.day_model.specs.Balance.{is_booked}
use Rattle.day_model.specs.Chart.{Chart}
use Rattle.day_model.specs.declared.entry.Entry.{Entry}
use Rattle.day_model.specs.declared.pay.Pay.{Pay}
use Rattle.pay_returns.specs.Equal.{is_equal}
use Rattle.pay_returns.specs.Opposite.{opposite_of}

-- what stands at a place, from 1
abbrev pub at_place : {A : Type 0} → ℕ → List A → Option A
at_place place xs = if nat_le 1 place then slice_get xs (place - 1) else None

-- the place that a reference names: its last ten digits
abbrev pub named_place : Pay → Option ℕ
named_place pay = number_of (take 10 (drop 18 pay.mir.0))

-- a pay takes back this booked entry at a place, with its own value day
abbrev pub is_opposite : Chart → Entry → ℕ → Pay → Bool
is_opposite chart entry place pay = is_booked entry.outcome && is_equal pay (opposite_of chart entry place pay.value)

-- a place, if a pay takes back the entry there
abbrev pub opposed_at : Chart → List Entry → Pay → ℕ → Option ℕ
opposed_at chart entries pay place = option_and_then (λ entry. if is_opposite chart entry place pay then Some place else None) (at_place place entries)

-- the place among entries that a pay takes back, whether or not that is a return itself
abbrev pub opposed_by : Chart → List Entry → Pay → Option ℕ
opposed_by chart entries pay = option_and_then (opposed_at chart entries pay) (named_place pay)

-- of each entry the place that it takes back, if it is a return
abbrev pub Tags : Type 0
Tags = List (Option ℕ)

-- the place that a return takes back: none where an entry is no return, or isn't there
abbrev pub tag_at : Tags → ℕ → Option ℕ
tag_at tags place = option_and_then (λ tag. tag) (at_place place tags)

-- the tag of the next entry: it is a return of the place that it takes back, if that isn't a return itself
abbrev pub next_tag : Chart → List Entry → Tags → Pay → Option ℕ
next_tag chart entries tags pay =
    option_and_then (λ place. if is_some (tag_at tags place) then None else Some place) (opposed_by chart entries pay)

-- the tags of entries and of those that follow
abbrev pub tags_from : Chart → List Entry → Tags → List Entry → Tags
tags_from chart before tags [] = tags
tags_from chart before tags (entry ∷ entries) = tags_from chart (before ++ entry ∷ []) (tags ++ next_tag chart before tags entry.pay ∷ []) entries

-- the tags of a history, from its first entry to its last
abbrev pub tagged_of : Chart → List Entry → Tags
tagged_of chart entries = tags_from chart [] [] entries

-- the place that the entry at place r takes back, if it is a return
abbrev pub returns_place : Chart → List Entry → ℕ → Option ℕ
returns_place chart entries r = tag_at (tagged_of chart entries) r

-- a booked entry that is no return itself
abbrev pub is_payment : Chart → List Entry → ℕ → Entry → Bool
is_payment chart entries place entry = is_booked entry.outcome && not (is_some (returns_place chart entries place))

-- the entry at a place, if it is such a payment
abbrev pub payment_at : Chart → List Entry → ℕ → Option Entry
payment_at chart entries place = option_and_then (λ entry. if is_payment chart entries place entry then Some entry else None) (at_place place entries)

-- the pay that takes back the payment at a place, with a value day
abbrev pub return_of : Chart → List Entry → ℕ → Day → Option Pay
return_of chart entries place day = option_map (λ entry. opposite_of chart entry place day) (payment_at chart entries place)
