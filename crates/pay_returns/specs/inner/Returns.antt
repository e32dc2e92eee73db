-- Which entry takes which payment back.
use Rattle.std.specs.Prelude.{ℕ, ◌-◌, List, take, Option, option_and_then}
use Rattle.day_model.specs.Chart.{Chart}
use Rattle.day_model.specs.declared.entry.Entry.{Entry}
use Rattle.pay_returns.specs.Returns.{at_place, opposed_by}

-- the place before r that the entry at place r takes back, whether or not that is a return itself
abbrev pub opposed_before : Chart → List Entry → ℕ → Option ℕ
opposed_before chart entries r = option_and_then (λ entry. opposed_by chart (take (r - 1) entries) entry.pay) (at_place r entries)
