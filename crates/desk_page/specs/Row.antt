-- What the page says of a message.
use Rattle.std.specs.Prelude.{ℕ, ◌-◌, ◌<◌, ◌≤◌, List, [], ◌∷◌, ◌++◌, Option, Some, None, option_to_list, slice_get}
use Rattle.std.specs.List.{flat_map}
use Rattle.corr_ids.specs.Bic.{bic_text}
use Rattle.corr_ids.specs.Day.{InCentury}
use Rattle.corr_money.specs.Amounts.{amount_end, most_decimals}
use Rattle.day_model.specs.Chart.{Chart, IsListed}
use Rattle.day_model.specs.declared.entry.Entry.{Entry}
use Rattle.day_model.specs.declared.entry.Outcome.{Outcome}
use Rattle.day_model.specs.declared.entry.Outcome.TheVariants as outcome
use Rattle.day_model.specs.declared.pay.Leg.{Leg}
use Rattle.day_model.specs.declared.reply.Reply.{Reply}
use Rattle.day_model.specs.declared.reply.Reply.TheVariants as reply
use Rattle.fin_parties.specs.declared.party.Party.{Party}
use Rattle.fin_parties.specs.declared.party.Party.TheVariants as party
use Rattle.desk_page.specs.declared.row.Payment.{Payment}
use Rattle.desk_page.specs.declared.row.Row.{Row}
use Rattle.desk_page.specs.declared.row.Row.TheVariants.{Asks}
use Rattle.desk_page.specs.declared.row.Standing.{Standing}
use Rattle.desk_page.specs.declared.row.Standing.TheVariants.{Booked, Conflict, New, Unfunded, Unrouted}

-- lines, each with a line feed after it
abbrev pub lined : List (List ℕ) → List ℕ
lined lines = flat_map (λ line. line ++ 10 ∷ []) lines

-- a party as a text: its account or party line, if it has one, and then its bank, or its name and address
abbrev pub party_text : Party → List ℕ
party_text (party.A line bic) = lined (option_to_list line) ++ bic_text bic
party_text (party.B line place) = lined (option_to_list line) ++ lined (option_to_list place)
party_text (party.C line) = line
party_text (party.D line lines) = lined (option_to_list line) ++ lined lines
party_text (party.K account lines) = lined (option_to_list account) ++ lined lines
party_text (party.F line lines) = lined (option_to_list line) ++ lined lines

-- ---- where a payment stands

-- the account of the leg that failed lacks its amount
abbrev pub failed_at : ℕ → Option Leg → Standing
failed_at place (Some leg) = Unfunded place leg.account leg.side leg.amount
failed_at place None = Booked place

-- by the outcome of its entry
abbrev pub standing_of : ℕ → List Leg → Outcome → Standing
standing_of place legs outcome.Booked = Booked place
standing_of place legs (outcome.Unfunded k balance) = failed_at place (slice_get legs (k - 1))

-- by its entry
abbrev pub entered_as : ℕ → Option Entry → Standing
entered_as place (Some entry) = standing_of place entry.pay.legs entry.outcome
entered_as place None = New

-- by the reply to it after these entries; none where it isn't entered
abbrev pub standing_by : List Entry → Option Reply → Standing
standing_by entries (Some (reply.Entered mir place)) = entered_as place (slice_get entries (place - 1))
standing_by entries (Some (reply.Conflict mir place)) = Conflict place
standing_by entries (Some (reply.Unrouted mir code)) = Unrouted code
standing_by entries (Some (reply.Refused mir fault)) = New
standing_by entries None = New

-- ---- what may be shown

-- a day that has six digits, and an amount that can be written
pub record IsShownPayment (p : Payment) : Type 0 where
  pub value : InCentury p.value
  pub small : p.amount.minor.0 < amount_end
  pub few : p.amount.decimals ≤ most_decimals

-- what is lacking is an amount on an account of the book
abbrev pub IsShownStanding : Chart → Standing → Type 0
IsShownStanding chart (Unfunded place account side amount) = IsListed chart account.0 × (amount.0 < amount_end)
IsShownStanding chart _ = Unit {0}

-- a message can be shown
abbrev pub IsShown : Chart → Row → Type 0
IsShown chart (Asks payment standing) = IsShownPayment payment × IsShownStanding chart standing
IsShown chart _ = Unit {0}
