-- The entries of a journal as lines.
use Rattle.std.specs.Prelude.{◌≡◌, ℕ, ◌-◌, List, [], ◌∷◌, codes, slice_get, Some}
use Rattle.std.specs.List.{flat_map}
use Rattle.corr_text.specs.Digits.{padded}
use Rattle.corr_ids.specs.Day.{InCentury, yymmdd_of}
use Rattle.corr_money.specs.Amounts.{amount_text}
use Rattle.day_model.specs.declared.entry.Entry.{Entry}
use Rattle.day_model.specs.declared.entry.Outcome.{Outcome}
use Rattle.day_model.specs.declared.entry.Outcome.TheVariants.{Booked, Unfunded}
use Rattle.day_model.specs.declared.pay.Leg.{Leg}
use Rattle.day_model.specs.declared.pay.Side.{Side}
use Rattle.day_model.specs.declared.pay.Side.TheVariants.{Debit, Credit}
use Rattle.day_model.specs.Chart.{Chart, account_at}
use Rattle.corr_report.specs.Lines.{line, numbered, said}
use Rattle.corr_report.specs.Report.{balance_words}

-- each entry has a day from 1980 to 2079
abbrev pub AreInCentury : List Entry → Type 0
AreInCentury entries = (i : ℕ) (entry : Entry) → slice_get entries i ≡ Some entry → InCentury entry.day

-- the letter of a side
abbrev pub side_letter : Side → List ℕ
side_letter Debit = codes "D"
side_letter Credit = codes "C"

-- `D VALPHEUR 1234,50`
abbrev pub leg_words : Chart → Leg → List (List ℕ)
leg_words chart leg = said (account_at chart leg.account.0) (λ account. side_letter leg.side ∷ account.id ∷ amount_text account.decimals leg.amount.0 ∷ [])

-- `BOOKED` and the legs, or `UNFUNDED` with the account of the failing leg and its balance
abbrev pub outcome_words : Chart → List Leg → Outcome → List (List ℕ)
outcome_words chart legs Booked = codes "BOOKED" ∷ flat_map (leg_words chart) legs
outcome_words chart legs (Unfunded k balance) = codes "UNFUNDED" ∷ said (slice_get legs (k - 1)) (balance_words chart balance)

-- an entry's line: its place, its day, its reference and its outcome
abbrev pub booking_line : Chart → ℕ → Entry → List ℕ
booking_line chart place entry =
    line (padded 8 place) (yymmdd_of entry.day ∷ entry.pay.mir.0 ∷ outcome_words chart entry.pay.legs entry.outcome)

-- a line for each entry
abbrev pub bookings_of : Chart → List Entry → List ℕ
bookings_of chart entries = numbered (booking_line chart) 1 entries
