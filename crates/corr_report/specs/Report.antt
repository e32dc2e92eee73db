-- The report of a run.
use Rattle.std.specs.Prelude.{ℕ, ℤ, ◌-◌, ◌≤◌, ◌==◌, List, [], ◌∷◌, ◌++◌, length, take, replicate, codes, slice_get, slice_index, Option, Some, None, if◌then◌else◌}
use Rattle.std.specs.Fmt.{decimal}
use Rattle.corr_text.specs.Digits.{padded}
use Rattle.corr_money.specs.Amounts.{amount_text, signed_text}
use Rattle.corr_ids.specs.declared.mir.Mir.{Mir}
use Rattle.day_model.specs.declared.entry.Entry.{Entry}
use Rattle.day_model.specs.declared.entry.Outcome.{Outcome}
use Rattle.day_model.specs.declared.entry.Outcome.TheVariants.{Booked, Unfunded}
use Rattle.day_model.specs.declared.pay.Leg.{Leg}
use Rattle.day_model.specs.declared.pay.Side.TheVariants.{Debit}
use Rattle.day_model.specs.declared.reply.Reply.{Reply}
use Rattle.day_model.specs.declared.reply.Reply.TheVariants.{Entered, Conflict, Refused, Unrouted}
use Rattle.day_model.specs.Chart.{Chart, account_at}
use Rattle.day_model.specs.Fit.{side_sum}
use Rattle.corr_report.specs.Lines.{line, numbered, said}
use Rattle.corr_report.specs.Totals.{total_lines}

-- a reply names a place of the history
abbrev pub NamesPlace : List Entry → Reply → Type 0
NamesPlace entries (Entered mir place) = (1 ≤ place) × (place ≤ length entries)
NamesPlace entries (Conflict mir place) = (1 ≤ place) × (place ≤ length entries)
NamesPlace entries (Refused mir fault) = Unit {0}
NamesPlace entries (Unrouted mir code) = Unit {0}

-- a reference, or 28 dashes where there is none
abbrev pub or_dashes : Option Mir → List ℕ
or_dashes (Some mir) = mir.0
or_dashes None = replicate 28 45

-- the message's reference, or 28 dashes
abbrev pub mir_text : Reply → List ℕ
mir_text (Entered mir place) = mir.0
mir_text (Conflict mir place) = mir.0
mir_text (Unrouted mir code) = mir.0
mir_text (Refused mir fault) = or_dashes mir

-- a tag of two characters has a space after them, which isn't printed
abbrev pub tag_text : List ℕ → List ℕ
tag_text tag = if slice_index tag 2 == 32 then take 2 tag else tag

-- the account of a leg, and a balance of it
abbrev pub balance_words : Chart → ℤ → Leg → List (List ℕ)
balance_words chart balance leg = said (account_at chart leg.account.0) (λ account. account.id ∷ signed_text account.decimals balance ∷ [])

-- an amount in the currency of a leg's account
abbrev pub amount_words : Chart → ℕ → Leg → List (List ℕ)
amount_words chart amount leg = said (account_at chart leg.account.0) (λ account. account.ccy.0 ∷ amount_text account.decimals amount ∷ [])

-- the sum of the debit legs, in the currency of the first leg
abbrev pub debited_words : Chart → List Leg → List (List ℕ)
debited_words chart legs = said (slice_get legs 0) (amount_words chart (side_sum Debit legs))

-- what was debited, or the account of leg k, from 1, that failed: `BOOKED 00000001 EUR 1234,50`, or `UNFUNDED 00000001 VBETAEUR 10000,00`
abbrev pub entry_words : Chart → ℕ → List Leg → Outcome → List (List ℕ)
entry_words chart place legs Booked = codes "BOOKED" ∷ padded 8 place ∷ debited_words chart legs
entry_words chart place legs (Unfunded k balance) = codes "UNFUNDED" ∷ padded 8 place ∷ said (slice_get legs (k - 1)) (balance_words chart balance)

-- what became of a message
abbrev pub reply_words : Chart → List Entry → Reply → List (List ℕ)
reply_words chart entries (Entered mir place) = said (slice_get entries (place - 1)) (λ entry. entry_words chart place entry.pay.legs entry.outcome)
reply_words chart entries (Conflict mir place) = codes "P41" ∷ padded 8 place ∷ []
reply_words chart entries (Refused mir fault) = codes "REFUSED" ∷ fault.code.0 ∷ tag_text fault.tag ∷ decimal fault.nth ∷ []
reply_words chart entries (Unrouted mir code) = codes "REFUSED" ∷ code.0 ∷ []

-- the line of the n-th message
abbrev pub reply_line : Chart → List Entry → ℕ → Reply → List ℕ
reply_line chart entries n reply = line (padded 6 n) (mir_text reply ∷ reply_words chart entries reply)

-- `MESSAGES 000001 ENTRIES 00000001`
abbrev pub count_line : ℕ → ℕ → List ℕ
count_line messages entries = line (codes "MESSAGES") (padded 6 messages ∷ codes "ENTRIES" ∷ padded 8 entries ∷ [])

-- the counts, and the totals of each currency
abbrev pub report_end : Chart → List Entry → ℕ → List ℕ
report_end chart entries messages = count_line messages (length entries) ++ total_lines chart entries

-- a line for each message, the counts, and the totals of each currency
abbrev pub report_of : Chart → List Entry → List Reply → List ℕ
report_of chart entries replies =
    numbered (reply_line chart entries) 1 replies ++ count_line (length replies) (length entries) ++ total_lines chart entries
