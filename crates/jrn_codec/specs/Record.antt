-- The record of an entry, and which values have one.
use Rattle.std.specs.Prelude.{ℕ, ◌<◌, List, [], ◌∷◌, ◌++◌, Option, FitsSigned}
use Rattle.std.specs.Int.{w16, w32, w64, to_be_bytes}
use Rattle.corr_ids.specs.Day.{InCentury}
use Rattle.corr_ids.specs.declared.day.Day.{Day}
use Rattle.corr_ids.specs.declared.mir.Mir.{Mir}
use Rattle.corr_ids.specs.declared.uetr.Uetr.{Uetr}
use Rattle.day_model.specs.declared.pay.Side.{Side}
use Rattle.day_model.specs.declared.pay.Side.TheVariants.{Debit, Credit}
use Rattle.day_model.specs.declared.pay.Mt.{Mt}
use Rattle.day_model.specs.declared.pay.Mt.TheVariants.{Transfer, Cover}
use Rattle.day_model.specs.declared.pay.Quote.{Quote}
use Rattle.day_model.specs.declared.pay.Quote.TheVariants.{Ours, Theirs}
use Rattle.day_model.specs.declared.pay.Leg.{Leg}
use Rattle.day_model.specs.declared.pay.Skip.{Skip}
use Rattle.day_model.specs.declared.pay.Skip.TheVariants.{Keep, Mid, Both}
use Rattle.day_model.specs.declared.pay.Order.{Order}
use Rattle.day_model.specs.declared.pay.Order.TheVariants as order
use Rattle.day_model.specs.declared.entry.Outcome.{Outcome}
use Rattle.day_model.specs.declared.entry.Outcome.TheVariants.{Booked, Unfunded}
use Rattle.day_model.specs.declared.entry.Entry.{Entry}
use Rattle.day_model.specs.Shape.{HasShape}
use Rattle.jrn_codec.specs.Spelling.{signed_bytes, bic_bytes, optional_bytes, short_bytes, long_bytes, listed_bytes}

-- the record of an entry has at most so many bytes
abbrev pub most_record_bytes : ℕ
most_record_bytes = 1048576

-- 1 for a transfer, 2 for a cover
abbrev pub mt_mark : Mt → ℕ
mt_mark Transfer = 1
mt_mark Cover = 2

-- 0 for a debit, 1 for a credit
abbrev pub side_mark : Side → ℕ
side_mark Debit = 0
side_mark Credit = 1

-- 0 keeps fields 56a and 57a, 1 leaves out 56a, 2 leaves out both
abbrev pub skip_mark : Skip → ℕ
skip_mark Keep = 0
skip_mark Mid = 1
skip_mark Both = 2

-- days since 1970-01-01
abbrev pub day_bytes : Day → List ℕ
day_bytes day = signed_bytes w32 day.0

-- 0, or 1 with the leg that failed and its account's balance
abbrev pub outcome_bytes : Outcome → List ℕ
outcome_bytes Booked = 0 ∷ []
outcome_bytes (Unfunded leg balance) = 1 ∷ leg ∷ signed_bytes w64 balance

-- 0 with the other bank's reference, or 1 with the number of our order
abbrev pub quote_bytes : Quote → List ℕ
quote_bytes (Theirs text) = 0 ∷ short_bytes text
quote_bytes (Ours k) = 1 ∷ k ∷ []

-- account, side, amount
unfoldable pub posting_bytes : Leg → List ℕ
posting_bytes leg = to_be_bytes w16 leg.account.0 ++ side_mark leg.side ∷ [] ++ to_be_bytes w64 leg.amount.0

-- what is booked, and what a statement quotes for it
unfoldable pub leg_bytes : Leg → List ℕ
leg_bytes leg = posting_bytes leg ++ quote_bytes leg.quote

-- the kind, the bank that the message goes to, and what the kind adds
abbrev pub order_bytes : Order → List ℕ
order_bytes (order.Transfer to skip via) = 1 ∷ [] ++ bic_bytes to ++ skip_mark skip ∷ [] ++ optional_bytes bic_bytes via
order_bytes (order.Cover to end skip) = 2 ∷ [] ++ bic_bytes to ++ bic_bytes end ++ skip_mark skip ∷ []
order_bytes (order.Pass to skip) = 3 ∷ [] ++ bic_bytes to ++ skip_mark skip ∷ []
order_bytes (order.Debit to leg) = 4 ∷ [] ++ bic_bytes to ++ leg ∷ []
order_bytes (order.Credit to leg) = 5 ∷ [] ++ bic_bytes to ++ leg ∷ []

-- which message it was: its reference, its type, the payment's reference
unfoldable pub stamp_bytes : Mir → Mt → Option Uetr → List ℕ
stamp_bytes mir mt uetr = mir.0 ++ mt_mark mt ∷ [] ++ optional_bytes (λ u. u.0) uetr

-- when it was entered, its value date, and what became of it
unfoldable pub fate_bytes : Day → Day → Outcome → List ℕ
fate_bytes day value outcome = day_bytes day ++ day_bytes value ++ outcome_bytes outcome

-- the parts up to the outcome
abbrev pub front_bytes : Entry → List ℕ
front_bytes e = stamp_bytes e.pay.mir e.pay.mt e.pay.uetr ++ fate_bytes e.day e.pay.value e.outcome

-- the parts from the legs on
abbrev pub back_bytes : Entry → List ℕ
back_bytes e = listed_bytes leg_bytes e.pay.legs ++ listed_bytes order_bytes e.pay.orders ++ long_bytes e.pay.text

-- the record of an entry in a journal of version 1: the parts in their order
abbrev pub entry_bytes_1 : Entry → List ℕ
entry_bytes_1 e = front_bytes e ++ back_bytes e

-- the record of an entry: 0, then the parts
abbrev pub entry_bytes : Entry → List ℕ
entry_bytes e = 0 ∷ entry_bytes_1 e

-- the leg's number has one byte, the balance eight
abbrev pub IsOutcome : Outcome → Type 0
IsOutcome Booked = Unit {0}
IsOutcome (Unfunded leg balance) = (leg < 256) × FitsSigned w64 balance

-- what has a record: a pay that can be written down, a day of 1980 to 2079, an outcome
pub record IsEntry (e : Entry) : Type 0 where
  pub pay : HasShape e.pay
  pub day : InCentury e.day
  pub outcome : IsOutcome e.outcome
