-- The pay that takes a booked payment back.
use Rattle.std.specs.Prelude.{ℕ, ◌-◌, ◌==◌, Bool, List, ◌∷◌, ◌++◌, codes, map, slice_get, Option, Some, None, option_and_then, option_map, option_to_list, if◌then◌else◌}
use Rattle.std.specs.List.{filter, position_from}
use Rattle.corr_text.specs.Digits.{padded}
use Rattle.corr_ids.specs.declared.bic.Bic.{Bic}
use Rattle.corr_ids.specs.declared.day.Day.{Day}
use Rattle.corr_ids.specs.declared.mir.Mir.{Mir}
use Rattle.day_model.specs.Chart.{Chart, account_at}
use Rattle.corr_ids.specs.Kinds.{vostro}
use Rattle.day_model.specs.Fit.{is_side}
use Rattle.day_model.specs.declared.account.Account.{Account}
use Rattle.day_model.specs.declared.entry.Entry.{Entry}
use Rattle.day_model.specs.declared.pay.Leg.{Leg}
use Rattle.day_model.specs.declared.pay.Mt.TheVariants.{Cover}
use Rattle.day_model.specs.declared.pay.Order.{Order}
use Rattle.day_model.specs.declared.pay.Order.TheVariants as order
use Rattle.day_model.specs.declared.pay.Pay.{Pay}
use Rattle.day_model.specs.declared.pay.Quote.TheVariants.{Theirs}
use Rattle.day_model.specs.declared.pay.Side.{Side}
use Rattle.day_model.specs.declared.pay.Side.TheVariants.{Credit, Debit}
use Rattle.pay_returns.specs.declared.origin.Origin.{Origin}
use Rattle.pay_returns.specs.References.{own_reference, quote_text, related_of}

-- the reference of the return of the entry at a place: terminal R of the home bank sent it on the first day of all, numbered by
-- the place
abbrev pub return_mir : Bic → ℕ → Mir
return_mir home place = record { 0 = codes "800101" ++ home.head ++ 82 ∷ home.branch ++ padded 10 place }

-- its text: field 20 names the place, field 21 the payment's own reference
abbrev pub return_text : ℕ → List ℕ → List ℕ
return_text place related = codes ":20:" ++ own_reference place ++ codes "R\r\n:21:" ++ related ++ codes "\r\n"

-- the other side
abbrev pub opposite_side : Side → Side
opposite_side Debit = Credit
opposite_side Credit = Debit

-- the leg that takes a leg of the entry at a place back, and quotes what a line quotes for that
abbrev pub opposite_leg : ℕ → Leg → Leg
opposite_leg place leg = record { account = leg.account; side = opposite_side leg.side; amount = leg.amount; quote = Theirs (quote_text place leg.quote) }

-- the legs on one side
abbrev pub on_side : Side → List Leg → List Leg
on_side side legs = filter (λ leg. is_side side leg.side) legs

-- the legs that take all legs back: debits first
abbrev pub opposite_legs : ℕ → List Leg → List Leg
opposite_legs place legs = map (opposite_leg place) (on_side Credit legs ++ on_side Debit legs)

-- the owner of a vostro account
abbrev pub vostro_owner : Account → Option Bic
vostro_owner account = if account.kind == vostro then Some account.owner else None

-- the bank that is told of a leg: the owner of its account, if that is a vostro account
abbrev pub told_of : Chart → Leg → Option Bic
told_of chart leg = option_and_then vostro_owner (account_at chart leg.account.0)

-- the bank that is told of leg k, from 1
abbrev pub told_at : Chart → List Leg → ℕ → Option Bic
told_at chart legs k = option_and_then (told_of chart) (slice_get legs (k - 1))

-- a leg is a credit
abbrev pub is_credit : Leg → Bool
is_credit leg = is_side Credit leg.side

-- the notice of leg k to the bank whose account it credits
abbrev pub credit_at : Chart → List Leg → ℕ → Option Order
credit_at chart legs k = option_map (λ to. order.Credit to k) (told_at chart legs k)

-- the notice of the first credit
abbrev pub credit_notice : Chart → List Leg → Option Order
credit_notice chart legs = option_and_then (credit_at chart legs) (position_from is_credit 1 legs)

-- the notice of leg 1, a debit
abbrev pub debit_notice : Chart → List Leg → Option Order
debit_notice chart legs = option_map (λ to. order.Debit to 1) (told_at chart legs 1)

-- the notices of a return: of its first credit, then of its first debit
abbrev pub notices_of : Chart → List Leg → List Order
notices_of chart legs = option_to_list (credit_notice chart legs) ++ option_to_list (debit_notice chart legs)

-- what a return takes over from the payment that it takes back
abbrev pub origin_of : Entry → Origin
origin_of entry = record { uetr = entry.pay.uetr; related = related_of entry.pay.text; legs = entry.pay.legs }

-- the pay that takes back a payment at a place, with a value day
abbrev pub opposite_pay : Chart → Origin → ℕ → Day → Pay
opposite_pay chart origin place day =
    let legs = opposite_legs place origin.legs in
    record {
      mir = return_mir chart.home place;
      mt = Cover;
      uetr = origin.uetr;
      text = return_text place origin.related;
      value = day;
      legs = legs;
      orders = notices_of chart legs;
    }

-- the one that takes back the entry at a place
abbrev pub opposite_of : Chart → Entry → ℕ → Day → Pay
opposite_of chart entry place day = opposite_pay chart (origin_of entry) place day
