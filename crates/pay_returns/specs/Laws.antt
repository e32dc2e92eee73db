-- Laws of returns.
use Rattle.std.specs.Prelude.{◌≡◌, ℕ, Bool, true, All, IsTrue, List, [], ◌∷◌, ◌++◌, ◌<◌, codes, Some, None, sum_by}
use Rattle.std.specs.List.{list_any}
use Rattle.ref_tables.specs.Seen.{Tables, has_head}
use Rattle.corr_ids.specs.Bic.{IsBic}
use Rattle.corr_ids.specs.declared.day.Day.{Day}
use Rattle.corr_money.specs.declared.amount.Amount.{Amount}
use Rattle.day_model.specs.Balance.{moved}
use Rattle.day_model.specs.Chart.{Chart, IsChart}
use Rattle.day_model.specs.Fit.{FitsAccounts}
use Rattle.day_model.specs.Legal.{FollowsRules, IsLegal}
use Rattle.day_model.specs.Shape.{HasShape}
use Rattle.day_model.specs.declared.account.Account.{Account}
use Rattle.day_model.specs.declared.entry.Entry.{Entry}
use Rattle.day_model.specs.declared.pay.Pay.{Pay}
use Rattle.day_model.specs.declared.pay.Side.TheVariants.{Credit, Debit}
use Rattle.advices.specs.Fields.{is_named}
use Rattle.advices.specs.Legs.{leg_account, leg_amount}
use Rattle.advices.specs.Received.{fields_in}
use Rattle.advices.specs.Valid.{IsNotice, IsOwnPay, IsTabled}
use Rattle.pay_returns.specs.Opposite.{opposite_legs, opposite_of}
use Rattle.pay_returns.specs.Returns.{at_place, next_tag, return_of, returns_place, tagged_of}

-- a return credits each account with what the payment debited to it, and debits what that credited
abbrev pub EffectsCancel : Type 0
EffectsCancel =
    (place n : ℕ) (entry : Entry) → (sum_by (moved Credit n) (opposite_legs place entry.pay.legs) ≡ sum_by (moved Debit n) entry.pay.legs)
    × (sum_by (moved Debit n) (opposite_legs place entry.pay.legs) ≡ sum_by (moved Credit n) entry.pay.legs)

-- the return of a pay that fits the accounts fits them
abbrev pub ReturnFits : Type 0
ReturnFits = (chart : Chart) (entry : Entry) (place : ℕ) (day : Day) → FitsAccounts chart entry.pay → FitsAccounts chart (opposite_of chart entry place day)

-- tables hold what the messages of a return say: the heads of the home bank and of the owners of its accounts, and the currencies
-- of these, none of which is a precious metal
pub record HoldsReturn (t : Tables) (chart : Chart) (pay : Pay) : Type 0 where
  pub home : has_head t chart.home.head ≡ true
  pub owners : (n : ℕ) (account : Account) → leg_account chart pay n ≡ Some account → has_head t account.owner.head ≡ true
  pub money : (n : ℕ) (amount : Amount) → leg_amount chart pay n ≡ Some amount → IsTabled t amount

-- a return that can be written down is a pay of the home bank's own and asks for notices alone, under tables that hold what its
-- messages say: so its messages are accepted
abbrev pub ReturnIsOwn : Type 0
ReturnIsOwn =
    (t : Tables) (chart : Chart) (entries : List Entry) (place : ℕ) (day : Day) (pay : Pay) → IsChart chart → IsLegal chart entries → IsBic chart.home → HasShape pay
    → return_of chart entries place day ≡ Some pay → HoldsReturn t chart pay → IsOwnPay t chart pay × All (IsNotice t) pay.orders

-- an entry more has one tag more
abbrev pub TaggedMore : Type 0
TaggedMore =
    (chart : Chart) (entries : List Entry) (entry : Entry)
    → tagged_of chart (entries ++ entry ∷ []) ≡ tagged_of chart entries ++ next_tag chart entries (tagged_of chart entries) entry.pay ∷ []

-- a return stands behind what it takes back
abbrev pub ReturnsLater : Type 0
ReturnsLater = (chart : Chart) (entries : List Entry) (r place : ℕ) → returns_place chart entries r ≡ Some place → place < r

-- each place has at most one return
abbrev pub ReturnsOnce : Type 0
ReturnsOnce =
    (chart : Chart) (entries : List Entry) (r s place : ℕ) → FollowsRules chart entries → returns_place chart entries r ≡ Some place
    → returns_place chart entries s ≡ Some place → r ≡ s

-- a text has a field 32A, with the value date, the currency and the amount: each transfer and each cover that is received has one
abbrev pub has_32A : List ℕ → Bool
has_32A text = list_any (is_named 32 (codes "A")) (fields_in text)

-- what was received is never taken for a return, whatever its references are: an entry whose text has a field 32A is none
abbrev pub ReceivedIsNoReturn : Type 0
ReceivedIsNoReturn =
    (chart : Chart) (entries : List Entry) (r : ℕ) (entry : Entry) → FollowsRules chart entries → at_place r entries ≡ Some entry
    → IsTrue (has_32A entry.pay.text) → returns_place chart entries r ≡ None
