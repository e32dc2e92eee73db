-- The shape of a pay, whatever the book.
use Rattle.std.specs.Prelude.{ℕ, ◌≤◌, not, All, IfSome, IsTrue, List, length}
use Rattle.std.specs.List.{list_all}
use Rattle.corr_text.specs.declared.set.Set.TheVariants.{X}
use Rattle.corr_text.specs.Sets.{is_in}
use Rattle.corr_text.specs.Slashes.{has_stray_slash}
use Rattle.corr_ids.specs.Bic.{IsBic}
use Rattle.corr_ids.specs.Day.{InCentury}
use Rattle.corr_ids.specs.Mir.{IsMir}
use Rattle.corr_ids.specs.Uetr.{IsUetr}
use Rattle.day_model.specs.declared.pay.Leg.{Leg}
use Rattle.day_model.specs.declared.pay.Order.{Order}
use Rattle.day_model.specs.declared.pay.Order.TheVariants as order
use Rattle.day_model.specs.declared.pay.Pay.{Pay}
use Rattle.day_model.specs.declared.pay.Quote.{Quote}
use Rattle.day_model.specs.declared.pay.Quote.TheVariants.{Ours, Theirs}
use Rattle.day_model.specs.Chart.{most_accounts}
use Rattle.day_model.specs.Fit.{are_legs}

-- a reference: 1 to 16 of X, without a stray slash
pub record IsReference (text : List ℕ) : Type 0 where
  pub given : 1 ≤ length text
  pub short : length text ≤ 16
  pub plain : IsTrue (list_all (is_in X) text)
  pub slashes : IsTrue (not (has_stray_slash text))

-- another bank's reference is one; an order's number says no more
abbrev pub IsQuote : Quote → Type 0
IsQuote (Theirs text) = IsReference text
IsQuote (Ours order) = Unit {0}

-- a leg on one of at most 1,000 accounts
pub record IsLeg (leg : Leg) : Type 0 where
  pub account : (1 ≤ leg.account.0) × (leg.account.0 ≤ most_accounts)
  pub quote : IsQuote leg.quote

-- a leg's number, from 1, among so many
abbrev pub IsNumbered : ℕ → ℕ → Type 0
IsNumbered legs n = (1 ≤ n) × (n ≤ legs)

-- the BICs of an order meet their grammar, and the leg that it names is there
abbrev pub IsOrder : ℕ → Order → Type 0
IsOrder legs (order.Transfer to skip via) = IsBic to × IfSome via IsBic
IsOrder legs (order.Cover to end skip) = IsBic to × IsBic end
IsOrder legs (order.Pass to skip) = IsBic to
IsOrder legs (order.Debit to leg) = IsBic to × IsNumbered legs leg
IsOrder legs (order.Credit to leg) = IsBic to × IsNumbered legs leg

-- the most bytes of a pay's text
abbrev pub most_text : ℕ
most_text = 32768

-- what every pay has that is written down: its parts meet their grammar and their bounds
pub record HasShape (pay : Pay) : Type 0 where
  pub mir : IsMir pay.mir
  pub uetr : IfSome pay.uetr IsUetr
  pub text : length pay.text ≤ most_text
  pub value : InCentury pay.value
  pub legs : IsTrue (are_legs pay.legs)
  pub each_leg : All IsLeg pay.legs
  pub few_orders : length pay.orders ≤ 255
  pub each_order : All (IsOrder (length pay.legs)) pay.orders
