-- What a message asks of the books.
use Rattle.std.specs.Prelude.{ℕ, Bool, false, List}
use Rattle.corr_ids.specs.declared.bic.Bic.{Bic}
use Rattle.corr_ids.specs.declared.day.Day.{Day}
use Rattle.corr_money.specs.declared.amount.Amount.{Amount}
use Rattle.day_model.specs.declared.pay.Mt.{Mt}
use Rattle.day_model.specs.declared.pay.Mt.TheVariants as mt
use Rattle.routing.specs.declared.cover.Cover.{Cover as HowCovered}
use Rattle.routing.specs.declared.target.Target.{Target}
use Rattle.pay_plan.specs.declared.ask.Ask.{Ask}
use Rattle.pay_plan.specs.declared.ask.Ask.TheVariants.{Transfer, Cover}
use Rattle.pay_plan.specs.Cover.{cover_of}
use Rattle.pay_plan.specs.Target.{cover_target, names_home, transfer_target}

-- what a message asks of the books, with the references themselves
pub record Asked : Type 0 where
  pub mt : Mt
  pub value : Day
  pub amount : Amount
  pub reference : List ℕ
  pub last_reference : List ℕ
  pub cover : HowCovered
  pub target : Target

-- a cover whose beneficiary institution is the home bank
abbrev pub is_for_home : Bic → Ask → Bool
is_for_home home (Transfer m) = false
is_for_home home (Cover m) = names_home home m.now.a58

-- its amount
abbrev pub amount_in : Ask → Amount
amount_in (Transfer m) = m.now.amount
amount_in (Cover m) = m.now.amount

-- how it is covered
abbrev pub cover_in : Ask → HowCovered
cover_in (Transfer m) = cover_of m.now.p53 m.now.p54
cover_in (Cover m) = cover_of m.now.a53 m.now.a54

-- for whom it is
abbrev pub target_in : Bic → Ask → Target
target_in home (Transfer m) = transfer_target home m.now
target_in home (Cover m) = cover_target home m.now

-- what a message asks, with its cover and target
abbrev pub asked_with : Ask → HowCovered → Target → Asked
asked_with (Transfer m) cover target = record {
  mt = mt.Transfer;
  value = m.now.value;
  amount = m.now.amount;
  reference = m.now.reference;
  last_reference = m.now.reference;
  cover = cover;
  target = target;
}
asked_with (Cover m) cover target = record {
  mt = mt.Cover;
  value = m.now.value;
  amount = m.now.amount;
  reference = m.now.reference;
  last_reference = m.now.related;
  cover = cover;
  target = target;
}

-- what a message asks
abbrev pub asked_of : Bic → Ask → Asked
asked_of home ask = asked_with ask (cover_in ask) (target_in home ask)
