-- What is read off legs that fit.
use Rattle.std.proofs.Common.{◌≡◌, ℕ, ◌<◌, ◌≤◌, List, length, Some, sym, subst}
use Rattle.std.specs.Prelude.{slice_get}
use Rattle.corr_money.specs.Amounts.{amount_end}
use Rattle.day_model.specs.Chart.{Chart}
use Rattle.day_model.specs.Fit.{FitsAccounts, side_sum}
use Rattle.day_model.specs.declared.pay.Leg.{Leg}
use Rattle.day_model.specs.declared.pay.Pay.{Pay}
use Rattle.day_model.specs.declared.pay.Side.TheVariants.{Debit}
use Rattle.day_model.proofs.laws.Fitting.{Sound, fitting, leg_sound, sides_small}

pub many-legs : (chart : Chart) (pay : Pay) → FitsAccounts chart pay → 2 ≤ length pay.legs
many-legs chart pay fits = (fitting chart pay.legs fits).many

pub leg-fits : (chart : Chart) (pay : Pay) (legs : List Leg) (i : ℕ) (leg : Leg) → FitsAccounts chart pay → legs ≡ pay.legs → slice_get legs i ≡ Some leg → Sound chart leg
leg-fits chart pay legs i leg fits same at = leg_sound chart pay.legs i leg (fitting chart pay.legs fits) (subst (λ (ls : List Leg). slice_get ls i ≡ Some leg) same at)

pub debits-small : (chart : Chart) (pay : Pay) (legs : List Leg) → FitsAccounts chart pay → legs ≡ pay.legs → side_sum Debit legs < amount_end
debits-small chart pay legs fits same = subst (λ (ls : List Leg). side_sum Debit ls < amount_end) (sym same) (sides_small chart pay.legs Debit (fitting chart pay.legs fits))
