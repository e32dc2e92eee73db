-- Legs of a pay that fits.
use Rattle.std.proofs.Common.{◌≡◌, ℕ, ◌<◌, ◌≤◌, List, length, subst, sym}
use Rattle.std.specs.Prelude.{slice_get, None, Some}
use Rattle.std.proofs.lemmas.Option.{slice_get_past}
use Rattle.corr_money.specs.Amounts.{amount_end}
use Rattle.day_model.specs.declared.pay.Leg.{Leg}
use Rattle.day_model.specs.declared.pay.Pay.{Pay}
use Rattle.day_model.specs.declared.pay.Side.TheVariants.{Debit}
use Rattle.day_model.specs.Chart.{Chart, IsListed}
use Rattle.day_model.specs.Fit.{FitsAccounts, side_sum}
use Rattle.day_model.proofs.laws.Fitting.{fitting, leg_sound, sides_small}

-- past the last leg there is none
pub none_past : (legs : List Leg) (k : ℕ) → length legs ≤ k → slice_get legs k ≡ None
none_past legs k past = slice_get_past legs k past

-- a leg is on an account of the book
pub leg_listed : (chart : Chart) (pay : Pay) (legs : List Leg) (k : ℕ) (leg : Leg) → FitsAccounts chart pay → legs ≡ pay.legs → slice_get legs k ≡ Some leg
    → IsListed chart leg.account.0
leg_listed chart pay legs k leg fits same at =
    (leg_sound chart pay.legs k leg (fitting chart pay.legs fits) (subst (λ (ls : List Leg). slice_get ls k ≡ Some leg) same at)).listed

-- what is debited is below 10^14
pub debits_small : (chart : Chart) (pay : Pay) (legs : List Leg) → FitsAccounts chart pay → legs ≡ pay.legs → side_sum Debit legs < amount_end
debits_small chart pay legs fits same = subst (λ (ls : List Leg). side_sum Debit ls < amount_end) (sym same) (sides_small chart pay.legs Debit (fitting chart pay.legs fits))
