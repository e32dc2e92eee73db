-- What is printed of legs that fit.
use Rattle.std.proofs.Common.{◌≡◌, ℕ, ◌<◌, List, length, get_or, Some, sym, subst, ◌∙◌, ap}
use Rattle.std.specs.Prelude.{slice_get}
use Rattle.std.proofs.lemmas.Option.{slice_get-get_or}
use Rattle.corr_money.specs.Amounts.{amount_end}
use Rattle.day_model.specs.declared.pay.Leg.{Leg}
use Rattle.day_model.specs.declared.pay.Pay.{Pay}
use Rattle.day_model.specs.declared.pay.Side.TheVariants.{Debit}
use Rattle.day_model.specs.Chart.{Chart, IsListed}
use Rattle.day_model.specs.Fit.{FitsAccounts, side_sum}
use Rattle.day_model.proofs.laws.Fitting.{fitting, leg_sound, sides_small}

-- a leg is on an account of the book
pub leg_listed : (chart : Chart) (pay : Pay) (legs : List Leg) (i : ℕ) (leg : Leg) → FitsAccounts chart pay → legs ≡ pay.legs → slice_get legs i ≡ Some leg → IsListed chart leg.account.0
leg_listed chart pay legs i leg fits same at =
    (leg_sound chart pay.legs i leg (fitting chart pay.legs fits) (subst (λ (ls : List Leg). slice_get ls i ≡ Some leg) same at)).listed

-- so one that a loop comes to
pub item_listed : (chart : Chart) (pay : Pay) (legs : List Leg) (i : ℕ) (leg : Leg) → FitsAccounts chart pay → legs ≡ pay.legs → i < length legs → leg ≡ get_or legs i leg → IsListed chart leg.account.0
item_listed chart pay legs i leg fits same lt is = leg_listed chart pay legs i leg fits same (slice_get-get_or legs i leg lt ∙ ap (λ (l : Leg). Some l) (sym is))

-- what is debited is below 10^14
pub debits_small : (chart : Chart) (pay : Pay) (legs : List Leg) → FitsAccounts chart pay → legs ≡ pay.legs → side_sum Debit legs < amount_end
debits_small chart pay legs fits same = subst (λ (ls : List Leg). side_sum Debit ls < amount_end) (sym same) (sides_small chart pay.legs Debit (fitting chart pay.legs fits))
