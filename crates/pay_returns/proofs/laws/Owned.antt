-- A return is a pay of the home bank's own, and asks for notices alone.
use Rattle.std.proofs.Common.{◌≡◌, ℕ, ◌-◌, ◌≤◌, ◌∙◌, ◌∷◌, ◌++◌, [], All, List, Option, Some, None, refl, ap, subst, arith}
use Rattle.std.specs.Prelude.{option_map}
use Rattle.std.proofs.lemmas.Option.{none-some, same_Some, slice_get_within}
use Rattle.ref_tables.specs.Seen.{IsKnown, Tables, has_head}
use Rattle.corr_ids.specs.Bic.{IsBic}
use Rattle.corr_ids.specs.declared.day.Day.{Day}
use Rattle.day_model.specs.Chart.{Chart, IsChart}
use Rattle.day_model.specs.Fit.{FitsAccounts}
use Rattle.day_model.specs.Shape.{HasShape}
use Rattle.day_model.specs.declared.entry.Entry.{Entry}
use Rattle.day_model.specs.declared.pay.Leg.{Leg}
use Rattle.day_model.specs.declared.pay.Pay.{Pay}
use Rattle.day_model.proofs.laws.Fitting.{fitting}
use Rattle.day_model.proofs.laws.Fronts.{fits_now}
use Rattle.advices.specs.Valid.{HasReferencesAlone, IsNotice, IsOwnPay}
use Rattle.pay_returns.specs.Laws.{HoldsReturn, ReturnIsOwn}
use Rattle.pay_returns.specs.Opposite.{opposite_legs, opposite_of}
use Rattle.pay_returns.specs.References.{own_reference, related_of}
use Rattle.pay_returns.specs.Returns.{payment_at}
use Rattle.pay_returns.proofs.Fits.{opposites-fit}
use Rattle.pay_returns.proofs.Mirs.{sender-head}
use Rattle.pay_returns.proofs.Noticed.{notices-are}
use Rattle.pay_returns.proofs.Quotes.{related-reference}
use Rattle.pay_returns.proofs.TextCut.{fields-cut}
use Rattle.pay_returns.proofs.laws.Tagging.{payment-is}
use Rattle.pay_returns.proofs.laws.Words.{return-reference}

references-alone : (chart : Chart) (entry : Entry) (place : ℕ) (day : Day) → place ≤ 100000 → HasReferencesAlone (opposite_of chart entry place day)
references-alone chart entry place day small =
    let own = return-reference place small in
    let theirs = related-reference entry.pay.text in
    record {
      reference = own_reference place ++ 82 ∷ [];
      related = related_of entry.pay.text;
      fields = fields-cut place (related_of entry.pay.text) own.plain theirs.plain;
      reference_is = own;
      related_is = theirs;
    }

opposite-own : (t : Tables) (chart : Chart) (entry : Entry) (place : ℕ) (day : Day) → IsChart chart → IsBic chart.home → place ≤ 100000
    → FitsAccounts chart entry.pay → HasShape (opposite_of chart entry place day) → HoldsReturn t chart (opposite_of chart entry place day)
    → IsOwnPay t chart (opposite_of chart entry place day) × All (IsNotice t) (opposite_of chart entry place day).orders
opposite-own t chart entry place day sound home small fits shape holds =
    let legs : List Leg = opposite_legs place entry.pay.legs in
    let fit = opposites-fit chart place entry.pay.legs (fitting chart entry.pay.legs fits) in
    let many = (fitting chart legs fit).many in (
      record {
        accounts = sound;
        fits = fit;
        shape = shape;
        text = references-alone chart entry place day small;
        money = holds.money;
        sender = ap (has_head t) (sender-head chart.home place home small) ∙ holds.home;
      },
      notices-are chart legs (omega (arith, many)) (IsKnown t) (IsNotice t) (record {
        owners = holds.owners;
        credit = λ to n known within. known;
        debit = λ to n known within. known;
      }),
    )

-- what is made of something that is there
made-of : {A B : Type 0} (f : A → B) (o : Option A) (y : B) → option_map f o ≡ Some y → (x : A) × (o ≡ Some x) × (f x ≡ y)
made-of f None y e = absurd (none-some y e)
made-of f (Some x) y e = (x, refl, same_Some (f x) y e)

pub return-own : ReturnIsOwn
return-own t chart entries place day pay sound legal home shape is holds =
    let made = made-of (λ (entry : Entry). opposite_of chart entry place day) (payment_at chart entries place) pay is in
    let entry : Entry = made.0 in
    let there = payment-is chart entries place entry made.1 in
    let lt = slice_get_within entries (place - 1) entry there.1 in
    subst (λ (p : Pay). HasShape p → HoldsReturn t chart p → IsOwnPay t chart p × All (IsNotice t) p.orders) made.2
    (opposite-own t chart entry place day sound home (omega (arith, lt, there.0, legal.rules.short)) (fits_now chart entries (place - 1) entry legal there.1)) shape holds
