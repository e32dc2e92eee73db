-- A return can be written down.
use Rattle.std.proofs.Common.{◌≡◌, ℕ, ◌+◌, ◌≤◌, All, List, ◌++◌, length, length-append, refl, arith}
use Rattle.std.specs.Prelude.{codes}
use Rattle.std.proofs.lemmas.Bool.{and_parts}
use Rattle.std.proofs.lemmas.List.Elements.{All-append, All-filter, All-map, All-weaker}
use Rattle.corr_text.specs.Digits.{padded}
use Rattle.corr_text.proofs.laws.Number.{length-padded}
use Rattle.corr_ids.specs.Bic.{IsBic}
use Rattle.corr_ids.specs.Day.{InCentury}
use Rattle.corr_ids.specs.declared.day.Day.{Day}
use Rattle.day_model.specs.Chart.{Chart, IsChart, accounts_of}
use Rattle.day_model.specs.Fit.{FitsAccounts, are_legs, fit_in, is_side}
use Rattle.day_model.specs.Shape.{HasShape, IsLeg}
use Rattle.day_model.specs.declared.entry.Entry.{Entry}
use Rattle.day_model.specs.declared.pay.Leg.{Leg}
use Rattle.day_model.specs.declared.pay.Side.{Side}
use Rattle.day_model.specs.declared.pay.Side.TheVariants.{Credit, Debit}
use Rattle.day_model.proofs.laws.Fitting.{fitting}
use Rattle.pay_returns.specs.Opposite.{on_side, opposite_leg, opposite_legs, opposite_of, return_text}
use Rattle.pay_returns.specs.inner.Opposite.{AreByteQuotes}
use Rattle.pay_returns.specs.References.{IsByteQuote, own_reference, related_of}
use Rattle.pay_returns.proofs.Fits.{opposites-fit}
use Rattle.pay_returns.proofs.Mirs.{return-is-mir}
use Rattle.pay_returns.proofs.Noticed.{notices-few, notices-form}
use Rattle.pay_returns.proofs.Quotes.{quote-reference, related-reference}

-- ---- the text

five-long : (a b c d e : List ℕ) → length (a ++ b ++ c ++ d ++ e) ≡ length a + length b + length c + length d + length e
five-long a b c d e =
    let first = length-append a b in
    let second = length-append (a ++ b) c in
    let third = length-append (a ++ b ++ c) d in
    let last = length-append (a ++ b ++ c ++ d) e in
    omega (arith, first, second, third, last)

text-short : (place : ℕ) (related : List ℕ) → place ≤ 100000 → length related ≤ 16 → length (return_text place related) ≤ 32768
text-short place related small short =
    let whole = five-long (codes ":20:") (own_reference place) (codes "R\r\n:21:") related (codes "\r\n") in
    let first : length (codes ":20:") ≡ 4 = refl in
    let mid : length (codes "R\r\n:21:") ≡ 7 = refl in
    let last : length (codes "\r\n") ≡ 2 = refl in
    let eight : length (padded 8 place) ≡ 8 = length-padded 8 place (omega arith) (omega (arith, small)) (omega (arith, small)) in
    omega (arith, whole, first, mid, last, eight, short)

-- ---- the legs

abbrev IsWhole : Leg → Type 0
IsWhole leg = IsLeg leg × IsByteQuote leg.quote

leg-form : (place : ℕ) → place ≤ 100000 → (leg : Leg) → IsWhole leg → IsLeg (opposite_leg place leg)
leg-form place small leg whole = record { account = whole.0.account; quote = quote-reference place leg.quote small whole.0.quote whole.1 }

legs-form : (place : ℕ) (legs : List Leg) → place ≤ 100000 → All IsLeg legs → AreByteQuotes legs → All IsLeg (opposite_legs place legs)
legs-form place legs small each bytes =
    let whole : All IsWhole legs = λ k d lt. (each k d lt, bytes k d lt) in
    let on : (side : Side) → All IsWhole (on_side side legs) = λ side. All-filter (λ (leg : Leg). is_side side leg.side) IsWhole legs whole in
    let all : List Leg = on_side Credit legs ++ on_side Debit legs in
    All-map IsLeg (opposite_leg place) all
    (All-weaker IsWhole (λ leg. IsLeg (opposite_leg place leg)) (leg-form place small) all (All-append IsWhole (on_side Credit legs) (on_side Debit legs) (on Credit) (on Debit)))

-- ---- the pay

pub return-shape : (chart : Chart) (entry : Entry) (place : ℕ) (day : Day) → IsChart chart → FitsAccounts chart entry.pay → HasShape entry.pay → AreByteQuotes entry.pay.legs
    → IsBic chart.home → InCentury day → place ≤ 100000 → HasShape (opposite_of chart entry place day)
return-shape chart entry place day sound fits shape bytes home century small =
    let legs : List Leg = opposite_legs place entry.pay.legs in
    let fit = opposites-fit chart place entry.pay.legs (fitting chart entry.pay.legs fits) in
    let many = (fitting chart legs fit).many in
    let few = notices-few chart legs in
    record {
      mir = return-is-mir chart.home place home small;
      uetr = shape.uetr;
      text = text-short place (related_of entry.pay.text) small (related-reference entry.pay.text).short;
      value = century;
      legs = (and_parts (are_legs legs) (fit_in (accounts_of chart) legs) fit).0;
      each_leg = legs-form place entry.pay.legs small shape.each_leg bytes;
      few_orders = omega (arith, few);
      each_order = notices-form chart sound legs (omega (arith, many));
    }
