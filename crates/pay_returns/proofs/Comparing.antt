-- A pay is compared part by part.
use Rattle.std.proofs.Common.{◌≡◌, ℕ, ◌&&◌, Bool, true, false, List, map, sym, ap, ◌∙◌, ℤ, arith}
use Rattle.std.specs.Ordering.{int_eq}
use Rattle.std.specs.Option.{option_map_or}
use Rattle.std.proofs.lemmas.Int.{ints}
use Rattle.std.proofs.lemmas.List.{map-append}
use Rattle.corr_ids.specs.declared.bic.Bic.{Bic}
use Rattle.day_model.specs.Chart.{Chart}
use Rattle.day_model.specs.declared.pay.Leg.{Leg}
use Rattle.day_model.specs.declared.pay.Order.{Order}
use Rattle.day_model.specs.declared.pay.Pay.{Pay}
use Rattle.day_model.specs.declared.pay.Side.TheVariants.{Credit, Debit}
use Rattle.pay_returns.specs.Equal.{are_all, is_equal, is_leg, is_order}
use Rattle.pay_returns.specs.inner.Equal.{is_stamped_as}
use Rattle.pay_returns.specs.Opposite.{notices_of, on_side, opposite_leg, opposite_legs, opposite_pay, return_mir, return_text}
use Rattle.pay_returns.specs.inner.Texts.{after_all}
use Rattle.pay_returns.specs.declared.origin.Origin.{Origin}
use Rattle.pay_returns.proofs.Pieces.{front_first}
use Rattle.pay_returns.proofs.laws.Equality.{all-equal, leg-decided}

-- legs are compared side by side
pub by-sides : (place : ℕ) (legs of : List Leg) → are_all is_leg legs (opposite_legs place of)
    ≡ option_map_or (λ rest. are_all is_leg rest (map (opposite_leg place) (on_side Debit of))) (after_all is_leg (map (opposite_leg place) (on_side Credit of)) legs) false
by-sides place legs of =
    ap (are_all is_leg legs) (map-append (opposite_leg place) (on_side Credit of) (on_side Debit of))
    ∙ front_first is_leg (map (opposite_leg place) (on_side Credit of)) (map (opposite_leg place) (on_side Debit of)) legs

same-value : (a : ℤ) → int_eq a a ≡ true
same-value a = grind (arith, ints)

module _ (chart : Chart) (home : Bic) (origin : Origin) (place : ℕ) (pay : Pay) (at_home : chart.home ≡ home) where
  abbrev mir : List ℕ
  mir = (return_mir home place).0

  abbrev text : List ℕ
  text = return_text place origin.related

  abbrev legs : List Leg
  legs = opposite_legs place origin.legs

  -- the pay with the home of the chart
  abbrev tested : Bic → Bool
  tested bank = is_equal pay (record (opposite_pay chart origin place pay.value) { mir = return_mir bank place })

  other-stamp : is_stamped_as pay mir origin.uetr text ≡ false → is_equal pay (opposite_pay chart origin place pay.value) ≡ false
  other-stamp differs = ap tested at_home ∙ ap (λ (x : Bool). x && int_eq pay.value.0 pay.value.0 && are_all is_leg pay.legs legs && are_all is_order pay.orders (notices_of chart legs)) differs

  pub unstamped : (result : Bool) → result ≡ is_stamped_as pay mir origin.uetr text → result ≡ false → false ≡ is_equal pay (opposite_pay chart origin place pay.value)
  unstamped result is differs = sym (other-stamp (sym is ∙ differs))

  pub other-legs : (first result : Bool) → first ≡ is_stamped_as pay mir origin.uetr text → first ≡ true → result ≡ are_all is_leg pay.legs legs → result ≡ false
      → false ≡ is_equal pay (opposite_pay chart origin place pay.value)
  other-legs first result stamp agrees is differs =
      let stamped : is_stamped_as pay mir origin.uetr text ≡ true = sym stamp ∙ agrees in
      let differ : are_all is_leg pay.legs legs ≡ false = sym is ∙ differs in
      sym (ap tested at_home ∙ (λ i. stamped i && same-value pay.value.0 i && differ i && are_all is_order pay.orders (notices_of chart legs)))

  pub same-orders : (first second result : Bool) (orders : List Order) → first ≡ is_stamped_as pay mir origin.uetr text → first ≡ true → second ≡ are_all is_leg pay.legs legs → second ≡ true
      → orders ≡ notices_of chart pay.legs → result ≡ are_all is_order pay.orders orders → result ≡ is_equal pay (opposite_pay chart origin place pay.value)
  same-orders first second result orders stamp agrees is also told last =
      let stamped : is_stamped_as pay mir origin.uetr text ≡ true = sym stamp ∙ agrees in
      let same : are_all is_leg pay.legs legs ≡ true = sym is ∙ also in
      let equal : pay.legs ≡ legs = all-equal is_leg leg-decided pay.legs legs same in
      last ∙ ap (are_all is_order pay.orders) (told ∙ ap (notices_of chart) equal)
      ∙ sym (ap tested at_home ∙ (λ i. stamped i && same-value pay.value.0 i && same i && are_all is_order pay.orders (notices_of chart legs)))
