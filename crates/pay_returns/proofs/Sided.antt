-- Legs of one side, one leg more at a time.
use Rattle.std.proofs.Common.{◌≡◌, ℕ, ◌+◌, ◌<◌, All, Bool, cond, List, [], ◌∷◌, ◌++◌, drop, get_or, length, map, take, Option, refl, sym, ap, ◌∙◌, subst, inl, inr, append_assoc}
use Rattle.std.specs.Prelude.{option_and_then}
use Rattle.std.proofs.lemmas.Bool.{cases_Bool}
use Rattle.std.proofs.lemmas.List.{at_drop_more, map-append, take_more}
use Rattle.std.proofs.lemmas.List.Elements.{All-append, All-cons, All-head, All-nil, All-tail}
use Rattle.day_model.specs.Fit.{is_side}
use Rattle.day_model.specs.declared.pay.Leg.{Leg}
use Rattle.day_model.specs.declared.pay.Side.{Side}
use Rattle.day_model.specs.declared.pay.Side.TheVariants.{Credit, Debit}
use Rattle.day_model.proofs.laws.Changes.{filter-append}
use Rattle.pay_returns.specs.Equal.{is_leg}
use Rattle.pay_returns.specs.Opposite.{on_side, opposite_leg}
use Rattle.pay_returns.specs.inner.Opposite.{AreByteQuotes}
use Rattle.pay_returns.specs.References.{IsByteQuote}
use Rattle.pay_returns.specs.inner.Texts.{after_all}

-- what stands after two lists
pub after-both : {A : Type 0} (same : A → A → Bool) (front back xs : List A) → after_all same (front ++ back) xs ≡ option_and_then (after_all same back) (after_all same front xs)
after-both same [] back xs = refl
after-both same (y ∷ front) back [] = refl
after-both same (y ∷ front) back (x ∷ xs) =
    elim (cases_Bool (same x y)) [
      | inl met ↦ rw met (after-both same front back xs)
      | inr unmet ↦ rw unmet refl
    ]

-- the opposites of legs on one side
abbrev pub opposites : ℕ → Side → List Leg → List Leg
opposites place side legs = map (opposite_leg place) (on_side side legs)

pub opposites-both : (place : ℕ) (side : Side) (front back : List Leg) → opposites place side (front ++ back) ≡ opposites place side front ++ opposites place side back
opposites-both place side front back =
    ap (map (opposite_leg place)) (filter-append (λ (x : Leg). is_side side x.side) front back) ∙ map-append (opposite_leg place) (on_side side front) (on_side side back)

module _ (place : ℕ) (side : Side) (legs : List Leg) (k : ℕ) (leg : Leg) (lt : k < length legs) (is : leg ≡ get_or legs k leg) where
  -- the legs up to this one
  opposites-more : opposites place side (take (k + 1) legs) ≡ opposites place side (take k legs) ++ opposites place side (leg ∷ [])
  opposites-more =
      ap (opposites place side) (take_more legs k leg lt ∙ ap (λ (x : Leg). take k legs ++ x ∷ []) (sym is)) ∙ opposites-both place side (take k legs) (leg ∷ [])

  pub pushed-more : (old out new : List Leg) → out ≡ old ++ opposites place side (take k legs) → new ≡ out ++ opposites place side (leg ∷ []) → new ≡ old ++ opposites place side (take (k + 1) legs)
  pushed-more old out new so_far added =
      added ∙ ap (λ (xs : List Leg). xs ++ opposites place side (leg ∷ [])) so_far
      ∙ append_assoc old (opposites place side (take k legs)) (opposites place side (leg ∷ []))
      ∙ ap (λ (xs : List Leg). old ++ xs) (sym opposites-more)

  -- quotes up to this one
  pub bytes-more : AreByteQuotes (on_side side (take k legs)) → AreByteQuotes (on_side side (leg ∷ [])) → AreByteQuotes (on_side side (take (k + 1) legs))
  bytes-more so_far here =
      let more : on_side side (take (k + 1) legs) ≡ on_side side (take k legs) ++ on_side side (leg ∷ []) =
      ap (on_side side) (take_more legs k leg lt ∙ ap (λ (x : Leg). take k legs ++ x ∷ []) (sym is)) ∙ filter-append (λ (x : Leg). is_side side x.side) (take k legs) (leg ∷ []) in
      subst AreByteQuotes (sym more) (All-append (λ (x : Leg). IsByteQuote x.quote) (on_side side (take k legs)) (on_side side (leg ∷ [])) so_far here)

  -- those from this one on
  from-here : opposites place side (drop k legs) ≡ opposites place side (leg ∷ []) ++ opposites place side (drop (k + 1) legs)
  from-here =
      at_drop_more (opposites place side) legs k leg lt ∙ ap (λ (x : Leg). opposites place side (x ∷ drop (k + 1) legs)) (sym is)
      ∙ opposites-both place side (leg ∷ []) (drop (k + 1) legs)

  pub after-more : (rest : List Leg) (o : Option (List Leg)) → after_all is_leg (opposites place side (leg ∷ [])) rest ≡ o
      → after_all is_leg (opposites place side (drop k legs)) rest ≡ option_and_then (after_all is_leg (opposites place side (drop (k + 1) legs))) o
  after-more rest o e =
      ap (λ (ls : List Leg). after_all is_leg ls rest) from-here
      ∙ after-both is_leg (opposites place side (leg ∷ [])) (opposites place side (drop (k + 1) legs)) rest
      ∙ ap (option_and_then (after_all is_leg (opposites place side (drop (k + 1) legs)))) e

-- what holds of the legs on both sides holds of all
module _ (P : Leg → Type 0) where
  one-side : (leg : Leg) (side : Side) (credits debits legs : List Leg) → (All P credits → All P debits → All P legs)
      → All P (cond (is_side Credit side) (leg ∷ credits) credits) → All P (cond (is_side Debit side) (leg ∷ debits) debits) → All P (leg ∷ legs)
  one-side leg Credit credits debits legs rest c d = All-cons P leg legs (All-head P leg credits c) (rest (All-tail P leg credits c) d)
  one-side leg Debit credits debits legs rest c d = All-cons P leg legs (All-head P leg debits d) (rest c (All-tail P leg debits d))

  pub both-sides-hold : (legs : List Leg) → All P (on_side Credit legs) → All P (on_side Debit legs) → All P legs
  both-sides-hold [] c d = All-nil P
  both-sides-hold (leg ∷ legs) c d = one-side leg leg.side (on_side Credit legs) (on_side Debit legs) legs (both-sides-hold legs) c d
