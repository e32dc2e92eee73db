-- The accounts of a pay, held in rising order.
use Rattle.std.proofs.Common.{◌≡◌, ◌⊎◌, ⊎_elim, inl, inr, ℕ, ◌<◌, ◌≤◌, All, List, [], ◌∷◌, sym, ap, ◌∙◌, subst, arith}
use Rattle.std.proofs.lemmas.List.Elements.{All-weaker}
use Rattle.acct_locks.specs.Holdings.{EachOnce, Hand, Holding, Holds, HoldsOnce, Takes}
use Rattle.day_model.specs.declared.pay.Leg.{Leg}
use Rattle.day_model.specs.Chart.{Chart}
use Rattle.jrn_book.specs.Deciding.{HoldsAll}
use Rattle.corr_books.specs.inner.Numbers.{AreRising, IsOneOf}

-- each account that is held is at most n, and is held once
record IsHeldUpTo (n : ℕ) (held : List Holding) : Type 0 where
  most : (m : ℕ) → Holds held m → m ≤ n
  once : EachOnce held

none_held : IsHeldUpTo 0 []
none_held = record { most = λ m it. absurd it; once = λ m it. absurd it }

-- so it is with a greater account
one_more : (low n : ℕ) (h : Holding) (held : List Holding) → IsHeldUpTo low held → low < n → h.number ≡ n → IsHeldUpTo n (h ∷ held)
one_more low n h held up less is = record {
  most = λ m it. ⊎_elim (λ (here : h.number ≡ m). omega (arith, is, here)) (λ (below : Holds held m). let b = up.most m below in omega (arith, b, less)) it;
  once = λ m it. ⊎_elim
      (λ (here : h.number ≡ m). inl (here, λ again. let b = up.most m again in absurd (omega (arith, b, less, is, here))))
      (λ (below : Holds held m). let b = up.most m below in inr ((λ same. absurd (omega (arith, b, less, is, same))), up.once m below))
      it;
}

-- numbers that are all held hold all legs on them
all_held : (legs : List Leg) (numbers : List ℕ) (n : ℕ) (held : List Holding) → All (λ leg. IsOneOf numbers leg.account.0) legs → IsHeldUpTo n held
    → ((m : ℕ) → IsOneOf numbers m → Holds held m) → HoldsAll held legs
all_held legs numbers n held are up has =
    All-weaker (λ leg. IsOneOf numbers leg.account.0) (λ leg. HoldsOnce held leg.account.0) (λ leg it. up.once leg.account.0 (has leg.account.0 it)) legs are

-- what is held after one more
held_then : (hand next : Hand) (held : List Holding) (n : ℕ) → hand.held ≡ held → (taken : Takes hand n next) → next.held ≡ taken.0 ∷ held
held_then hand next held n is taken = ap (λ (h : Hand). h.held) taken.2 ∙ ap (λ (l : List Holding). taken.0 ∷ l) is

module _ (chart : Chart) (legs : List Leg) (low next : ℕ) (none one two : Hand) (empty : none.held ≡ []) (first : Takes none low one) (second : Takes one next two) where
  both : two.held ≡ second.0 ∷ first.0 ∷ []
  both = held_then one two (first.0 ∷ []) next (held_then none one [] low empty first) second

  up_to_next : 0 < low → low < next → IsHeldUpTo next (second.0 ∷ first.0 ∷ [])
  up_to_next above less = one_more low next second.0 (first.0 ∷ []) (one_more 0 low first.0 [] none_held above first.1) less second.1

  -- either of them is held
  either : (m : ℕ) → IsOneOf (low ∷ next ∷ []) m → Holds (second.0 ∷ first.0 ∷ []) m
  either m it =
      ⊎_elim
      (λ (is : low ≡ m). inr (inl (first.1 ∙ is)))
      (λ (on : (next ≡ m) ⊎ ⊥). ⊎_elim (λ (is : next ≡ m). inl (second.1 ∙ is)) (λ (no : ⊥). absurd no) on)
      it

  -- two purses, taken in rising order, hold the accounts of two legs
  pub holds_two : AreRising chart legs (low ∷ next ∷ []) → HoldsAll two.held legs
  holds_two are =
      let rise = are.rise in
      subst (λ (l : List Holding). HoldsAll l legs) (sym both)
      (all_held legs (low ∷ next ∷ []) next (second.0 ∷ first.0 ∷ []) are.are (up_to_next rise.0 rise.2.0) either)

  -- and with a third those of three
  pub holds_three : (last : ℕ) (three : Hand) → AreRising chart legs (low ∷ next ∷ last ∷ []) → Takes two last three → HoldsAll three.held legs
  holds_three last three are third =
      let rise = are.rise in
      let held : three.held ≡ third.0 ∷ second.0 ∷ first.0 ∷ [] = held_then two three (second.0 ∷ first.0 ∷ []) last both third in
      let up = one_more next last third.0 (second.0 ∷ first.0 ∷ []) (up_to_next rise.0 rise.2.0) rise.2.2.0 third.1 in
      let has = λ (m : ℕ) (it : IsOneOf (low ∷ next ∷ last ∷ []) m). ⊎_elim
      (λ (is : low ≡ m). inr (either m (inl is)))
      (λ (on : (next ≡ m) ⊎ ((last ≡ m) ⊎ ⊥)). ⊎_elim
      (λ (is : next ≡ m). inr (either m (inr (inl is))))
      (λ (on : (last ≡ m) ⊎ ⊥). ⊎_elim (λ (is : last ≡ m). inl (third.1 ∙ is)) (λ (no : ⊥). absurd no) on)
      on)
      it in
      subst (λ (l : List Holding). HoldsAll l legs) (sym held)
      (all_held legs (low ∷ next ∷ last ∷ []) last (third.0 ∷ second.0 ∷ first.0 ∷ []) are.are up has)
