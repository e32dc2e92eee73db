-- The payments of a history, and whether the next entry takes one back.
use Rattle.std.proofs.Common.{◌≡◌, ℕ, zero, suc, ◌+◌, ◌-◌, ◌<◌, ◌≤◌, ◌&&◌, Bool, true, false, cond, not, List, [], ◌∷◌, ◌++◌, Option, Some, None, length, take, refl, sym, ap, ◌∙◌, arith, inl, inr, length-append, append_assoc}
use Rattle.std.specs.Prelude.{◌⊎◌, is_some, option_and_then, slice_get}
use Rattle.std.proofs.lemmas.Bool.{le-leb, lt-leb}
use Rattle.std.proofs.lemmas.List.{append-nil, take_at}
use Rattle.std.proofs.lemmas.Option.{none-some, same_Some, slice_get_past}
use Rattle.day_model.specs.Balance.{is_booked}
use Rattle.day_model.specs.Chart.{Chart}
use Rattle.day_model.specs.declared.entry.Entry.{Entry}
use Rattle.pay_returns.specs.Equal.{is_equal}
use Rattle.pay_returns.specs.Opposite.{opposite_of, opposite_pay, origin_of}
use Rattle.pay_returns.specs.Returns.{is_opposite, named_place, next_tag, opposed_at, opposed_by, tag_at, tagged_of}
use Rattle.pay_returns.specs.declared.origin.Origin.{Origin}
use Rattle.pay_returns.proofs.laws.Tagging.{returns-step}
use Rattle.statement.specs.Index.{is_next_return, payment_of, payments_from, payments_of}
use Rattle.statement.specs.Lines.{is_return}

-- ---- the entry at a place

here-get : {A : Type 0} (front : List A) (x : A) (back : List A) → slice_get (front ++ x ∷ back) (length front) ≡ Some x
here-get [] x back = refl
here-get (y ∷ front) x back = here-get front x back

-- the entry after others is a return exactly where it is one among all
pub next-return : (chart : Chart) (before after : List Entry) (entry : Entry) (all : List Entry) → all ≡ before ++ entry ∷ after → is_next_return chart before entry ≡ is_return chart all (length before + 1)
next-return chart before after entry all whole =
    let place : length before + 1 - 1 ≡ length before = omega arith in
    let at : slice_get all (length before + 1 - 1) ≡ Some entry =
    ap (λ (k : ℕ). slice_get all k) place ∙ ap (λ (es : List Entry). slice_get es (length before)) whole ∙ here-get before entry after in
    let front : take (length before + 1 - 1) all ≡ before =
    ap (λ (k : ℕ). take k all) place ∙ ap (take (length before)) whole ∙ take_at before (entry ∷ after) (length before) refl in
    sym (ap is_some (returns-step chart all (length before + 1) entry (omega arith) at ∙ ap (λ (es : List Entry). next_tag chart es (tagged_of chart es) entry.pay) front))

-- ---- the payments

module _ (chart : Chart) where
  payments-append : (before front back : List Entry) → payments_from chart before (front ++ back) ≡ payments_from chart before front ++ payments_from chart (before ++ front) back
  payments-append before [] back = ap (λ (es : List Entry). payments_from chart es back) (sym (append-nil before))
  payments-append before (entry ∷ front) back =
      ap (λ (os : List (Option Origin)). payment_of chart before entry ∷ os)
      (payments-append (before ++ entry ∷ []) front back
      ∙ ap (λ (es : List Entry). payments_from chart (before ++ entry ∷ []) front ++ payments_from chart es back) (append_assoc before (entry ∷ []) front))

  -- an entry more has one payment more, or none at its place
  pub payments-more : (entries : List Entry) (entry : Entry) → payments_of chart (entries ++ entry ∷ []) ≡ payments_of chart entries ++ payment_of chart entries entry ∷ []
  payments-more entries entry = payments-append [] entries (entry ∷ [])

  payments-size : (before entries : List Entry) → length (payments_from chart before entries) ≡ length entries
  payments-size before [] = refl
  payments-size before (entry ∷ entries) = ap suc (payments-size (before ++ entry ∷ []) entries)

  pub payments-length : (entries : List Entry) → length (payments_of chart entries) ≡ length entries
  payments-length entries = payments-size [] entries

  payment-from : (all before entries : List Entry) (i : ℕ) (entry : Entry) → all ≡ before ++ entries → slice_get entries i ≡ Some entry
      → slice_get (payments_from chart before entries) i ≡ Some (cond (is_booked entry.outcome && not (is_return chart all (length before + i + 1))) (Some (origin_of entry)) None)
  payment-from all before [] i entry whole at = absurd (none-some entry at)
  payment-from all before (x ∷ entries) zero entry whole at =
      let same = same_Some x entry at in
      let place : length before + 1 ≡ length before + 0 + 1 = omega arith in
      ap (λ (b : Bool). Some (cond (is_booked x.outcome && not b) (Some (origin_of x)) None)) (next-return chart before entries x all whole ∙ ap (is_return chart all) place)
      ∙ ap (λ (e : Entry). Some (cond (is_booked e.outcome && not (is_return chart all (length before + 0 + 1))) (Some (origin_of e)) None)) same
  payment-from all before (x ∷ entries) (suc i) entry whole at =
      let place : length (before ++ x ∷ []) + i + 1 ≡ length before + suc i + 1 = omega (arith, length-append before (x ∷ [])) in
      payment-from all (before ++ x ∷ []) entries i entry (whole ∙ sym (append_assoc before (x ∷ []) entries)) at
      ∙ ap (λ (k : ℕ). Some (cond (is_booked entry.outcome && not (is_return chart all k)) (Some (origin_of entry)) None)) place

  -- what the payments have at a place: what a return takes over, if a payment stands there
  pub payment-at : (entries : List Entry) (i : ℕ) (entry : Entry) → slice_get entries i ≡ Some entry
      → slice_get (payments_of chart entries) i ≡ Some (cond (is_booked entry.outcome && not (is_return chart entries (i + 1))) (Some (origin_of entry)) None)
  payment-at entries i entry at =
      let place : 0 + i + 1 ≡ i + 1 = omega arith in
      payment-from entries [] entries i entry refl at
      ∙ ap (λ (k : ℕ). Some (cond (is_booked entry.outcome && not (is_return chart entries k)) (Some (origin_of entry)) None)) place

-- ---- whether the next entry takes one back

took-tests : (b e t : Bool) (n : ℕ) → is_some (option_and_then (λ (place : ℕ). cond t None (Some place)) (cond (b && e) (Some n) None)) ≡ ((b && not t) && e)
took-tests true true true n = refl
took-tests true true false n = refl
took-tests true false true n = refl
took-tests true false false n = refl
took-tests false e t n = refl

some-payment : (b : Bool) (origin own : Origin) → cond b (Some own) None ≡ Some origin → (b ≡ true) × (own ≡ origin)
some-payment true origin own e = (refl, same_Some own origin e)
some-payment false origin own e = absurd (none-some origin e)

no-payment : (b : Bool) (own : Origin) → cond b (Some own) None ≡ None → b ≡ false
no-payment true own e = absurd (none-some own (sym e))
no-payment false own e = refl

module _ (chart : Chart) (entries : List Entry) (entry : Entry) where
  pub takes-unnamed : named_place entry.pay ≡ None → is_next_return chart entries entry ≡ false
  takes-unnamed none = rw none refl

  pub takes-out : (n : ℕ) → named_place entry.pay ≡ Some n → (n ≡ 0) ⊎ (length entries < n) → is_next_return chart entries entry ≡ false
  takes-out n named out =
      elim out [
        | inl nothing ↦ rw (named, lt-leb 1 n (omega (arith, nothing))) refl
        | inr past ↦ rw (named, le-leb 1 n (omega (arith, past)), slice_get_past entries (n - 1) (omega (arith, past))) refl
      ]

  -- a payment stands at the place that it names
  module _ (n : ℕ) (origin : Entry) (named : named_place entry.pay ≡ Some n) (from : 1 ≤ n) (there : slice_get entries (n - 1) ≡ Some origin) where
    takes-is : is_next_return chart entries entry ≡ ((is_booked origin.outcome && not (is_return chart entries n)) && is_equal entry.pay (opposite_of chart origin n entry.pay.value))
    takes-is =
        let opposed : opposed_by chart entries entry.pay ≡ cond (is_opposite chart origin n entry.pay) (Some n) None =
        ap (option_and_then (opposed_at chart entries entry.pay)) named ∙ rw (le-leb 1 n from, there) refl in
        by-place (opposed_by chart entries entry.pay) opposed
        ∙ took-tests (is_booked origin.outcome) (is_equal entry.pay (opposite_of chart origin n entry.pay.value)) (is_return chart entries n) n
      where
        by-place : (o : Option ℕ) → o ≡ cond (is_opposite chart origin n entry.pay) (Some n) None
            → is_some (option_and_then (λ (place : ℕ). cond (is_some (tag_at (tagged_of chart entries) place)) None (Some place)) o)
            ≡ is_some (option_and_then (λ (place : ℕ). cond (is_return chart entries n) None (Some place)) (cond (is_opposite chart origin n entry.pay) (Some n) None))
        by-place o e = rw e (at-n (is_opposite chart origin n entry.pay))
          where
            at-n : (b : Bool) → is_some (option_and_then (λ (place : ℕ). cond (is_some (tag_at (tagged_of chart entries) place)) None (Some place)) (cond b (Some n) None))
                ≡ is_some (option_and_then (λ (place : ℕ). cond (is_return chart entries n) None (Some place)) (cond b (Some n) None))
            at-n true = refl
            at-n false = refl

    pub takes-none : slice_get (payments_of chart entries) (n - 1) ≡ Some None → is_next_return chart entries entry ≡ false
    takes-none none =
        let place : n - 1 + 1 ≡ n = omega (arith, from) in
        let at : slice_get (payments_of chart entries) (n - 1) ≡ Some (cond (is_booked origin.outcome && not (is_return chart entries n)) (Some (origin_of origin)) None) =
        payment-at chart entries (n - 1) origin there ∙ ap (λ (k : ℕ). Some (cond (is_booked origin.outcome && not (is_return chart entries k)) (Some (origin_of origin)) None)) place in
        let no = no-payment (is_booked origin.outcome && not (is_return chart entries n)) (origin_of origin) (sym (same_Some None _ (sym none ∙ at))) in
        takes-is ∙ rw no refl

    pub takes-some : (own : Origin) → slice_get (payments_of chart entries) (n - 1) ≡ Some (Some own)
        → is_next_return chart entries entry ≡ is_equal entry.pay (opposite_pay chart own n entry.pay.value)
    takes-some own some =
        let place : n - 1 + 1 ≡ n = omega (arith, from) in
        let at : slice_get (payments_of chart entries) (n - 1) ≡ Some (cond (is_booked origin.outcome && not (is_return chart entries n)) (Some (origin_of origin)) None) =
        payment-at chart entries (n - 1) origin there ∙ ap (λ (k : ℕ). Some (cond (is_booked origin.outcome && not (is_return chart entries k)) (Some (origin_of origin)) None)) place in
        let yes = some-payment (is_booked origin.outcome && not (is_return chart entries n)) own (origin_of origin) (sym (same_Some (Some own) _ (sym some ∙ at))) in
        takes-is
        ∙ ap (λ (b : Bool). b && is_equal entry.pay (opposite_of chart origin n entry.pay.value)) yes.0
        ∙ ap (λ (o : Origin). is_equal entry.pay (opposite_pay chart o n entry.pay.value)) yes.1
