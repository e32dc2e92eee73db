-- The test by which two pays are compared decides their equality.
use Rattle.std.proofs.Common.{◌≡◌, ◌==◌, ℕ, ◌&&◌, Bool, true, List, [], ◌∷◌, Option, Some, None, ℤ, refl, ap, subst, arith}
use Rattle.std.specs.Ordering.{int_eq}
use Rattle.std.specs.Str.{bytes_eq}
use Rattle.std.proofs.lemmas.Bool.{and_from, and_parts, eq-eqb, eqb-true, false≢true}
use Rattle.std.proofs.lemmas.Int.{ints}
use Rattle.std.proofs.lemmas.Slice.Eq.{bytes_eq-Decides}
use Rattle.corr_ids.specs.declared.bic.Bic.{Bic}
use Rattle.corr_ids.specs.declared.uetr.Uetr.{Uetr}
use Rattle.day_model.specs.Fit.{is_side}
use Rattle.day_model.specs.Same.{is_mt, is_same_uetr}
use Rattle.day_model.specs.declared.pay.Leg.{Leg}
use Rattle.day_model.specs.declared.pay.Mt.{Mt}
use Rattle.day_model.specs.declared.pay.Mt.TheVariants.{Cover, Transfer}
use Rattle.day_model.specs.declared.pay.Order.{Order}
use Rattle.day_model.specs.declared.pay.Order.TheVariants as order
use Rattle.day_model.specs.declared.pay.Pay.{Pay}
use Rattle.day_model.specs.declared.pay.Quote.{Quote}
use Rattle.day_model.specs.declared.pay.Quote.TheVariants.{Ours, Theirs}
use Rattle.day_model.specs.declared.pay.Side.{Side}
use Rattle.day_model.specs.declared.pay.Side.TheVariants.{Credit, Debit}
use Rattle.day_model.specs.declared.pay.Skip.{Skip}
use Rattle.day_model.specs.declared.pay.Skip.TheVariants.{Both, Keep, Mid}
use Rattle.pay_returns.specs.Equal.{EqualDecides, are_all, is_bank, is_bank_or_none, is_equal, is_leg, is_order, is_quote, is_skip}

-- what a test takes for the same is equal, and each is the same as itself
pub record Decided {A : Type 0} (same : A → A → Bool) : Type 0 where
  pub equal : (a b : A) → same a b ≡ true → a ≡ b
  pub itself : (a : A) → same a a ≡ true

bytes-itself : (a : List ℕ) → bytes_eq a a ≡ true
bytes-itself a = (bytes_eq-Decides a a).1 refl

bytes-equal : (a b : List ℕ) → bytes_eq a b ≡ true → a ≡ b
bytes-equal a b e = (bytes_eq-Decides a b).0 e

number-itself : (n : ℕ) → (n == n) ≡ true
number-itself n = eq-eqb n n refl

side-equal : (a b : Side) → is_side a b ≡ true → a ≡ b
side-equal Debit Debit e = refl
side-equal Credit Credit e = refl
side-equal Debit Credit e = absurd (false≢true e)
side-equal Credit Debit e = absurd (false≢true e)

side-itself : (a : Side) → is_side a a ≡ true
side-itself Debit = refl
side-itself Credit = refl

quote-equal : (a b : Quote) → is_quote a b ≡ true → a ≡ b
quote-equal (Theirs a) (Theirs b) e = ap (λ (t : List ℕ). Theirs t) (bytes-equal a b e)
quote-equal (Ours j) (Ours k) e = ap (λ (n : ℕ). Ours n) (eqb-true j k e)
quote-equal (Theirs a) (Ours k) e = absurd (false≢true e)
quote-equal (Ours j) (Theirs b) e = absurd (false≢true e)

quote-itself : (a : Quote) → is_quote a a ≡ true
quote-itself (Theirs a) = bytes-itself a
quote-itself (Ours k) = number-itself k

leg-equal : (a b : Leg) → is_leg a b ≡ true → a ≡ b
leg-equal a b e =
    let third = and_parts ((a.account.0 == b.account.0) && is_side a.side b.side && (a.amount.0 == b.amount.0)) (is_quote a.quote b.quote) e in
    let second = and_parts ((a.account.0 == b.account.0) && is_side a.side b.side) (a.amount.0 == b.amount.0) third.0 in
    let first = and_parts (a.account.0 == b.account.0) (is_side a.side b.side) second.0 in
    let account = eqb-true a.account.0 b.account.0 first.0 in
    let side = side-equal a.side b.side first.1 in
    let amount = eqb-true a.amount.0 b.amount.0 second.1 in
    let quote = quote-equal a.quote b.quote third.1 in
    λ i. record { account = record { 0 = account i }; side = side i; amount = record { 0 = amount i }; quote = quote i }

leg-itself : (a : Leg) → is_leg a a ≡ true
leg-itself a =
    and_from ((a.account.0 == a.account.0) && is_side a.side a.side && (a.amount.0 == a.amount.0)) (is_quote a.quote a.quote)
    (and_from ((a.account.0 == a.account.0) && is_side a.side a.side) (a.amount.0 == a.amount.0)
    (and_from (a.account.0 == a.account.0) (is_side a.side a.side) (number-itself a.account.0) (side-itself a.side)) (number-itself a.amount.0))
    (quote-itself a.quote)

pub leg-decided : Decided is_leg
leg-decided = record { equal = leg-equal; itself = leg-itself }

bank-equal : (a b : Bic) → is_bank a b ≡ true → a ≡ b
bank-equal a b e =
    let parts = and_parts (bytes_eq a.head b.head) (bytes_eq a.branch b.branch) e in
    let head = bytes-equal a.head b.head parts.0 in
    let branch = bytes-equal a.branch b.branch parts.1 in
    λ i. record { head = head i; branch = branch i }

bank-itself : (a : Bic) → is_bank a a ≡ true
bank-itself a = and_from (bytes_eq a.head a.head) (bytes_eq a.branch a.branch) (bytes-itself a.head) (bytes-itself a.branch)

via-equal : (a b : Option Bic) → is_bank_or_none a b ≡ true → a ≡ b
via-equal (Some a) (Some b) e = ap (λ (x : Bic). Some x) (bank-equal a b e)
via-equal None None e = refl
via-equal (Some a) None e = absurd (false≢true e)
via-equal None (Some b) e = absurd (false≢true e)

via-itself : (a : Option Bic) → is_bank_or_none a a ≡ true
via-itself (Some a) = bank-itself a
via-itself None = refl

skip-equal : (a b : Skip) → is_skip a b ≡ true → a ≡ b
skip-equal Keep Keep e = refl
skip-equal Mid Mid e = refl
skip-equal Both Both e = refl
skip-equal Keep Mid e = absurd (false≢true e)
skip-equal Keep Both e = absurd (false≢true e)
skip-equal Mid Keep e = absurd (false≢true e)
skip-equal Mid Both e = absurd (false≢true e)
skip-equal Both Keep e = absurd (false≢true e)
skip-equal Both Mid e = absurd (false≢true e)

skip-itself : (a : Skip) → is_skip a a ≡ true
skip-itself Keep = refl
skip-itself Mid = refl
skip-itself Both = refl

order-equal : (a b : Order) → is_order a b ≡ true → a ≡ b
order-equal (order.Transfer to skip via) (order.Transfer bank other mid) e =
    let last = and_parts (is_bank to bank && is_skip skip other) (is_bank_or_none via mid) e in
    let parts = and_parts (is_bank to bank) (is_skip skip other) last.0 in
    let t = bank-equal to bank parts.0 in
    let s = skip-equal skip other parts.1 in
    let v = via-equal via mid last.1 in
    λ i. order.Transfer (t i) (s i) (v i)
order-equal (order.Cover to end skip) (order.Cover bank last other) e =
    let outer = and_parts (is_bank to bank && is_bank end last) (is_skip skip other) e in
    let parts = and_parts (is_bank to bank) (is_bank end last) outer.0 in
    let t = bank-equal to bank parts.0 in
    let n = bank-equal end last parts.1 in
    let s = skip-equal skip other outer.1 in
    λ i. order.Cover (t i) (n i) (s i)
order-equal (order.Pass to skip) (order.Pass bank other) e =
    let parts = and_parts (is_bank to bank) (is_skip skip other) e in
    let t = bank-equal to bank parts.0 in
    let s = skip-equal skip other parts.1 in
    λ i. order.Pass (t i) (s i)
order-equal (order.Debit to leg) (order.Debit bank other) e =
    let parts = and_parts (is_bank to bank) (leg == other) e in
    let t = bank-equal to bank parts.0 in
    let n = eqb-true leg other parts.1 in
    λ i. order.Debit (t i) (n i)
order-equal (order.Credit to leg) (order.Credit bank other) e =
    let parts = and_parts (is_bank to bank) (leg == other) e in
    let t = bank-equal to bank parts.0 in
    let n = eqb-true leg other parts.1 in
    λ i. order.Credit (t i) (n i)
order-equal (order.Transfer to skip via) (order.Cover bank last other) e = absurd (false≢true e)
order-equal (order.Transfer to skip via) (order.Pass bank other) e = absurd (false≢true e)
order-equal (order.Transfer to skip via) (order.Debit bank other) e = absurd (false≢true e)
order-equal (order.Transfer to skip via) (order.Credit bank other) e = absurd (false≢true e)
order-equal (order.Cover to end skip) (order.Transfer bank other mid) e = absurd (false≢true e)
order-equal (order.Cover to end skip) (order.Pass bank other) e = absurd (false≢true e)
order-equal (order.Cover to end skip) (order.Debit bank other) e = absurd (false≢true e)
order-equal (order.Cover to end skip) (order.Credit bank other) e = absurd (false≢true e)
order-equal (order.Pass to skip) (order.Transfer bank other mid) e = absurd (false≢true e)
order-equal (order.Pass to skip) (order.Cover bank last other) e = absurd (false≢true e)
order-equal (order.Pass to skip) (order.Debit bank other) e = absurd (false≢true e)
order-equal (order.Pass to skip) (order.Credit bank other) e = absurd (false≢true e)
order-equal (order.Debit to leg) (order.Transfer bank other mid) e = absurd (false≢true e)
order-equal (order.Debit to leg) (order.Cover bank last other) e = absurd (false≢true e)
order-equal (order.Debit to leg) (order.Pass bank other) e = absurd (false≢true e)
order-equal (order.Debit to leg) (order.Credit bank other) e = absurd (false≢true e)
order-equal (order.Credit to leg) (order.Transfer bank other mid) e = absurd (false≢true e)
order-equal (order.Credit to leg) (order.Cover bank last other) e = absurd (false≢true e)
order-equal (order.Credit to leg) (order.Pass bank other) e = absurd (false≢true e)
order-equal (order.Credit to leg) (order.Debit bank other) e = absurd (false≢true e)

order-itself : (a : Order) → is_order a a ≡ true
order-itself (order.Transfer to skip via) =
    and_from (is_bank to to && is_skip skip skip) (is_bank_or_none via via) (and_from (is_bank to to) (is_skip skip skip) (bank-itself to) (skip-itself skip)) (via-itself via)
order-itself (order.Cover to end skip) =
    and_from (is_bank to to && is_bank end end) (is_skip skip skip) (and_from (is_bank to to) (is_bank end end) (bank-itself to) (bank-itself end)) (skip-itself skip)
order-itself (order.Pass to skip) = and_from (is_bank to to) (is_skip skip skip) (bank-itself to) (skip-itself skip)
order-itself (order.Debit to leg) = and_from (is_bank to to) (leg == leg) (bank-itself to) (number-itself leg)
order-itself (order.Credit to leg) = and_from (is_bank to to) (leg == leg) (bank-itself to) (number-itself leg)

pub order-decided : Decided is_order
order-decided = record { equal = order-equal; itself = order-itself }

module _ {A : Type 0} (same : A → A → Bool) (decided : Decided same) where
  pub all-equal : (xs ys : List A) → are_all same xs ys ≡ true → xs ≡ ys
  all-equal [] [] e = refl
  all-equal [] (y ∷ ys) e = absurd (false≢true e)
  all-equal (x ∷ xs) [] e = absurd (false≢true e)
  all-equal (x ∷ xs) (y ∷ ys) e =
      let parts = and_parts (same x y) (are_all same xs ys) e in
      let first = decided.equal x y parts.0 in
      let rest = all-equal xs ys parts.1 in
      λ i. first i ∷ rest i

  pub all-itself : (xs : List A) → are_all same xs xs ≡ true
  all-itself [] = refl
  all-itself (x ∷ xs) = and_from (same x x) (are_all same xs xs) (decided.itself x) (all-itself xs)

mt-equal : (a b : Mt) → is_mt a b ≡ true → a ≡ b
mt-equal Transfer Transfer e = refl
mt-equal Cover Cover e = refl
mt-equal Transfer Cover e = absurd (false≢true e)
mt-equal Cover Transfer e = absurd (false≢true e)

mt-itself : (a : Mt) → is_mt a a ≡ true
mt-itself Transfer = refl
mt-itself Cover = refl

uetr-equal : (a b : Option Uetr) → is_same_uetr a b ≡ true → a ≡ b
uetr-equal (Some a) (Some b) e = let same = bytes-equal a.0 b.0 e in λ i. Some (record { 0 = same i })
uetr-equal None None e = refl
uetr-equal (Some a) None e = absurd (false≢true e)
uetr-equal None (Some b) e = absurd (false≢true e)

uetr-itself : (a : Option Uetr) → is_same_uetr a a ≡ true
uetr-itself (Some a) = bytes-itself a.0
uetr-itself None = refl

day-equal : (a b : ℤ) → int_eq a b ≡ true → a ≡ b
day-equal a b e = grind (arith, ints)

day-itself : (a : ℤ) → int_eq a a ≡ true
day-itself a = grind (arith, ints)

pay-equal : (p q : Pay) → is_equal p q ≡ true → p ≡ q
pay-equal p q e =
    let six : Bool = bytes_eq p.mir.0 q.mir.0 && is_mt p.mt q.mt && is_same_uetr p.uetr q.uetr && bytes_eq p.text q.text && int_eq p.value.0 q.value.0 && are_all is_leg p.legs q.legs in
    let five : Bool = bytes_eq p.mir.0 q.mir.0 && is_mt p.mt q.mt && is_same_uetr p.uetr q.uetr && bytes_eq p.text q.text && int_eq p.value.0 q.value.0 in
    let four : Bool = bytes_eq p.mir.0 q.mir.0 && is_mt p.mt q.mt && is_same_uetr p.uetr q.uetr && bytes_eq p.text q.text in
    let three : Bool = bytes_eq p.mir.0 q.mir.0 && is_mt p.mt q.mt && is_same_uetr p.uetr q.uetr in
    let a = and_parts six (are_all is_order p.orders q.orders) e in
    let b = and_parts five (are_all is_leg p.legs q.legs) a.0 in
    let c = and_parts four (int_eq p.value.0 q.value.0) b.0 in
    let d = and_parts three (bytes_eq p.text q.text) c.0 in
    let f = and_parts (bytes_eq p.mir.0 q.mir.0 && is_mt p.mt q.mt) (is_same_uetr p.uetr q.uetr) d.0 in
    let g = and_parts (bytes_eq p.mir.0 q.mir.0) (is_mt p.mt q.mt) f.0 in
    let mir = bytes-equal p.mir.0 q.mir.0 g.0 in
    let mt = mt-equal p.mt q.mt g.1 in
    let uetr = uetr-equal p.uetr q.uetr f.1 in
    let text = bytes-equal p.text q.text d.1 in
    let value = day-equal p.value.0 q.value.0 c.1 in
    let legs = all-equal is_leg leg-decided p.legs q.legs b.1 in
    let orders = all-equal is_order order-decided p.orders q.orders a.1 in
    λ i. record { mir = record { 0 = mir i }; mt = mt i; uetr = uetr i; text = text i; value = record { 0 = value i }; legs = legs i; orders = orders i }

pay-itself : (p : Pay) → is_equal p p ≡ true
pay-itself p =
    let two : Bool = bytes_eq p.mir.0 p.mir.0 && is_mt p.mt p.mt in
    let three : Bool = two && is_same_uetr p.uetr p.uetr in
    let four : Bool = three && bytes_eq p.text p.text in
    let five : Bool = four && int_eq p.value.0 p.value.0 in
    let six : Bool = five && are_all is_leg p.legs p.legs in
    and_from six (are_all is_order p.orders p.orders)
    (and_from five (are_all is_leg p.legs p.legs)
    (and_from four (int_eq p.value.0 p.value.0)
    (and_from three (bytes_eq p.text p.text)
    (and_from two (is_same_uetr p.uetr p.uetr)
    (and_from (bytes_eq p.mir.0 p.mir.0) (is_mt p.mt p.mt) (bytes-itself p.mir.0) (mt-itself p.mt))
    (uetr-itself p.uetr)) (bytes-itself p.text)) (day-itself p.value.0)) (all-itself is_leg leg-decided p.legs)) (all-itself is_order order-decided p.orders)

pub equal-decides : EqualDecides
equal-decides p q = (pay-equal p q, λ e. subst (λ (x : Pay). is_equal p x ≡ true) e (pay-itself p))
