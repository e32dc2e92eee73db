-- The return of a pay that fits the accounts fits them.
use Rattle.std.proofs.Common.{◌≡◌, ℕ, ◌+◌, ◌==◌, ◌<◌, ◌≤◌, ◌&&◌, Bool, true, cond, leb, ltb, List, [], ◌∷◌, ◌++◌, get_or, map, length, Option, Some, None, refl, sym, ap, ◌∙◌, subst, arith}
use Rattle.std.specs.Prelude.{not}
use Rattle.std.specs.List.{list_all}
use Rattle.std.proofs.lemmas.Bool.{and_from, and_parts, eq-eqb, eqb-false, false≢true, le-leb, lt-ltb, ne_eqb, not-true}
use Rattle.std.proofs.lemmas.List.Sums.{sum_by-cons}
use Rattle.std.proofs.lemmas.Option.{slice_get-get_or}
use Rattle.std.proofs.lemmas.Slice.Eq.{bytes_eq-Decides}
use Rattle.corr_money.specs.Amounts.{amount_end}
use Rattle.day_model.specs.Chart.{Chart, account_at, accounts_of}
use Rattle.day_model.specs.Fit.{amount_on, are_apart, are_even, are_legs, begin_with_debit, fit_in, has_amount, is_apart_from, is_listed, is_side, legs_fit, same_ccy, side_sum}
use Rattle.day_model.specs.declared.account.Account.{Account}
use Rattle.day_model.specs.declared.pay.Leg.{Leg}
use Rattle.day_model.specs.declared.pay.Side.{Side}
use Rattle.day_model.specs.declared.pay.Side.TheVariants.{Credit, Debit}
use Rattle.day_model.proofs.laws.Fitting.{LegsFit, Sound, fitting}
use Rattle.pay_returns.specs.Laws.{ReturnFits}
use Rattle.pay_returns.specs.Opposite.{on_side, opposite_leg, opposite_legs, opposite_side}
use Rattle.pay_returns.specs.inner.Opposite.{AreListed}
use Rattle.pay_returns.proofs.Effects.{both-sides, opposite-side, sum-both}

-- ---- both sides of a return have what the other side of the payment has

one-amount : (place : ℕ) (side : Side) (leg : Leg) → amount_on side (opposite_leg place leg) ≡ amount_on (opposite_side side) leg
one-amount place side leg = ap (λ (b : Bool). cond b leg.amount.0 0) (opposite-side side leg.side)

all-amounts : (place : ℕ) (side : Side) (legs : List Leg) → side_sum side (map (opposite_leg place) legs) ≡ side_sum (opposite_side side) legs
all-amounts place side [] = refl
all-amounts place side (leg ∷ legs) =
    sum_by-cons (amount_on side) (opposite_leg place leg) (map (opposite_leg place) legs)
    ∙ (λ i. one-amount place side leg i + all-amounts place side legs i)
    ∙ sym (sum_by-cons (amount_on (opposite_side side)) leg legs)

sides-swap : (place : ℕ) (side : Side) (legs : List Leg) → side_sum side (opposite_legs place legs) ≡ side_sum (opposite_side side) legs
sides-swap place side legs =
    all-amounts place side (on_side Credit legs ++ on_side Debit legs)
    ∙ sum-both (amount_on (opposite_side side)) (on_side Credit legs) (on_side Debit legs)
    ∙ both-sides (amount_on (opposite_side side)) legs

even-still : (place : ℕ) (legs : List Leg) → side_sum Debit legs ≡ side_sum Credit legs → are_even (opposite_legs place legs) ≡ true
even-still place legs even =
    eq-eqb (side_sum Debit (opposite_legs place legs)) (side_sum Credit (opposite_legs place legs)) (sides-swap place Debit legs ∙ sym even ∙ sym (sides-swap place Credit legs))

-- ---- tests of legs

amount-of : (chart : Chart) (leg : Leg) → Sound chart leg → has_amount leg ≡ true
amount-of chart leg sound = and_from (ltb 0 leg.amount.0) (ltb leg.amount.0 amount_end) (lt-ltb _ _ sound.above) (lt-ltb _ _ sound.below)

listed-of : (chart : Chart) (leg : Leg) → Sound chart leg → is_listed chart leg.account.0 ≡ true
listed-of chart leg sound =
    and_from (leb 1 leg.account.0) (leb leg.account.0 (length (accounts_of chart))) (le-leb _ _ sound.listed.0) (le-leb _ _ sound.listed.1)

apart-sym : (n m : ℕ) → not (n == m) ≡ true → not (m == n) ≡ true
apart-sym n m e = rw (ne_eqb m n (λ same. eqb-false n m (not-true (n == m) e) (sym same))) refl

ccy-both : (f c x : Option Account) → same_ccy f c ≡ true → same_ccy f x ≡ true → same_ccy c x ≡ true
ccy-both (Some f) (Some c) (Some x) e g =
    (bytes_eq-Decides c.ccy.0 x.ccy.0).1 (sym ((bytes_eq-Decides f.ccy.0 c.ccy.0).0 e) ∙ (bytes_eq-Decides f.ccy.0 x.ccy.0).0 g)
ccy-both (Some f) (Some c) None e g = absurd (false≢true g)
ccy-both (Some f) None x e g = absurd (false≢true e)
ccy-both None c x e g = absurd (false≢true e)

-- debits alone aren't even
abbrev on : Side → Side → ℕ → ℕ
on side own amount = cond (is_side side own) amount 0

two-debits : (s t : Side) (a b : ℕ) → s ≡ Debit → t ≡ Debit → 0 < a → 0 + on Debit s a + on Debit t b ≡ 0 + on Credit s a + on Credit t b → ⊥
two-debits Debit Debit a b is too above even = let same : 0 + a + b ≡ 0 + 0 + 0 = even in omega (arith, same, above)
two-debits Credit t a b is too above even = false≢true (ap (is_side Debit) is)
two-debits Debit Credit a b is too above even = false≢true (ap (is_side Debit) too)

three-debits : (s t u : Side) (a b c : ℕ) → s ≡ Debit → t ≡ Debit → u ≡ Debit → 0 < a
    → 0 + on Debit s a + on Debit t b + on Debit u c ≡ 0 + on Credit s a + on Credit t b + on Credit u c → ⊥
three-debits Debit Debit Debit a b c is too also above even = let same : 0 + a + b + c ≡ 0 + 0 + 0 + 0 = even in omega (arith, same, above)
three-debits Credit t u a b c is too also above even = false≢true (ap (is_side Debit) is)
three-debits Debit Credit u a b c is too also above even = false≢true (ap (is_side Debit) too)
three-debits Debit Debit Credit a b c is too also above even = false≢true (ap (is_side Debit) also)

module _ (chart : Chart) where
  abbrev ccy : Leg → Leg → Bool
  ccy a b = same_ccy (account_at chart a.account.0) (account_at chart b.account.0)

  two-fit : (x y : Leg) → is_side Debit x.side ≡ true → Sound chart x → Sound chart y → is_apart_from x y ≡ true → are_even (x ∷ y ∷ []) ≡ true → ccy x y ≡ true
      → legs_fit chart (x ∷ y ∷ []) ≡ true
  two-fit x y first sx sy xy even cy =
      let legs : List Leg = x ∷ y ∷ [] in
      let number : Bool = leb 2 (length legs) && leb (length legs) 3 in
      let amounts : list_all has_amount legs ≡ true = rw (amount-of chart x sx, amount-of chart y sy) refl in
      let apart : are_apart legs ≡ true = rw xy refl in
      let fit : fit_in (accounts_of chart) legs ≡ true = rw (listed-of chart x sx, listed-of chart y sy, cy) refl in
      and_from (are_legs legs) (fit_in (accounts_of chart) legs)
      (and_from (number && begin_with_debit legs && list_all has_amount legs && are_apart legs) (are_even legs)
      (and_from (number && begin_with_debit legs && list_all has_amount legs) (are_apart legs)
      (and_from (number && begin_with_debit legs) (list_all has_amount legs) (and_from number (begin_with_debit legs) refl first) amounts) apart) even)
      fit

  three-fit : (x y z : Leg) → is_side Debit x.side ≡ true → Sound chart x → Sound chart y → Sound chart z → is_apart_from x y ≡ true → is_apart_from x z ≡ true
      → is_apart_from y z ≡ true → are_even (x ∷ y ∷ z ∷ []) ≡ true → ccy x y ≡ true → ccy x z ≡ true → legs_fit chart (x ∷ y ∷ z ∷ []) ≡ true
  three-fit x y z first sx sy sz xy xz yz even cy cz =
      let legs : List Leg = x ∷ y ∷ z ∷ [] in
      let number : Bool = leb 2 (length legs) && leb (length legs) 3 in
      let amounts : list_all has_amount legs ≡ true = rw (amount-of chart x sx, amount-of chart y sy, amount-of chart z sz) refl in
      let apart : are_apart legs ≡ true = rw (xy, xz, yz) refl in
      let fit : fit_in (accounts_of chart) legs ≡ true = rw (listed-of chart x sx, listed-of chart y sy, cy, listed-of chart z sz, cz) refl in
      and_from (are_legs legs) (fit_in (accounts_of chart) legs)
      (and_from (number && begin_with_debit legs && list_all has_amount legs && are_apart legs) (are_even legs)
      (and_from (number && begin_with_debit legs && list_all has_amount legs) (are_apart legs)
      (and_from (number && begin_with_debit legs) (list_all has_amount legs) (and_from number (begin_with_debit legs) refl first) amounts) apart) even)
      fit

  -- a leg's opposite is as sound as the leg
  sound-opposite : (place : ℕ) (leg : Leg) → Sound chart leg → Sound chart (opposite_leg place leg)
  sound-opposite place leg sound = record { listed = sound.listed; above = sound.above; below = sound.below }

  debit-of : (place : ℕ) (leg : Leg) → leg.side ≡ Credit → is_side Debit (opposite_side leg.side) ≡ true
  debit-of place leg e = rw e refl
      -- ---- the returns of two legs and of three and of three

  of-two : (place : ℕ) (a b : Leg) (s t : Side) → a.side ≡ s → b.side ≡ t → LegsFit chart (a ∷ b ∷ []) → legs_fit chart (opposite_legs place (a ∷ b ∷ [])) ≡ true
  of-two place a b Credit t sa sb f = absurd (false≢true (ap (is_side Debit) (sym sa) ∙ f.first))
  of-two place a b Debit Debit sa sb f =
      absurd (two-debits a.side b.side a.amount.0 b.amount.0 sa sb (f.each 0 a refl).above f.even)
  of-two place a b Debit Credit sa sb f =
      let legs : List Leg = a ∷ b ∷ [] in
      let x : Leg = opposite_leg place b in
      let y : Leg = opposite_leg place a in
      let is : opposite_legs place legs ≡ x ∷ y ∷ [] = rw (sa, sb) refl in
      let apart = and_parts (is_apart_from a b && true) (are_apart (b ∷ [])) f.apart in
      let ab = (and_parts (is_apart_from a b) true apart.0).0 in
      let own = f.one_ccy 0 a a refl refl in
      subst (λ (ls : List Leg). legs_fit chart ls ≡ true) (sym is)
      (two-fit x y (debit-of place b sb) (sound-opposite place b (f.each 1 b refl)) (sound-opposite place a (f.each 0 a refl)) (apart-sym a.account.0 b.account.0 ab)
      (subst (λ (ls : List Leg). are_even ls ≡ true) is (even-still place legs f.even))
      (ccy-both (account_at chart a.account.0) (account_at chart b.account.0) (account_at chart a.account.0) (f.one_ccy 1 a b refl refl) own))

  -- three legs whose opposites stand in the order x, y, z
  three-ordered : (place : ℕ) (a b c : Leg) → LegsFit chart (a ∷ b ∷ c ∷ []) → (x y z : Leg) → Sound chart x → Sound chart y → Sound chart z → x.side ≡ Credit
      → opposite_legs place (a ∷ b ∷ c ∷ []) ≡ opposite_leg place x ∷ opposite_leg place y ∷ opposite_leg place z ∷ []
      → (is_apart_from a b ≡ true → is_apart_from a c ≡ true → is_apart_from b c ≡ true → (is_apart_from x y ≡ true) × (is_apart_from x z ≡ true) × (is_apart_from y z ≡ true))
      → (ccy a b ≡ true → ccy a c ≡ true → ccy a a ≡ true → (ccy x y ≡ true) × (ccy x z ≡ true)) → legs_fit chart (opposite_legs place (a ∷ b ∷ c ∷ [])) ≡ true
  three-ordered place a b c f x y z sx sy sz credit is order one =
      let legs : List Leg = a ∷ b ∷ c ∷ [] in
      let outer = and_parts (is_apart_from a b && (is_apart_from a c && true)) (are_apart (b ∷ c ∷ [])) f.apart in
      let first = and_parts (is_apart_from a b) (is_apart_from a c && true) outer.0 in
      let ac = (and_parts (is_apart_from a c) true first.1).0 in
      let second = and_parts (is_apart_from b c && true) (are_apart (c ∷ [])) outer.1 in
      let bc = (and_parts (is_apart_from b c) true second.0).0 in
      let (xy, xz, yz) = order first.0 ac bc in
      let (cy, cz) = one (f.one_ccy 1 a b refl refl) (f.one_ccy 2 a c refl refl) (f.one_ccy 0 a a refl refl) in
      subst (λ (ls : List Leg). legs_fit chart ls ≡ true) (sym is)
      (three-fit (opposite_leg place x) (opposite_leg place y) (opposite_leg place z) (debit-of place x credit) (sound-opposite place x sx) (sound-opposite place y sy) (sound-opposite place z sz)
      xy xz yz (subst (λ (ls : List Leg). are_even ls ≡ true) is (even-still place legs f.even)) cy cz)

  of-three : (place : ℕ) (a b c : Leg) (s t u : Side) → a.side ≡ s → b.side ≡ t → c.side ≡ u → LegsFit chart (a ∷ b ∷ c ∷ []) → legs_fit chart (opposite_legs place (a ∷ b ∷ c ∷ [])) ≡ true
  of-three place a b c Credit t u sa sb sc f = absurd (false≢true (ap (is_side Debit) (sym sa) ∙ f.first))
  of-three place a b c Debit Debit Debit sa sb sc f =
      absurd (three-debits a.side b.side c.side a.amount.0 b.amount.0 c.amount.0 sa sb sc (f.each 0 a refl).above f.even)
  of-three place a b c Debit Debit Credit sa sb sc f =
      three-ordered place a b c f c a b (f.each 2 c refl) (f.each 0 a refl) (f.each 1 b refl) sc (rw (sa, sb, sc) refl)
      (λ ab ac bc. (apart-sym a.account.0 c.account.0 ac, apart-sym b.account.0 c.account.0 bc, ab))
      (λ ab ac aa. (
        ccy-both (account_at chart a.account.0) (account_at chart c.account.0) (account_at chart a.account.0) ac aa,
        ccy-both (account_at chart a.account.0) (account_at chart c.account.0) (account_at chart b.account.0) ac ab,
      ))
  of-three place a b c Debit Credit Debit sa sb sc f =
      three-ordered place a b c f b a c (f.each 1 b refl) (f.each 0 a refl) (f.each 2 c refl) sb (rw (sa, sb, sc) refl)
      (λ ab ac bc. (apart-sym a.account.0 b.account.0 ab, bc, ac))
      (λ ab ac aa. (
        ccy-both (account_at chart a.account.0) (account_at chart b.account.0) (account_at chart a.account.0) ab aa,
        ccy-both (account_at chart a.account.0) (account_at chart b.account.0) (account_at chart c.account.0) ab ac,
      ))
  of-three place a b c Debit Credit Credit sa sb sc f =
      three-ordered place a b c f b c a (f.each 1 b refl) (f.each 2 c refl) (f.each 0 a refl) sb (rw (sa, sb, sc) refl)
      (λ ab ac bc. (bc, apart-sym a.account.0 b.account.0 ab, apart-sym a.account.0 c.account.0 ac))
      (λ ab ac aa. (
        ccy-both (account_at chart a.account.0) (account_at chart b.account.0) (account_at chart c.account.0) ab ac,
        ccy-both (account_at chart a.account.0) (account_at chart b.account.0) (account_at chart a.account.0) ab aa,
      ))

-- the legs that take back legs that fit
pub opposites-fit : (chart : Chart) (place : ℕ) (legs : List Leg) → LegsFit chart legs → legs_fit chart (opposite_legs place legs) ≡ true
opposites-fit chart place [] f = absurd (let many : 2 ≤ 0 = f.many in omega arith)
opposites-fit chart place (a ∷ []) f = absurd (let many : 2 ≤ 1 = f.many in omega arith)
opposites-fit chart place (a ∷ b ∷ []) f = of-two chart place a b a.side b.side refl refl f
opposites-fit chart place (a ∷ b ∷ c ∷ []) f = of-three chart place a b c a.side b.side c.side refl refl refl f
opposites-fit chart place (a ∷ b ∷ c ∷ d ∷ legs) f = absurd (let few : length (a ∷ b ∷ c ∷ d ∷ legs) ≤ 3 = f.few in omega arith)

pub return-fits : ReturnFits
return-fits chart entry place day fits = opposites-fit chart place entry.pay.legs (fitting chart entry.pay.legs fits)

-- the accounts of legs that fit are of the book
pub legs-listed : (chart : Chart) (legs : List Leg) → legs_fit chart legs ≡ true → AreListed chart legs
legs-listed chart legs fits = λ k d lt. ((fitting chart legs fits).each k (get_or legs k d) (slice_get-get_or legs k d lt)).listed
