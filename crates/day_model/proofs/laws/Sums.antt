-- Balances of a currency sum to 0, its debits equal its credits, and totals fit 64 bits.
use Rattle.std.proofs.Common.{◌≡◌, ◌≢◌, ℕ, zero, suc, ◌+◌, ◌-◌, ◌*◌, ◌<◌, ◌≤◌, Bool, true, false, cond, List, [], ◌∷◌, Option, Some, None, refl, sym, ap, ◌∙◌}
use Rattle.std.proofs.Common.{subst, arith, eqb, length, take, get_or, ℤ, pos, ◌+ℤ◌, ◌-ℤ◌, inl, inr}
use Rattle.std.specs.Prelude.{◌&&◌, slice_get, sum_by, unwrap_or, option_map, if◌then◌else◌}
use Rattle.std.proofs.lemmas.Bool.{cases_eq, cases_Bool, eq-eqb, ne_eqb, false≢true, cond-true, cond-false, cond_both}
use Rattle.std.proofs.lemmas.Int.{ints}
use Rattle.std.proofs.lemmas.List.{take_all}
use Rattle.std.proofs.lemmas.List.Sums.{sum_by-cons, sum_by_more}
use Rattle.std.proofs.lemmas.Option.{slice_get_cases}
use Rattle.std.proofs.lemmas.Slice.Eq.{bytes_eq-Decides}
use Rattle.std.specs.Str.{bytes_eq}
use Rattle.corr_money.specs.Amounts.{amount_end}
use Rattle.corr_money.specs.declared.amount.Ccy.{Ccy}
use Rattle.day_model.specs.declared.account.Account.{Account}
use Rattle.day_model.specs.declared.pay.Side.{Side}
use Rattle.day_model.specs.declared.pay.Side.TheVariants.{Debit, Credit}
use Rattle.day_model.specs.declared.pay.Leg.{Leg}
use Rattle.day_model.specs.declared.entry.Entry.{Entry}
use Rattle.day_model.specs.Chart.{Chart, IsChart, IsListed, account_at, is_same_ccy, opening_sum, accounts_of}
use Rattle.day_model.specs.Fit.{amount_on, is_side, same_ccy, side_sum}
use Rattle.day_model.specs.Balance.{is_booked, moved, moved_by, credits_of, debits_of, balance_of}
use Rattle.day_model.specs.Legal.{IsLegal}
use Rattle.day_model.specs.Laws.{sum_in, in_ccy, moved_in, entry_in, BalancesCancel, TotalsFit}
use Rattle.day_model.proofs.laws.Fronts.{fits_now}
use Rattle.day_model.proofs.laws.Fitting.{LegsFit, fitting}
use Rattle.day_model.proofs.laws.Legs.{moved_small}
use Rattle.day_model.proofs.laws.Balances.{balance_more, booked_moves, unmoved}

-- amounts that agree have one sum
pub sum_in-same : (ccy : Ccy) (f g : ℕ → ℤ) (n : ℕ) (accounts : List Account) → ((k : ℕ) → f k ≡ g k) → sum_in ccy f n accounts ≡ sum_in ccy g n accounts
sum_in-same ccy f g n [] same = refl
sum_in-same ccy f g n (a ∷ accounts) same =
    ap (λ (z : ℤ). (if is_same_ccy a.ccy ccy then z else pos 0) +ℤ sum_in ccy f (n + 1) accounts) (same n)
    ∙ ap (λ (z : ℤ). (if is_same_ccy a.ccy ccy then g n else pos 0) +ℤ z) (sum_in-same ccy f g (n + 1) accounts same)

plus_step : (b : Bool) (x y z s u v : ℤ)
    → (if b then (x +ℤ y) -ℤ z else pos 0) +ℤ ((s +ℤ u) -ℤ v)
    ≡ (((if b then x else pos 0) +ℤ s) +ℤ ((if b then y else pos 0) +ℤ u)) -ℤ ((if b then z else pos 0) +ℤ v)
plus_step true x y z s u v = omega (arith, ints)
plus_step false x y z s u v = omega (arith, ints)

sum_in-plus : (ccy : Ccy) (f g h : ℕ → ℤ) (n : ℕ) (accounts : List Account)
    → sum_in ccy (λ k. (f k +ℤ g k) -ℤ h k) n accounts ≡ (sum_in ccy f n accounts +ℤ sum_in ccy g n accounts) -ℤ sum_in ccy h n accounts
sum_in-plus ccy f g h n [] = refl
sum_in-plus ccy f g h n (a ∷ accounts) =
    ap (λ (z : ℤ). (if is_same_ccy a.ccy ccy then (f n +ℤ g n) -ℤ h n else pos 0) +ℤ z) (sum_in-plus ccy f g h (n + 1) accounts)
    ∙ plus_step (is_same_ccy a.ccy ccy) (f n) (g n) (h n) (sum_in ccy f (n + 1) accounts) (sum_in ccy g (n + 1) accounts) (sum_in ccy h (n + 1) accounts)

nothing_step : (b : Bool) → (if b then pos 0 else pos 0) +ℤ pos 0 ≡ pos 0
nothing_step true = refl
nothing_step false = refl

-- nothing on each account sums to 0
pub sum_in-nothing : (ccy : Ccy) (n : ℕ) (accounts : List Account) → sum_in ccy (λ k. pos 0) n accounts ≡ pos 0
sum_in-nothing ccy n [] = refl
sum_in-nothing ccy n (a ∷ accounts) =
    ap (λ (z : ℤ). (if is_same_ccy a.ccy ccy then pos 0 else pos 0) +ℤ z) (sum_in-nothing ccy (n + 1) accounts) ∙ nothing_step (is_same_ccy a.ccy ccy)

add_step : (b : Bool) (x y : ℕ) (s u : ℤ)
    → (if b then pos (x + y) else pos 0) +ℤ (s +ℤ u) ≡ ((if b then pos x else pos 0) +ℤ s) +ℤ ((if b then pos y else pos 0) +ℤ u)
add_step true x y s u = omega (arith, ints)
add_step false x y s u = omega (arith, ints)

-- sums of two amounts on each account add up
pub sum_in-add : (ccy : Ccy) (f g : ℕ → ℕ) (n : ℕ) (accounts : List Account)
    → sum_in ccy (λ k. pos (f k + g k)) n accounts ≡ sum_in ccy (λ k. pos (f k)) n accounts +ℤ sum_in ccy (λ k. pos (g k)) n accounts
sum_in-add ccy f g n [] = refl
sum_in-add ccy f g n (a ∷ accounts) =
    ap (λ (z : ℤ). (if is_same_ccy a.ccy ccy then pos (f n + g n) else pos 0) +ℤ z) (sum_in-add ccy f g (n + 1) accounts)
    ∙ add_step (is_same_ccy a.ccy ccy) (f n) (g n) (sum_in ccy (λ k. pos (f k)) (n + 1) accounts) (sum_in ccy (λ k. pos (g k)) (n + 1) accounts)

sum_in-none : (ccy : Ccy) (m amount n : ℕ) (accounts : List Account) → m < n → sum_in ccy (λ k. pos (cond (eqb m k) amount 0)) n accounts ≡ pos 0
sum_in-none ccy m amount n [] lt = refl
sum_in-none ccy m amount n (a ∷ accounts) lt =
    let rest = sum_in-none ccy m amount (n + 1) accounts (omega arith) in
    let other : m ≢ n = λ e. omega arith in
    rw (ne_eqb m n other, rest) (cond_both (is_same_ccy a.ccy ccy) (pos 0) (pos 0) (λ (z : ℤ). z +ℤ pos 0 ≡ pos 0) (λ _. refl) (λ _. refl))

-- an amount on one account counts in its currency alone
sum_in-one : (ccy : Ccy) (m amount n : ℕ) (accounts : List Account) → n ≤ m → m < n + length accounts
    → sum_in ccy (λ k. pos (cond (eqb m k) amount 0)) n accounts ≡ pos (cond (in_ccy ccy (slice_get accounts (m - n))) amount 0)
sum_in-one ccy m amount n [] le lt = absurd (omega arith)
sum_in-one ccy m amount n (a ∷ accounts) le lt =
    elim (cases_eq m n) [
      | inl here ↦
          let rest = sum_in-none ccy m amount (n + 1) accounts (omega arith) in
          let first : m - n ≡ 0 = omega arith in
          rw (eq-eqb m n here, rest, first) (elim (cases_Bool (is_same_ccy a.ccy ccy)) [
            | inl yes_ccy ↦ rw yes_ccy (omega (arith, ints))
            | inr no_ccy ↦ rw no_ccy refl
          ])
      | inr other ↦
          let rest = sum_in-one ccy m amount (n + 1) accounts (omega arith) (omega arith) in
          let later : m - n ≡ suc (m - (n + 1)) = omega arith in
          rw (ne_eqb m n other, rest, later) (elim (cases_Bool (is_same_ccy a.ccy ccy)) [
            | inl yes_ccy ↦ rw yes_ccy (omega (arith, ints))
            | inr no_ccy ↦ rw no_ccy (omega (arith, ints))
          ])
    ]

sum_in-openings : (ccy : Ccy) (f : ℕ → ℤ) (n : ℕ) (accounts : List Account)
    → ((j : ℕ) → f (n + j) ≡ unwrap_or (option_map (λ account. account.opening) (slice_get accounts j)) (pos 0))
    → sum_in ccy f n accounts ≡ opening_sum ccy accounts
sum_in-openings ccy f n [] is = refl
sum_in-openings ccy f n (a ∷ accounts) is =
    let here : f n ≡ a.opening = ap f (omega arith) ∙ is 0 in
    let rest = sum_in-openings ccy f (n + 1) accounts (λ j. ap f (omega arith) ∙ is (suc j)) in
    rw (here, rest) refl

same_in_ccy : (ccy : Ccy) (a b : Option Account) → same_ccy a b ≡ true → in_ccy ccy a ≡ in_ccy ccy b
same_in_ccy ccy (Some a) (Some b) e =
    let digits : a.ccy.0 ≡ b.ccy.0 = (bytes_eq-Decides a.ccy.0 b.ccy.0).0 e in ap (λ (bs : List ℕ). bytes_eq bs ccy.0) digits
same_in_ccy ccy (Some a) None e = absurd (false≢true e)
same_in_ccy ccy None b e = absurd (false≢true e)

counted : (s b : Bool) (x : ℕ) → cond (s && b) x 0 ≡ cond b (cond s x 0) 0
counted true true x = refl
counted true false x = refl
counted false true x = refl
counted false false x = refl

counted_more : (b : Bool) (x y z : ℕ) → z ≡ x + y → cond b x 0 + cond b y 0 ≡ cond b z 0
counted_more true x y z is = omega (arith, is)
counted_more false x y z is = omega arith

-- legs of one currency move on one side of it all that they have on that side, and in other currencies nothing
in_one_ccy : (chart : Chart) (ccy : Ccy) (side : Side) (b : Bool) (legs : List Leg)
    → ((i : ℕ) (leg : Leg) → slice_get legs i ≡ Some leg → in_ccy ccy (account_at chart leg.account.0) ≡ b)
    → sum_by (moved_in chart ccy side) legs ≡ cond b (side_sum side legs) 0
in_one_ccy chart ccy side b [] of = cond_both b 0 0 (λ (x : ℕ). 0 ≡ x) (λ _. refl) (λ _. refl)
in_one_ccy chart ccy side b (leg ∷ legs) of =
    let here : moved_in chart ccy side leg ≡ cond b (amount_on side leg) 0 = rw (of 0 leg refl) (counted (is_side side leg.side) b leg.amount.0) in
    omega (
      arith,
      sum_by-cons (moved_in chart ccy side) leg legs,
      here,
      in_one_ccy chart ccy side b legs (λ i x at. of (suc i) x at),
      counted_more b (amount_on side leg) (side_sum side legs) (side_sum side (leg ∷ legs)) (sum_by-cons (amount_on side) leg legs),
    )

-- legs that fit move as much on the one side of a currency as on the other
even_in : (chart : Chart) (ccy : Ccy) (legs : List Leg) → LegsFit chart legs → sum_by (moved_in chart ccy Debit) legs ≡ sum_by (moved_in chart ccy Credit) legs
even_in chart ccy [] fit = refl
even_in chart ccy (first ∷ legs) fit =
    let b : Bool = in_ccy ccy (account_at chart first.account.0) in
    let of : (i : ℕ) (leg : Leg) → slice_get (first ∷ legs) i ≡ Some leg → in_ccy ccy (account_at chart leg.account.0) ≡ b =
    λ i leg at. sym (same_in_ccy ccy (account_at chart first.account.0) (account_at chart leg.account.0) (fit.one_ccy i first leg refl at)) in
    in_one_ccy chart ccy Debit b (first ∷ legs) of ∙ ap (λ (x : ℕ). cond b x 0) fit.even ∙ sym (in_one_ccy chart ccy Credit b (first ∷ legs) of)

-- an entry debits in each currency as much as it credits
pub even_entry : (chart : Chart) (ccy : Ccy) (e : Entry) → LegsFit chart e.pay.legs → entry_in chart ccy Debit e ≡ entry_in chart ccy Credit e
even_entry chart ccy e fit = ap (λ (x : ℕ). cond (is_booked e.outcome) x 0) (even_in chart ccy e.pay.legs fit)

-- what a leg moves over the accounts of a currency
leg_over : (chart : Chart) (ccy : Ccy) (b : Bool) (m amount : ℕ) → IsListed chart m
    → sum_in ccy (λ k. pos (cond (b && eqb m k) amount 0)) 1 (accounts_of chart) ≡ pos (cond (b && in_ccy ccy (account_at chart m)) amount 0)
leg_over chart ccy true m amount there = sum_in-one ccy m amount 1 (accounts_of chart) there.0 (omega (arith, there.1))
leg_over chart ccy false m amount there = sum_in-nothing ccy 1 (accounts_of chart)

-- what legs move over the accounts of a currency
legs_over : (chart : Chart) (ccy : Ccy) (side : Side) (legs : List Leg)
    → ((i : ℕ) (leg : Leg) → slice_get legs i ≡ Some leg → IsListed chart leg.account.0)
    → sum_in ccy (λ k. pos (sum_by (moved side k) legs)) 1 (accounts_of chart) ≡ pos (sum_by (moved_in chart ccy side) legs)
legs_over chart ccy side [] there = sum_in-nothing ccy 1 (accounts_of chart)
legs_over chart ccy side (leg ∷ legs) there =
    let one = leg_over chart ccy (is_side side leg.side) leg.account.0 leg.amount.0 (there 0 leg refl) in
    let rest = legs_over chart ccy side legs (λ i x at. there (suc i) x at) in
    let both : pos (moved_in chart ccy side leg) +ℤ pos (sum_by (moved_in chart ccy side) legs) ≡ pos (sum_by (moved_in chart ccy side) (leg ∷ legs)) =
    omega (arith, ints, sum_by-cons (moved_in chart ccy side) leg legs) in
    sum_in-same ccy (λ k. pos (sum_by (moved side k) (leg ∷ legs))) (λ k. pos (moved side k leg + sum_by (moved side k) legs)) 1 (accounts_of chart)
    (λ k. ap (λ (x : ℕ). pos x) (sum_by-cons (moved side k) leg legs))
    ∙ sum_in-add ccy (λ k. moved side k leg) (λ k. sum_by (moved side k) legs) 1 (accounts_of chart)
    ∙ ap (λ (z : ℤ). z +ℤ sum_in ccy (λ k. pos (sum_by (moved side k) legs)) 1 (accounts_of chart)) one
    ∙ ap (λ (z : ℤ). pos (moved_in chart ccy side leg) +ℤ z) rest ∙ both

-- what an entry moves over the accounts of a currency
pub sum_moved : (side : Side) (chart : Chart) (ccy : Ccy) (e : Entry) → LegsFit chart e.pay.legs
    → sum_in ccy (λ k. pos (moved_by side k e)) 1 (accounts_of chart) ≡ pos (entry_in chart ccy side e)
sum_moved side chart ccy e fit =
    elim (cases_Bool (is_booked e.outcome)) [
      | inl booked ↦
          sum_in-same ccy (λ k. pos (moved_by side k e)) (λ k. pos (sum_by (moved side k) e.pay.legs)) 1 (accounts_of chart)
          (λ k. ap (λ (x : ℕ). pos x) (booked_moves side k e booked))
          ∙ legs_over chart ccy side e.pay.legs (λ i leg at. (fit.each i leg at).listed)
          ∙ ap (λ (x : ℕ). pos x) (sym (cond-true (is_booked e.outcome) (sum_by (moved_in chart ccy side) e.pay.legs) 0 booked))
      | inr out ↦
          sum_in-same ccy (λ k. pos (moved_by side k e)) (λ k. pos 0) 1 (accounts_of chart) (λ k. ap (λ (x : ℕ). pos x) (unmoved side k e out))
          ∙ sum_in-nothing ccy 1 (accounts_of chart)
          ∙ ap (λ (x : ℕ). pos x) (sym (cond-false (is_booked e.outcome) (sum_by (moved_in chart ccy side) e.pay.legs) 0 out))
    ]

cancel_at : (chart : Chart) (entries : List Entry) (ccy : Ccy) (i : ℕ) → IsChart chart → IsLegal chart entries → i ≤ length entries
    → sum_in ccy (balance_of chart (take i entries)) 1 (accounts_of chart) ≡ pos 0
cancel_at chart entries ccy zero sound legal le =
    sum_in-openings ccy (balance_of chart (take 0 entries)) 1 (accounts_of chart)
    (λ j. let at : (1 + j) - 1 ≡ j = omega arith in rw at (omega (arith, ints))) ∙ sound.balanced ccy
cancel_at chart entries ccy (suc i) sound legal le =
    elim (slice_get_cases entries i).1 [
      | inl found ↦
          let e : Entry = found.0 in
          let fit = fitting chart e.pay.legs (fits_now chart entries i e legal found.2) in
          let before = cancel_at chart entries ccy i sound legal (omega arith) in
          let credits = sum_moved Credit chart ccy e fit in
          let debits = sum_moved Debit chart ccy e fit in
          let same : entry_in chart ccy Debit e ≡ entry_in chart ccy Credit e = even_entry chart ccy e fit in
          let next : suc i ≡ i + 1 = omega arith in
          ap (λ (k : ℕ). sum_in ccy (balance_of chart (take k entries)) 1 (accounts_of chart)) next
          ∙ sum_in-same ccy (balance_of chart (take (i + 1) entries))
          (λ n. (balance_of chart (take i entries) n +ℤ pos (moved_by Credit n e)) -ℤ pos (moved_by Debit n e)) 1 (accounts_of chart)
          (λ n. balance_more chart entries n i e found.2)
          ∙ sum_in-plus ccy (balance_of chart (take i entries)) (λ n. pos (moved_by Credit n e)) (λ n. pos (moved_by Debit n e)) 1 (accounts_of chart)
          ∙ rw (before, credits, debits, same) (omega (arith, ints))
      | inr past ↦ absurd (omega (arith, past.0))
    ]

-- balances of a currency sum to 0
pub balances_cancel : (chart : Chart) (entries : List Entry) → IsChart chart → IsLegal chart entries → BalancesCancel chart entries
balances_cancel chart entries sound legal ccy =
    subst (λ (es : List Entry). sum_in ccy (balance_of chart es) 1 (accounts_of chart) ≡ pos 0) (take_all (length entries) entries (omega arith))
    (cancel_at chart entries ccy (length entries) sound legal (omega arith))

-- one entry moves less than 10^14 on one side of an account
entry_small : (side : Side) (chart : Chart) (n : ℕ) (e : Entry) → LegsFit chart e.pay.legs → moved_by side n e < amount_end
entry_small side chart n e fit =
    cond_both (is_booked e.outcome) (sum_by (moved side n) e.pay.legs) 0 (λ (x : ℕ). x < amount_end)
    (λ _. moved_small chart e.pay.legs side n fit) (λ _. omega arith)

totals_at : (chart : Chart) (entries : List Entry) (n i : ℕ) → IsLegal chart entries → i ≤ length entries
    → (credits_of (take i entries) n ≤ i * amount_end) × (debits_of (take i entries) n ≤ i * amount_end)
totals_at chart entries n zero legal le = (omega arith, omega arith)
totals_at chart entries n (suc i) legal le =
    elim (slice_get_cases entries i).1 [
      | inl found ↦
          let e : Entry = found.0 in
          let item : get_or entries i e ≡ e = found.3 in
          let before = totals_at chart entries n i legal (omega arith) in
          let fit = fitting chart e.pay.legs (fits_now chart entries i e legal found.2) in
          let credit = entry_small Credit chart n e fit in
          let debit = entry_small Debit chart n e fit in
          let credits : credits_of (take (i + 1) entries) n ≡ credits_of (take i entries) n + moved_by Credit n e =
          sum_by_more (moved_by Credit n) entries i e found.1 ∙ ap (λ (x : Entry). credits_of (take i entries) n + moved_by Credit n x) item in
          let debits : debits_of (take (i + 1) entries) n ≡ debits_of (take i entries) n + moved_by Debit n e =
          sum_by_more (moved_by Debit n) entries i e found.1 ∙ ap (λ (x : Entry). debits_of (take i entries) n + moved_by Debit n x) item in
          let next : suc i ≡ i + 1 = omega arith in
          rw (next, credits, debits) (omega (arith, before.0, credit), omega (arith, before.1, debit))
      | inr past ↦ absurd (omega (arith, past.0))
    ]

-- credits and debits of an account fit 64 bits
pub totals_fit : (chart : Chart) (entries : List Entry) (n : ℕ) → IsLegal chart entries → TotalsFit entries n
totals_fit chart entries n legal =
    let all = take_all (length entries) entries (omega arith) in
    let at = totals_at chart entries n (length entries) legal (omega arith) in
    let short = legal.rules.short in
    let credits : credits_of entries n ≤ length entries * amount_end =
    subst (λ (es : List Entry). credits_of es n ≤ length entries * amount_end) all at.0 in
    let debits : debits_of entries n ≤ length entries * amount_end = subst (λ (es : List Entry). debits_of es n ≤ length entries * amount_end) all at.1 in
    (omega arith, omega arith)
