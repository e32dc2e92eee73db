-- Purses stay at their balances.
use Rattle.std.proofs.Common.{◌≡◌, ◌≢◌, ℕ, suc, ◌+◌, ◌-◌, ◌≤◌, Bool, true, false, cond, eqb, List, [], ◌∷◌, ◌++◌, Option, Some, get_or, length-append, refl}
use Rattle.std.proofs.Common.{sym, ap, ◌∙◌, subst, arith, length, take, ℤ, pos, ◌+ℤ◌, ◌-ℤ◌, inl, inr}
use Rattle.std.specs.Prelude.{◌&&◌, slice_get, sum_by, unwrap_or, option_map, if◌then◌else◌}
use Rattle.std.proofs.lemmas.Bool.{and_parts, cases_eq, eq-eqb, eqb-false, ne_eqb, not-true}
use Rattle.std.proofs.lemmas.Int.{ints}
use Rattle.std.specs.List.{list_all}
use Rattle.std.proofs.lemmas.List.Sums.{sum_by-cons}
use Rattle.std.proofs.lemmas.List.{length-set, get_or_append_left, take_all}
use Rattle.std.proofs.Math.Seq.{get_or-append_seam}
use Rattle.std.proofs.lemmas.Option.{get_or_from_slice_get, same_Some, slice_get-get_or}
use Rattle.day_model.specs.declared.account.Account.{Account}
use Rattle.day_model.specs.declared.pay.Side.{Side}
use Rattle.day_model.specs.declared.pay.Side.TheVariants.{Debit, Credit}
use Rattle.day_model.specs.declared.pay.Leg.{Leg}
use Rattle.day_model.specs.declared.entry.Entry.{Entry}
use Rattle.day_model.specs.Chart.{Chart, IsChart, IsListed, IsSmall, account_at, accounts_of}
use Rattle.day_model.specs.Fit.{are_apart, is_apart_from, is_side}
use Rattle.day_model.specs.Balance.{balance_of, changed, is_booked, credits_of, debits_of, moved, moved_by, opening_of}
use Rattle.day_model.specs.Legal.{IsLegal}
use Rattle.day_model.specs.CoreLedger.{AreAtBalance, purse_of, with_leg, with_legs}
use Rattle.day_model.specs.inner.CoreLedger.{CanAdd, CanAddAll}
use Rattle.day_model.specs.Totals.{Pair, HasTotals, pair_at, totals_of}
use Rattle.day_model.proofs.laws.PairLists.{pair_read}
use Rattle.day_model.proofs.laws.Fitting.{LegsFit, all_at}
use Rattle.day_model.proofs.laws.Balances.{balance_more, booked_moves, unmoved}
use Rattle.day_model.proofs.laws.Standing.{small_at}
use Rattle.day_model.proofs.laws.Slices.{slice_get-set_same, slice_get-set_other}

purse_is : (purses : List ℤ) (n : ℕ) (b : ℤ) → slice_get purses (n - 1) ≡ Some b → purse_of purses n ≡ b
purse_is purses n b at = ap (λ (o : Option ℤ). unwrap_or o (pos 0)) at

-- what a leg leaves in purse n
leg_at : (purses : List ℤ) (leg : Leg) (n : ℕ) (b : ℤ) → 1 ≤ leg.account.0 → leg.account.0 ≤ length purses → 1 ≤ n → slice_get purses (n - 1) ≡ Some b
    → slice_get (with_leg purses leg) (n - 1) ≡ Some (cond (eqb leg.account.0 n) (changed leg.side leg.amount.0 b) b)
leg_at purses leg n b from there one at =
    elim (cases_eq leg.account.0 n) [
      | inl here ↦
          let place : n - 1 ≡ leg.account.0 - 1 = omega arith in
          let old : purse_of purses leg.account.0 ≡ b = purse_is purses leg.account.0 b (ap (λ (k : ℕ). slice_get purses (k - 1)) here ∙ at) in
          rw (eq-eqb leg.account.0 n here)
          (ap (λ (k : ℕ). slice_get (with_leg purses leg) k) place
          ∙ slice_get-set_same purses (leg.account.0 - 1) (changed leg.side leg.amount.0 (purse_of purses leg.account.0)) (omega arith)
          ∙ ap (λ (z : ℤ). Some (changed leg.side leg.amount.0 z)) old)
      | inr other ↦
          let place : n - 1 ≢ leg.account.0 - 1 = λ e. other (omega arith) in
          rw (ne_eqb leg.account.0 n other)
          (slice_get-set_other purses (leg.account.0 - 1) (n - 1) (changed leg.side leg.amount.0 (purse_of purses leg.account.0)) place ∙ at)
    ]

length-with_leg : (purses : List ℤ) (leg : Leg) → length (with_leg purses leg) ≡ length purses
length-with_leg purses leg = length-set purses (leg.account.0 - 1) (changed leg.side leg.amount.0 (purse_of purses leg.account.0))

adds : (s : Side) (own : Bool) (x : ℕ) (b : ℤ)
    → cond own (changed s x b) b ≡ (b +ℤ pos (cond (is_side Credit s && own) x 0)) -ℤ pos (cond (is_side Debit s && own) x 0)
adds Debit true x b = omega (arith, ints)
adds Debit false x b = omega (arith, ints)
adds Credit true x b = omega (arith, ints)
adds Credit false x b = omega (arith, ints)

-- what legs leave in purse n
legs_at : (purses : List ℤ) (legs : List Leg) (n : ℕ) (b : ℤ)
    → ((i : ℕ) (leg : Leg) → slice_get legs i ≡ Some leg → (1 ≤ leg.account.0) × (leg.account.0 ≤ length purses)) → 1 ≤ n
    → slice_get purses (n - 1) ≡ Some b
    → slice_get (with_legs purses legs) (n - 1) ≡ Some ((b +ℤ pos (sum_by (moved Credit n) legs)) -ℤ pos (sum_by (moved Debit n) legs))
legs_at purses [] n b there one at = let same : b ≡ (b +ℤ pos 0) -ℤ pos 0 = omega (arith, ints) in at ∙ ap (λ (z : ℤ). Some z) same
legs_at purses (leg ∷ legs) n b there one at =
    let place = there 0 leg refl in
    let next : ℤ = cond (eqb leg.account.0 n) (changed leg.side leg.amount.0 b) b in
    let first : slice_get (with_leg purses leg) (n - 1) ≡ Some next = leg_at purses leg n b place.0 place.1 one at in
    let kept = length-with_leg purses leg in
    let rest =
    legs_at (with_leg purses leg) legs n next
    (λ i x found. let other = there (suc i) x found in (other.0, omega (arith, other.1, kept))) one first in
    let step : next ≡ (b +ℤ pos (moved Credit n leg)) -ℤ pos (moved Debit n leg) = adds leg.side (eqb leg.account.0 n) leg.amount.0 b in
    let all : (next +ℤ pos (sum_by (moved Credit n) legs)) -ℤ pos (sum_by (moved Debit n) legs)
    ≡ (b +ℤ pos (sum_by (moved Credit n) (leg ∷ legs))) -ℤ pos (sum_by (moved Debit n) (leg ∷ legs)) =
    omega (arith, ints, step, sum_by-cons (moved Credit n) leg legs, sum_by-cons (moved Debit n) leg legs) in
    rest ∙ ap (λ (z : ℤ). Some z) all

length-with_legs : (purses : List ℤ) (legs : List Leg) → length (with_legs purses legs) ≡ length purses
length-with_legs purses [] = refl
length-with_legs purses (leg ∷ legs) = length-with_legs (with_leg purses leg) legs ∙ length-with_leg purses leg

abbrev pub purses_with : Bool → List ℤ → List Leg → List ℤ
purses_with booked purses legs = if booked then with_legs purses legs else purses

-- one entry more: its legs are added where it is booked
pub purses_more : (chart : Chart) (entries : List Entry) (purses : List ℤ) (i : ℕ) (e : Entry) (booked : Bool) → LegsFit chart e.pay.legs
    → slice_get entries i ≡ Some e → is_booked e.outcome ≡ booked → AreAtBalance chart (take i entries) purses
    → AreAtBalance chart (take (i + 1) entries) (purses_with booked purses e.pay.legs)
purses_more chart entries purses i e true fit at booked before = record {
  one_each = length-with_legs purses e.pay.legs ∙ before.one_each;
  balances = λ n there.
      let more = balance_more chart entries n i e at in
      let credit = booked_moves Credit n e booked in
      let debit = booked_moves Debit n e booked in
      let b : ℤ = balance_of chart (take i entries) n in
      legs_at purses e.pay.legs n b
      (λ k leg found.
      let listed = (fit.each k leg found).listed in
      (listed.0, omega (arith, listed.1, before.one_each)))
      there.0 (before.balances n there)
      ∙ ap (λ (z : ℤ). Some z)
      (sym
      (more ∙ ap (λ (x : ℕ). (b +ℤ pos x) -ℤ pos (moved_by Debit n e)) credit
      ∙ ap (λ (x : ℕ). (b +ℤ pos (sum_by (moved Credit n) e.pay.legs)) -ℤ pos x) debit));
}
purses_more chart entries purses i e false fit at booked before = record {
  one_each = before.one_each;
  balances = λ n there.
      let more = balance_more chart entries n i e at in
      let b : ℤ = balance_of chart (take i entries) n in
      let still : (b +ℤ pos 0) -ℤ pos 0 ≡ b = omega (arith, ints) in
      before.balances n there
      ∙ ap (λ (z : ℤ). Some z)
      (sym
      (more ∙ ap (λ (x : ℕ). (b +ℤ pos x) -ℤ pos (moved_by Debit n e)) (unmoved Credit n e booked)
      ∙ ap (λ (x : ℕ). (b +ℤ pos 0) -ℤ pos x) (unmoved Debit n e booked) ∙ still));
}

-- a leg on another account can still be added
still_can : (purses : List ℤ) (leg other : Leg) → leg.account.0 ≢ other.account.0 → CanAdd purses leg → CanAdd purses other
    → CanAdd (with_leg purses leg) other
still_can purses leg other apart can next =
    let from : 1 ≤ leg.account.0 = can.from_one in
    let one : 1 ≤ other.account.0 = next.from_one in
    let place : other.account.0 - 1 ≢ leg.account.0 - 1 = λ e. apart (omega arith) in
    let same : purse_of (with_leg purses leg) other.account.0 ≡ purse_of purses other.account.0 =
    ap (λ (o : Option ℤ). unwrap_or o (pos 0))
    (slice_get-set_other purses (leg.account.0 - 1) (other.account.0 - 1) (changed leg.side leg.amount.0 (purse_of purses leg.account.0)) place) in
    record {
      from_one = one;
      there = omega (arith, next.there, length-with_leg purses leg);
      small = subst (λ (z : ℤ). IsSmall z) (sym same) next.small;
      amount = next.amount;
    }

-- legs on distinct accounts can be added one after another where each can be first
can_add_each : (purses : List ℤ) (legs : List Leg) → are_apart legs ≡ true → ((i : ℕ) (leg : Leg) → slice_get legs i ≡ Some leg → CanAdd purses leg)
    → CanAddAll purses legs
can_add_each purses [] apart each = tt
can_add_each purses (leg ∷ legs) apart each =
    let parts = and_parts (list_all (is_apart_from leg) legs) (are_apart legs) apart in
    let first = each 0 leg refl in (
      first,
      can_add_each (with_leg purses leg) legs parts.1
          (λ i x at. still_can purses leg x (eqb-false _ _ (not-true _ (all_at (is_apart_from leg) legs i x parts.0 at))) first (each (suc i) x at)),
    )

-- the legs of a pay that fits can be added
pub can_add_all : (chart : Chart) (entries : List Entry) (purses : List ℤ) (i : ℕ) (legs : List Leg) → IsChart chart → IsLegal chart entries
    → i ≤ length entries → AreAtBalance chart (take i entries) purses → LegsFit chart legs → CanAddAll purses legs
can_add_all chart entries purses i legs sound legal le before fit =
    can_add_each purses legs fit.apart (λ k leg at.
    let own = fit.each k leg at in
    let n = leg.account.0 in
    record {
      from_one = own.listed.0;
      there = omega (arith, own.listed.1, before.one_each);
      small = subst (λ (z : ℤ). IsSmall z) (sym (purse_is purses n (balance_of chart (take i entries) n) (before.balances n own.listed)))
          (small_at chart entries n i sound legal own.listed le);
      amount = own.below;
    })

-- the purses of the first accounts are at their balances
pub record Opened (chart : Chart) (entries : List Entry) (count : ℕ) (purses : List ℤ) : Type 0 where
  pub size : length purses ≡ count
  pub balances : (n : ℕ) → 1 ≤ n → n ≤ count → slice_get purses (n - 1) ≡ Some (balance_of chart entries n)

pub opened_more : (chart : Chart) (entries : List Entry) (count : ℕ) (purses new : List ℤ) (b : ℤ) → new ≡ purses ++ b ∷ []
    → b ≡ balance_of chart entries (count + 1) → Opened chart entries count purses → Opened chart entries (count + 1) new
opened_more chart entries count purses new b is balance before =
    let many : length (purses ++ b ∷ []) ≡ count + 1 = length-append purses (b ∷ []) ∙ omega (arith, before.size) in
    let each : (n : ℕ) → 1 ≤ n → n ≤ count + 1 → slice_get (purses ++ b ∷ []) (n - 1) ≡ Some (balance_of chart entries n) = λ n one le.
    slice_get-get_or (purses ++ b ∷ []) (n - 1) b (omega (arith, many))
    ∙ ap (λ (z : ℤ). Some z) (elim (cases_eq n (count + 1)) [
      | inl last ↦
          let place : n - 1 ≡ length purses = omega (arith, before.size) in
          ap (λ (k : ℕ). get_or (purses ++ b ∷ []) k b) place ∙ get_or-append_seam purses b [] b ∙ balance
          ∙ ap (λ (k : ℕ). balance_of chart entries k) (sym last)
      | inr earlier ↦
          get_or_append_left purses (b ∷ []) b (n - 1) (omega (arith, before.size))
          ∙ get_or_from_slice_get purses (n - 1) (balance_of chart entries n) b (before.balances n one (omega arith))
    ]) in
    subst (Opened chart entries (count + 1)) (sym is) (record { size = many; balances = each })

-- an account's opening with its totals is its balance
pub balance_by_pair : (chart : Chart) (entries : List Entry) (pairs : List Pair) (n : ℕ) (p : Pair) (a : Account)
    → HasTotals pairs (length (accounts_of chart)) entries → IsListed chart n → p ≡ get_or pairs (n - 1) p → account_at chart n ≡ Some a
    → (a.opening +ℤ pos p.0) -ℤ pos p.1 ≡ balance_of chart entries n
balance_by_pair chart entries pairs n p a has there is at =
    let read : pair_at pairs n ≡ Some p = pair_read pairs n p there.0 (omega (arith, there.1, has.size)) is in
    let totals : p ≡ totals_of n entries = same_Some p (totals_of n entries) (sym read ∙ has.each n there.0 there.1) in
    let opening : a.opening ≡ opening_of chart n = ap (λ (o : Option Account). unwrap_or (option_map (λ x. x.opening) o) (pos 0)) (sym at) in
    ap (λ (q : Pair). (a.opening +ℤ pos q.0) -ℤ pos q.1) totals ∙ ap (λ (z : ℤ). (z +ℤ pos (credits_of entries n)) -ℤ pos (debits_of entries n)) opening

pub small_now : (chart : Chart) (entries : List Entry) (n : ℕ) → IsChart chart → IsLegal chart entries → IsListed chart n
    → IsSmall (balance_of chart entries n)
small_now chart entries n sound legal there =
    subst (λ (es : List Entry). IsSmall (balance_of chart es n)) (take_all (length entries) entries (omega arith))
    (small_at chart entries n (length entries) sound legal there (omega arith))
