-- What the entries up to a day make of the totals of accounts.
use Rattle.std.proofs.Common.{◌≡◌, ℕ, suc, ◌+◌, ◌-◌, ◌<◌, ◌≤◌, Bool, true, false, cond, List, [], ◌∷◌, ◌++◌, Option, Some, None, length, take, refl, sym, ap, ◌∙◌, subst, arith, inl, inr}
use Rattle.std.proofs.Common.{ℤ, pos, ◌+ℤ◌, ◌-ℤ◌, ◌≤ℤ◌}
use Rattle.std.specs.Prelude.{All, filter, int_le, not, slice_get, sum_by}
use Rattle.std.proofs.lemmas.Bool.{cases_Bool, cond_both, true≢false}
use Rattle.std.proofs.lemmas.Int.{ints}
use Rattle.std.proofs.lemmas.List.{append-nil, take_all}
use Rattle.std.proofs.lemmas.List.Elements.{filter_more}
use Rattle.std.proofs.lemmas.List.Filters.{sum_by-filter_both}
use Rattle.std.proofs.lemmas.Option.{get_or_from_slice_get, same_Some, slice_get_within}
use Rattle.corr_ids.specs.declared.day.Day.{Day}
use Rattle.day_model.specs.declared.account.Account.{Account}
use Rattle.day_model.specs.declared.entry.Entry.{Entry}
use Rattle.day_model.specs.declared.pay.Leg.{Leg}
use Rattle.day_model.specs.declared.pay.Side.TheVariants.{Credit, Debit}
use Rattle.day_model.specs.Balance.{balance_of, moved_by}
use Rattle.day_model.specs.Chart.{Chart, IsChart, IsListed, IsSmall, account_at, accounts_of}
use Rattle.day_model.specs.Legal.{IsLegal}
use Rattle.day_model.specs.Pairs.{PairsFit, pairs_with}
use Rattle.day_model.specs.Totals.{Fits64, HasTotals, Pair, booked_legs, legs_pair, plus, totals_of}
use Rattle.day_model.proofs.laws.Histories.{has_entry}
use Rattle.day_model.proofs.laws.PairLists.{pair_after, pairs_with-nil, there_is}
use Rattle.day_model.proofs.laws.Pairs.{booked_listed, legal_totals_fit, totals_so_far}
use Rattle.day_model.proofs.laws.Standing.{small_at}
use Rattle.corr_report.proofs.laws.Totals.{balance_is}
use Rattle.desk_rows.specs.Until.{entries_until, is_until}
use Rattle.desk_rows.specs.inner.Until.{legs_until}

-- where no day is told all entries count
pub all_count : (entries : List Entry) → entries_until None entries ≡ entries
all_count [] = refl
all_count (e ∷ entries) = ap (λ (es : List Entry). e ∷ es) (all_count entries)

-- some entries move no more than all
sum_kept : (p : Entry → Bool) (f : Entry → ℕ) (entries : List Entry) → sum_by f (filter p entries) ≤ sum_by f entries
sum_kept p f entries =
    let both : sum_by f (filter p entries) + sum_by f (filter (λ e. not (p e)) entries) ≡ sum_by f entries = sum_by-filter_both p (λ e. not (p e)) (λ e. refl) f entries in
    omega (arith, both)

-- ---- the entries up to a day are the first ones

-- the days of entries never fall
abbrev NeverFall : List Entry → Type 0
NeverFall entries = (i j : ℕ) (d e : Entry) → i < j → slice_get entries i ≡ Some d → slice_get entries j ≡ Some e → d.day.0 ≤ℤ e.day.0

-- a test that fails each entry of no earlier day than one that it fails
abbrev EndsOnce : (Entry → Bool) → Type 0
EndsOnce p = (d e : Entry) → d.day.0 ≤ℤ e.day.0 → p d ≡ false → p e ≡ false

past_still : (a b day : ℤ) → a ≤ℤ b → int_le a day ≡ false → int_le b day ≡ false
past_still a b day le past = grind (arith, ints)

until_ends : (until : Option Day) → EndsOnce (is_until until)
until_ends None d e le past = absurd (true≢false past)
until_ends (Some day) d e le past = past_still d.day.0 e.day.0 day.0 le past

module _ (p : Entry → Bool) (ends : EndsOnce p) where
  none_after : (d : Entry) (entries : List Entry) → p d ≡ false → ((j : ℕ) (e : Entry) → slice_get entries j ≡ Some e → d.day.0 ≤ℤ e.day.0) → filter p entries ≡ []
  none_after d [] past after = refl
  none_after d (e ∷ entries) past after =
      rw (ends d e (after 0 e refl) past) (none_after d entries past (λ j x at. after (suc j) x at))

  first_ones : (entries : List Entry) → NeverFall entries → (k : ℕ) × (k ≤ length entries) × (filter p entries ≡ take k entries)
  first_ones [] days = (0, omega arith, refl)
  first_ones (e ∷ entries) days =
      elim (cases_Bool (p e)) [
        | inl met ↦
            let rest = first_ones entries (λ i j c d lt at there. days (suc i) (suc j) c d (omega (arith, lt)) at there) in
            (suc rest.0, omega (arith, rest.1), rw met (ap (λ (es : List Entry). e ∷ es) rest.2))
        | inr past ↦ (0, omega arith, rw past (none_after e entries past (λ j d at. days 0 (suc j) e d (omega arith) refl at)))
      ]

-- the balance of an account up to a day is below 10^14 in size
pub small_until : (chart : Chart) (entries : List Entry) (until : Option Day) (n : ℕ) → IsChart chart → IsLegal chart entries → IsListed chart n
    → IsSmall (balance_of chart (entries_until until entries) n)
small_until chart entries until n sound legal listed =
    let front = first_ones (is_until until) (until_ends until) entries legal.rules.days in
    subst (λ (es : List Entry). IsSmall (balance_of chart es n)) (sym front.2) (small_at chart entries n front.0 sound legal listed front.1)

module _ (until : Option Day) where
  -- the entries up to a day, with one more looked at
  entries_more : (entries : List Entry) (e : Entry) (i : ℕ) → slice_get entries i ≡ Some e
      → entries_until until (take (i + 1) entries) ≡ entries_until until (take i entries) ++ cond (is_until until e) (e ∷ []) []
  entries_more entries e i at =
      let item = get_or_from_slice_get entries i e e at in
      filter_more (is_until until) entries i e (slice_get_within entries i e at)
      ∙ ap (λ (x : Entry). entries_until until (take i entries) ++ cond (is_until until x) (x ∷ []) []) item

  has_if : (b : Bool) (e : Entry) (front : List Entry) (count : ℕ) (pairs : List Pair) → HasTotals pairs count front
      → HasTotals (pairs_with (cond b (booked_legs e) []) pairs) count (front ++ cond b (e ∷ []) [])
  has_if true e front count pairs has = has_entry front e count pairs has
  has_if false e front count pairs has =
      subst (λ (x : List Pair × List Entry). HasTotals x.0 count x.1) (λ k. (sym (pairs_with-nil pairs) k, sym (append-nil front) k)) has

  -- the pairs after the next entry
  pub has_next : (entries : List Entry) (e : Entry) (i count : ℕ) (pairs : List Pair) → slice_get entries i ≡ Some e
      → HasTotals pairs count (entries_until until (take i entries)) → HasTotals (pairs_with (legs_until until e) pairs) count (entries_until until (take (i + 1) entries))
  has_next entries e i count pairs at has =
      subst (λ (es : List Entry). HasTotals (pairs_with (legs_until until e) pairs) count es) (sym (entries_more entries e i at))
      (has_if (is_until until e) e (entries_until until (take i entries)) count pairs has)

  totals_fit : (chart : Chart) (entries : List Entry) (i n : ℕ) → IsLegal chart entries → Fits64 (totals_of n (entries_until until (take i entries)))
  totals_fit chart entries i n legal =
      let all = legal_totals_fit chart entries n legal in
      let front = totals_so_far entries i n in
      let credits = sum_kept (is_until until) (moved_by Credit n) (take i entries) in
      let debits = sum_kept (is_until until) (moved_by Debit n) (take i entries) in
      (omega (arith, all.0, front.0, credits), omega (arith, all.1, front.1, debits))

  -- each pair fits after the next entry
  pub next_fits : (chart : Chart) (entries : List Entry) (e : Entry) (i : ℕ) (pairs : List Pair) → IsLegal chart entries → slice_get entries i ≡ Some e
      → HasTotals pairs (length (accounts_of chart)) (entries_until until (take i entries)) → PairsFit (legs_until until e) pairs
  next_fits chart entries e i pairs legal at has = λ n p here.
      let there = there_is pairs n p here in
      let after = has_next entries e i (length (accounts_of chart)) pairs at has in
      let is : totals_of n (entries_until until (take (i + 1) entries)) ≡ plus p (legs_pair n (legs_until until e)) =
      same_Some (totals_of n (entries_until until (take (i + 1) entries))) (plus p (legs_pair n (legs_until until e)))
      (sym (after.each n there.0 (omega (arith, there.1, has.size))) ∙ pair_after (legs_until until e) pairs n p here) in
      subst Fits64 is (totals_fit chart entries (i + 1) n legal)

  -- the legs that count are of listed accounts
  pub next_listed : (chart : Chart) (entries : List Entry) (e : Entry) (i : ℕ) → IsLegal chart entries → slice_get entries i ≡ Some e
      → All (λ leg. IsListed chart leg.account.0) (legs_until until e)
  next_listed chart entries e i legal at =
      cond_both (is_until until e) (booked_legs e) [] (All (λ (leg : Leg). IsListed chart leg.account.0)) (λ _. booked_listed chart entries e i legal at) (λ _. λ k d lt. absurd (omega (arith, lt)))

  -- the totals up to a day fit in 64 bits
  pub totals_until_fit : (chart : Chart) (entries : List Entry) (n : ℕ) → IsLegal chart entries → Fits64 (totals_of n (entries_until until entries))
  totals_until_fit chart entries n legal =
      subst (λ (es : List Entry). Fits64 (totals_of n (entries_until until es))) (take_all (length entries) entries (omega arith))
      (totals_fit chart entries (length entries) n legal)

-- the opening of an account is below 10^14 in size
pub opening_small : (chart : Chart) (entries : List Entry) (n : ℕ) (account : Account) → IsChart chart → IsLegal chart entries → IsListed chart n
    → account_at chart n ≡ Some account → IsSmall account.opening
opening_small chart entries n account sound legal listed at =
    let start : IsSmall (balance_of chart [] n) = small_at chart entries n 0 sound legal listed (omega arith) in
    let is : (account.opening +ℤ pos 0) -ℤ pos 0 ≡ balance_of chart [] n = balance_is chart [] n (0, 0) account refl at in
    let small : IsSmall ((account.opening +ℤ pos 0) -ℤ pos 0) = subst IsSmall (sym is) start in
    let low = small.0 in
    let high = small.1 in
    (omega (arith, ints, low), omega (arith, ints, high))
