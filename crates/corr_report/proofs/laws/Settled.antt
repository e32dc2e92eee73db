-- Where each account bears all debits of some pays, and all their credits, each pay is booked, in whatever order they come.
use Rattle.std.proofs.Common.{◌≡◌, ℕ, zero, suc, ◌+◌, ◌≤◌, true, false, List, [], ◌∷◌, ◌++◌, map, Some, None, ℤ, pos, ◌+ℤ◌, ◌-ℤ◌, ◌≤ℤ◌, refl, sym, ap, ◌∙◌, subst, arith, append_assoc, length-append}
use Rattle.std.specs.Prelude.{◌-◌, int_le, is_some, length, slice_get, sum_by, unwrap_or}
use Rattle.std.specs.List.{AllByRecursion}
use Rattle.std.proofs.lemmas.Bool.{and_from, cond-false, eq-eqb, le-leb, leb-true}
use Rattle.std.proofs.lemmas.Int.{ints}
use Rattle.std.proofs.lemmas.List.{append-nil}
use Rattle.std.proofs.lemmas.List.Sums.{sum_by-append, sum_by-cons}
use Rattle.std.proofs.lemmas.Option.{none-some, same_Some}
use Rattle.corr_ids.specs.declared.day.Day.{Day}
use Rattle.day_model.specs.declared.account.Account.{Account}
use Rattle.day_model.specs.declared.entry.Entry.{Entry}
use Rattle.day_model.specs.declared.entry.Outcome.{Outcome}
use Rattle.day_model.specs.declared.entry.Outcome.TheVariants.{Booked}
use Rattle.day_model.specs.declared.pay.Leg.{Leg}
use Rattle.day_model.specs.declared.pay.Pay.{Pay}
use Rattle.day_model.specs.declared.pay.Side.{Side}
use Rattle.day_model.specs.declared.pay.Side.TheVariants.{Debit, Credit}
use Rattle.day_model.specs.Changes.{is_by}
use Rattle.day_model.specs.Balance.{balance_of, changed, credits_of, debits_of, is_within, leg_tests, moved, moved_by, opening_of, outcome_of}
use Rattle.day_model.specs.Chart.{AreBy, Chart, IsListed, account_at, chart_at}
use Rattle.day_model.specs.Fit.{FitsAccounts, is_side}
use Rattle.day_model.specs.Next.{entered_at, entry_of, fold_of, next_history}
use Rattle.day_model.proofs.laws.Changes.{accounts_now, list_all-then}
use Rattle.day_model.proofs.laws.Fitting.{LegsFit, fitting, leg_sound, listed_account}
use Rattle.corr_text.specs.First.{first_of}

-- a pay as a booked entry of a day
abbrev pub booked_on : Day → Pay → Entry
booked_on day pay = record { pay = pay; day = day; outcome = Booked }

-- each account stays within its limits by all their debits alone, and by all their credits alone
pub record Bears (chart : Chart) (entries : List Entry) (n : ℕ) (account : Account) : Type 0 where
  pub floor : account.floor ≤ℤ (account.opening -ℤ pos (debits_of entries n))
  pub ceil : (account.opening +ℤ pos (credits_of entries n)) ≤ℤ account.ceil

-- each account bears these entries in any order
abbrev pub AreBorne : Chart → List Entry → Type 0
AreBorne chart entries = (n : ℕ) (account : Account) → 1 ≤ n → account_at chart n ≡ Some account → Bears chart entries n account

-- no entry has the reference of a pay
abbrev pub IsFresh : List Entry → Pay → Type 0
IsFresh entries pay = is_some (entered_at pay.mir entries) ≡ false

-- none of these pays has the reference of one before it or of an entry
abbrev pub AreFresh : List Entry → Day → List Pay → Type 0
AreFresh entries day [] = Unit {0}
AreFresh entries day (pay ∷ pays) = IsFresh entries pay × AreFresh (entries ++ booked_on day pay ∷ []) day pays

-- what of all moves an account stays within its limits
held : (account : Account) (balance : ℤ) (done_c done_d all_c all_d : ℕ) → balance ≡ (account.opening +ℤ pos done_c) -ℤ pos done_d → done_c ≤ all_c → done_d ≤ all_d
    → account.floor ≤ℤ (account.opening -ℤ pos all_d) → (account.opening +ℤ pos all_c) ≤ℤ account.ceil → is_within (Some account) balance ≡ true
held account balance done_c done_d all_c all_d is few less floor ceil =
    let low : account.floor ≤ℤ balance = omega (arith, ints, is, few, less, floor) in
    let high : balance ≤ℤ account.ceil = omega (arith, ints, is, few, less, ceil) in
    and_from (int_le account.floor balance) (int_le balance account.ceil) (grind (arith, ints)) (grind (arith, ints))

-- one more entry moves no more than all
part : (f : Entry → ℕ) (done rest : List Entry) (e : Entry) → sum_by f done + f e ≤ sum_by f (done ++ e ∷ rest)
part f done rest e = omega (arith, sum_by-append f done (e ∷ rest), sum_by-cons f e rest)

side_itself : (side : Side) → is_side side side ≡ true
side_itself Debit = refl
side_itself Credit = refl

-- a leg moves its amount on its side of its account
own : (leg : Leg) → moved leg.side leg.account.0 leg ≡ leg.amount.0
own leg = rw (side_itself leg.side, eq-eqb leg.account.0 leg.account.0 refl) refl

-- and the legs of a pay together no less
own_part : (legs : List Leg) (i : ℕ) (leg : Leg) → slice_get legs i ≡ Some leg → leg.amount.0 ≤ sum_by (moved leg.side leg.account.0) legs
own_part [] i leg at = absurd (none-some leg at)
own_part (x ∷ legs) zero leg at =
    subst (λ (y : Leg). y.amount.0 ≤ sum_by (moved y.side y.account.0) (x ∷ legs)) (same_Some x leg at) (omega (arith, own x, sum_by-cons (moved x.side x.account.0) x legs))
own_part (x ∷ legs) (suc i) leg at = omega (arith, own_part legs i leg at, sum_by-cons (moved leg.side leg.account.0) x legs)

-- changes that came by some entries came by one more
by_longer : (chart : Chart) (done : List Entry) (e : Entry) → AreBy (length done) chart → AreBy (length (done ++ e ∷ [])) chart
by_longer chart done e by =
    list_all-then (is_by (length done)) (is_by (length (done ++ e ∷ []))) chart.changes
    (λ c earlier. le-leb _ _ (omega (arith, leb-true _ _ earlier, length-append done (e ∷ [])))) by

module _ (chart : Chart) (done rest : List Entry) (day : Day) (pay : Pay) (by : AreBy (length done) chart)
    (borne : AreBorne chart (done ++ booked_on day pay ∷ rest)) where
  abbrev all : List Entry
  all = done ++ booked_on day pay ∷ rest

  -- the accounts of the time are those of now
  then_now : (n : ℕ) (balance : ℤ) → is_within (account_at (chart_at chart (length done)) n) balance ≡ is_within (account_at chart n) balance
  then_now n balance = ap (λ (accounts : List Account). is_within (slice_get accounts (n - 1)) balance) (accounts_now chart (length done) by)

  -- a leg leaves its account within its limits
  leg_passes : (side : Side) (n amount : ℕ) → IsListed chart n → amount ≤ sum_by (moved side n) pay.legs → is_within (account_at chart n) (changed side amount (balance_of chart done n)) ≡ true
  leg_passes Debit n amount listed moves =
      let (account, at) = listed_account chart n listed in
      let bears = borne n account listed.0 at in
      let opening : opening_of chart n ≡ account.opening = rw at refl in
      let balance : balance_of chart done n -ℤ pos amount ≡ (account.opening +ℤ pos (credits_of done n)) -ℤ pos (debits_of done n + amount) = omega (arith, ints, opening) in
      let credits : credits_of done n ≤ credits_of all n = omega (arith, part (moved_by Credit n) done rest (booked_on day pay)) in
      let debits : debits_of done n + amount ≤ debits_of all n = omega (arith, part (moved_by Debit n) done rest (booked_on day pay), moves) in
      ap (λ o. is_within o (balance_of chart done n -ℤ pos amount)) at ∙ held account _ _ _ _ _ balance credits debits bears.floor bears.ceil
  leg_passes Credit n amount listed moves =
      let (account, at) = listed_account chart n listed in
      let bears = borne n account listed.0 at in
      let opening : opening_of chart n ≡ account.opening = rw at refl in
      let balance : balance_of chart done n +ℤ pos amount ≡ (account.opening +ℤ pos (credits_of done n + amount)) -ℤ pos (debits_of done n) = omega (arith, ints, opening) in
      let credits : credits_of done n + amount ≤ credits_of all n = omega (arith, part (moved_by Credit n) done rest (booked_on day pay), moves) in
      let debits : debits_of done n ≤ debits_of all n = omega (arith, part (moved_by Debit n) done rest (booked_on day pay)) in
      ap (λ o. is_within o (balance_of chart done n +ℤ pos amount)) at ∙ held account _ _ _ _ _ balance credits debits bears.floor bears.ceil

  -- legs of the pay that pass
  all_pass : (k : ℕ) (legs : List Leg) → ((i : ℕ) (leg : Leg) → slice_get legs i ≡ Some leg → IsListed chart leg.account.0 × (leg.amount.0 ≤ sum_by (moved leg.side leg.account.0) pay.legs))
      → first_of (leg_tests chart done k legs) ≡ None
  all_pass k [] each = refl
  all_pass k (leg ∷ legs) each =
      let here = each 0 leg refl in
      let passes = then_now leg.account.0 (changed leg.side leg.amount.0 (balance_of chart done leg.account.0)) ∙ leg_passes leg.side leg.account.0 leg.amount.0 here.0 here.1 in
      rw passes (all_pass (k + 1) legs (λ i. each (suc i)))

  -- each leg passes
  pay_passes : LegsFit chart pay.legs → outcome_of chart done pay ≡ Booked
  pay_passes fit = ap (λ o. unwrap_or o Booked) (all_pass 1 pay.legs (λ i leg at. ((leg_sound chart pay.legs i leg fit at).listed, own_part pay.legs i leg at)))

-- a pay with a new reference that is booked
entered : (chart : Chart) (done : List Entry) (pay : Pay) (day : Day) → IsFresh done pay → outcome_of chart done pay ≡ Booked → next_history chart done pay day ≡ done ++ booked_on day pay ∷ []
entered chart done pay day fresh booked =
    cond-false (is_some (entered_at pay.mir done)) done (done ++ entry_of chart done pay day ∷ []) fresh
    ∙ ap (λ (outcome : Outcome). done ++ record { pay = pay; day = day; outcome = outcome } ∷ []) booked

settled_from : (chart : Chart) (done : List Entry) (day : Day) (pays : List Pay) → AreBy (length done) chart → AllByRecursion (FitsAccounts chart) pays → AreFresh done day pays
    → AreBorne chart (done ++ map (booked_on day) pays) → fold_of chart done pays day ≡ done ++ map (booked_on day) pays
settled_from chart done day [] by fit fresh borne = sym (append-nil done)
settled_from chart done day (pay ∷ pays) by fit fresh borne =
    let next = entered chart done pay day fresh.0 (pay_passes chart done (map (booked_on day) pays) day pay by borne (fitting chart pay.legs fit.0)) in
    let same = append_assoc done (booked_on day pay ∷ []) (map (booked_on day) pays) in
    ap (λ entries. fold_of chart entries pays day) next
    ∙ (settled_from chart (done ++ booked_on day pay ∷ []) day pays (by_longer chart done (booked_on day pay) by) fit.1 fresh.1 (subst (AreBorne chart) (sym same) borne) ∙ same)

-- each pay is booked, where no change of accounts came after an entry
pub settled_fold : (chart : Chart) (day : Day) (pays : List Pay) → AreBy 0 chart → AllByRecursion (FitsAccounts chart) pays → AreFresh [] day pays → AreBorne chart (map (booked_on day) pays)
    → fold_of chart [] pays day ≡ map (booked_on day) pays
settled_fold chart day pays by fit fresh borne = settled_from chart [] day pays by fit fresh borne
