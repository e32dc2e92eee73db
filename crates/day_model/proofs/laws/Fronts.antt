-- What holds of the front of a legal history, and that its pays fit the accounts of now.
use Rattle.std.proofs.Common.{◌≡◌, ℕ, ◌-◌, ◌≤◌, true, List, [], ◌∷◌, ◌++◌, Option, Some, None, refl, sym, ap, ◌∙◌, subst, arith, leb, inl, inr}
use Rattle.std.proofs.Common.{drop, length, length-append, length-take, take, take-append-drop}
use Rattle.std.specs.Prelude.{◌&&◌, slice_get}
use Rattle.std.specs.List.{list_all}
use Rattle.std.proofs.lemmas.Bool.{and_from, and_parts, false≢true, le-leb, leb-true}
use Rattle.std.proofs.lemmas.List.{take-append-le}
use Rattle.std.proofs.lemmas.Option.{slice_get_cases, slice_get_within}
use Rattle.corr_money.specs.declared.amount.Ccy.{Ccy}
use Rattle.day_model.specs.declared.account.Account.{Account}
use Rattle.day_model.specs.declared.entry.Entry.{Entry}
use Rattle.day_model.specs.declared.pay.Leg.{Leg}
use Rattle.day_model.specs.declared.pay.Pay.{Pay}
use Rattle.day_model.specs.Balance.{balance_of, outcome_of}
use Rattle.day_model.specs.Changes.{are_in_order, is_by}
use Rattle.day_model.specs.Chart.{AreBy, Chart, accounts_of, chart_at, is_same_ccy}
use Rattle.day_model.specs.Fit.{FitsAccounts, account_in, are_legs, fit_in, is_beside, is_in, same_ccy}
use Rattle.day_model.specs.Laws.{FrontIsLegal, FrontFollowsRules, PaysFitNow}
use Rattle.day_model.specs.Legal.{AreLegalChanges, FollowsRules, IsLegal, balance_at}
use Rattle.day_model.proofs.laws.Changes.{Stays, account_stays, accounts_now, in_turn_same, list_all-then}
use Rattle.day_model.proofs.laws.Slices.{front_get}

-- ---- pays that fit the accounts of a time fit those of later

-- each account of the one list stays in the other, at its number
abbrev Keeps : List Account → List Account → Type 0
Keeps accounts more = (j : ℕ) (a : Account) → slice_get accounts j ≡ Some a → Stays a (slice_get more j)

in_grows : (accounts more : List Account) (n : ℕ) → Keeps accounts more → is_in accounts n ≡ true → is_in more n ≡ true
in_grows accounts more n keeps there =
    let parts = and_parts (leb 1 n) (leb n (length accounts)) there in
    let one : 1 ≤ n = leb-true _ _ parts.0 in
    let le : n ≤ length accounts = leb-true _ _ parts.1 in
    elim (slice_get_cases accounts (n - 1)).1 [
      | inl found ↦
          let stays = keeps (n - 1) found.0 found.2 in
          let lt = slice_get_within more (n - 1) stays.0 stays.1 in
          and_from (leb 1 n) (leb n (length more)) parts.0 (le-leb _ _ (omega (arith, lt, one)))
      | inr past ↦ absurd (omega (arith, past.0, one, le))
    ]

ccy_grows : (accounts more : List Account) (n m : ℕ) (o p : Option Account) → Keeps accounts more → account_in accounts n ≡ o → account_in accounts m ≡ p
    → same_ccy o p ≡ true → same_ccy (account_in more n) (account_in more m) ≡ true
ccy_grows accounts more n m (Some a) (Some b) keeps at_n at_m same =
    let x = keeps (n - 1) a at_n in
    let y = keeps (m - 1) b at_m in
    ap (λ (o : Option Account). same_ccy o (account_in more m)) x.1 ∙ ap (λ (o : Option Account). same_ccy (Some x.0) o) y.1
    ∙ ap (λ (c : Ccy). is_same_ccy c y.0.ccy) (ap (λ (z : Account). z.ccy) x.2)
    ∙ ap (λ (c : Ccy). is_same_ccy a.ccy c) (ap (λ (z : Account). z.ccy) y.2)
    ∙ same
ccy_grows accounts more n m (Some a) None keeps at_n at_m same = absurd (false≢true same)
ccy_grows accounts more n m None p keeps at_n at_m same = absurd (false≢true same)

beside_grows : (accounts more : List Account) (n : ℕ) (leg : Leg) → Keeps accounts more → is_beside accounts n leg ≡ true → is_beside more n leg ≡ true
beside_grows accounts more n leg keeps e =
    let parts = and_parts (is_in accounts leg.account.0) (same_ccy (account_in accounts n) (account_in accounts leg.account.0)) e in
    and_from (is_in more leg.account.0) (same_ccy (account_in more n) (account_in more leg.account.0))
    (in_grows accounts more leg.account.0 keeps parts.0)
    (ccy_grows accounts more n leg.account.0 (account_in accounts n) (account_in accounts leg.account.0) keeps refl refl parts.1)

fit_grows : (accounts more : List Account) (legs : List Leg) → Keeps accounts more → fit_in accounts legs ≡ true → fit_in more legs ≡ true
fit_grows accounts more [] keeps e = refl
fit_grows accounts more (leg ∷ legs) keeps e =
    let n = leg.account.0 in
    let parts = and_parts (is_in accounts n) (list_all (is_beside accounts n) legs) e in
    and_from (is_in more n) (list_all (is_beside more n) legs) (in_grows accounts more n keeps parts.0)
    (list_all-then (is_beside accounts n) (is_beside more n) legs (λ x own. beside_grows accounts more n x keeps own) parts.1)

-- a pay that fitted at a time fits now
pub fits_still : (chart : Chart) (k : ℕ) (pay : Pay) → are_in_order chart.changes ≡ true → FitsAccounts (chart_at chart k) pay → FitsAccounts chart pay
fits_still chart k pay order fits =
    let parts = and_parts (are_legs pay.legs) (fit_in (accounts_of (chart_at chart k)) pay.legs) fits in
    and_from (are_legs pay.legs) (fit_in (accounts_of chart) pay.legs) parts.0
    (fit_grows (accounts_of (chart_at chart k)) (accounts_of chart) pay.legs (λ j a at. account_stays chart k j a order at) parts.1)

-- where all changes came by then, a pay that fits now fitted then
pub fits_then : (chart : Chart) (k : ℕ) (pay : Pay) → AreBy k chart → FitsAccounts chart pay → FitsAccounts (chart_at chart k) pay
fits_then chart k pay by fits =
    subst (λ (accounts : List Account). (are_legs pay.legs && fit_in accounts pay.legs) ≡ true) (sym (accounts_now chart k by)) fits

-- each pay of a legal history fits the accounts of now
pub fits_now : PaysFitNow
fits_now chart entries i e legal at = fits_still chart i e.pay legal.changes.in_order (legal.rules.fits i e at)

-- ---- fronts

-- the front of a history that follows the rules follows them
pub rules_front : FrontFollowsRules
rules_front chart front more rules = record {
  short = omega (arith, rules.short, length-append front more);
  fits = λ i e at. rules.fits i e (front_get front more i e at);
  decided = λ i e at. rules.decided i e (front_get front more i e at)
      ∙ ap (λ (es : List Entry). outcome_of chart es e.pay) (take-append-le i front more (omega (arith, slice_get_within front i e at)));
  single = λ i j d e at there. rules.single i j d e (front_get front more i d at) (front_get front more j e there);
  days = λ i j d e lt at there. rules.days i j d e lt (front_get front more i d at) (front_get front more j e there);
}

-- so do the first entries, as many as are taken
pub rules_take : (chart : Chart) (entries : List Entry) (k : ℕ) → FollowsRules chart entries → FollowsRules chart (take k entries)
rules_take chart entries k rules =
    rules_front chart (take k entries) (drop k entries) (subst (FollowsRules chart) (sym (take-append-drop k entries)) rules)

-- changes that came by then were legal
pub changes_front : (chart : Chart) (front more : List Entry) → AreBy (length front) chart → AreLegalChanges chart (front ++ more) → AreLegalChanges chart front
changes_front chart front more by legal = record {
  few = legal.few;
  by_now = by;
  in_order = legal.in_order;
  in_turn = in_turn_same (balance_at chart (front ++ more)) (balance_at chart front) (length front) chart.first chart.changes
      (λ k n le. ap (λ (es : List Entry). balance_of chart es n) (take-append-le k front more le)) by legal.in_turn;
}

-- they stay legal when entries follow
pub changes_longer : (chart : Chart) (entries more : List Entry) → AreLegalChanges chart entries → AreLegalChanges chart (entries ++ more)
changes_longer chart entries more legal = record {
  few = legal.few;
  by_now = list_all-then (is_by (length entries)) (is_by (length (entries ++ more))) chart.changes
      (λ c by. le-leb _ _ (omega (arith, leb-true _ _ by, length-append entries more))) legal.by_now;
  in_order = legal.in_order;
  in_turn = in_turn_same (balance_at chart entries) (balance_at chart (entries ++ more)) (length entries) chart.first chart.changes
      (λ k n le. ap (λ (es : List Entry). balance_of chart es n) (sym (take-append-le k entries more le))) legal.by_now legal.in_turn;
}

-- a front of a legal history by which all changes came is legal
pub legal_front : FrontIsLegal
legal_front chart front more by legal = record {
  rules = rules_front chart front more legal.rules;
  changes = changes_front chart front more by legal.changes;
}

-- so are the first entries, as many as are taken
pub legal_take : (chart : Chart) (entries : List Entry) (k : ℕ) → k ≤ length entries → AreBy k chart → IsLegal chart entries → IsLegal chart (take k entries)
legal_take chart entries k le by legal =
    let size : length (take k entries) ≡ k = omega (arith, length-take k entries, le) in
    legal_front chart (take k entries) (drop k entries) (subst (λ (n : ℕ). AreBy n chart) (sym size) by)
    (subst (IsLegal chart) (sym (take-append-drop k entries)) legal)
