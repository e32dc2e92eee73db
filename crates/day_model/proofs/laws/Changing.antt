-- One change more: what it leaves of openings, outcomes and accounts, and that the history stays legal.
use Rattle.std.proofs.Common.{◌≡◌, ℕ, zero, suc, ◌+◌, ◌-◌, ◌<◌, true, List, [], ◌∷◌, ◌++◌, Option, Some, None, refl, sym, ap, ◌∙◌, subst, arith}
use Rattle.std.proofs.Common.{inl, inr, length, length-append, length-take, take, ℤ, pos, ◌+ℤ◌, ◌-ℤ◌}
use Rattle.std.specs.Prelude.{◌&&◌, slice_get, slice_set, unwrap_or, if◌then◌else◌}
use Rattle.std.specs.Option.{option_map_or}
use Rattle.std.proofs.lemmas.Bool.{and_from, cases_eq, cond_both, le-leb, lt-leb}
use Rattle.std.proofs.lemmas.List.{append-nil, length-set, take_all}
use Rattle.std.proofs.lemmas.Option.{same_Some, slice_get_cases, slice_get_past, slice_get_within}
use Rattle.corr_text.specs.First.{first_of, unless}
use Rattle.corr_money.specs.declared.amount.Ccy.{Ccy}
use Rattle.day_model.specs.declared.account.Account.{Account}
use Rattle.day_model.specs.declared.account.AcctNo.{AcctNo}
use Rattle.day_model.specs.declared.change.Change.{Change}
use Rattle.day_model.specs.declared.change.What.{What}
use Rattle.day_model.specs.declared.change.What.TheVariants.{Opened, Limits}
use Rattle.day_model.specs.declared.entry.Entry.{Entry}
use Rattle.day_model.specs.declared.entry.Outcome.{Outcome}
use Rattle.day_model.specs.declared.entry.Outcome.TheVariants.{Booked, Unfunded}
use Rattle.day_model.specs.declared.pay.Leg.{Leg}
use Rattle.day_model.specs.declared.pay.Pay.{Pay}
use Rattle.day_model.specs.Balance.{balance_of, changed, credits_of, debits_of, is_within, leg_test, leg_tests, opening_of, outcome_of}
use Rattle.day_model.specs.Changes.{all_changed, by_then, changed_by, is_by, with_ends}
use Rattle.day_model.specs.Chart.{AreAccounts, AreApart, AreBalanced, AreRows, Chart, IsBounded, IsChart, IsFormed, KeepsRows, account_at, accounts_of, chart_at, is_same_ccy, opening_sum, with_change}
use Rattle.day_model.specs.Fit.{are_legs, fit_in}
use Rattle.day_model.specs.Laws.{ChangeStaysLegal}
use Rattle.day_model.specs.Legal.{FollowsRules, IsLegal, IsLegalChange, balance_at, balance_named}
use Rattle.day_model.specs.inner.Legal.{CanMake}
use Rattle.day_model.proofs.laws.Changes.{IsStill, all_changed-append, change_stays, filter-append, filter_out, in_order_push, in_turn_both, in_turn_parts, in_turn_same, list_all-append, named_same}
use Rattle.day_model.proofs.laws.Slices.{in_pushed, slice_get-set_other, slice_get-set_same}
use Rattle.day_model.proofs.laws.Standing.{new_is_empty, opening_or}

-- ---- openings, balances, outcomes

-- the accounts with one change more
pub accounts_with : (chart : Chart) (k : ℕ) (what : What) → accounts_of (with_change chart k what) ≡ changed_by what (accounts_of chart)
accounts_with chart k what = all_changed-append chart.changes (record { after = k; what = what } ∷ []) chart.first

-- a legal change leaves each opening
opening_stays : (accounts : List Account) (what : What) (b : ℤ) (j : ℕ) → IsLegalChange accounts b what
    → opening_or (slice_get (changed_by what accounts) j) ≡ opening_or (slice_get accounts j)
opening_stays accounts what b j legal =
    elim (slice_get_cases accounts j).1 [
      | inl found ↦
          let stays = change_stays what accounts j found.0 found.2 in
          ap opening_or stays.1 ∙ ap (λ (x : Account). x.opening) stays.2 ∙ sym (ap opening_or found.2)
      | inr past ↦
          let none : slice_get accounts j ≡ None = slice_get_past accounts j past.0 in
          elim (slice_get_cases (changed_by what accounts) j).1 [
            | inl new ↦ ap opening_or new.2 ∙ new_is_empty what accounts b j new.0 legal none new.2 ∙ sym (ap opening_or none)
            | inr end ↦ ap opening_or (slice_get_past (changed_by what accounts) j end.0) ∙ sym (ap opening_or none)
          ]
    ]

-- so the opening of each number stays with one change more
pub opening_with : (chart : Chart) (k : ℕ) (what : What) (b : ℤ) (n : ℕ) → IsLegalChange (accounts_of chart) b what
    → opening_of (with_change chart k what) n ≡ opening_of chart n
opening_with chart k what b n legal =
    ap (λ (accounts : List Account). opening_or (slice_get accounts (n - 1))) (accounts_with chart k what)
    ∙ opening_stays (accounts_of chart) what b (n - 1) legal

-- and each balance
pub balance_with_change : (chart : Chart) (k : ℕ) (what : What) (b : ℤ) (entries : List Entry) (n : ℕ) → IsLegalChange (accounts_of chart) b what
    → balance_of (with_change chart k what) entries n ≡ balance_of chart entries n
balance_with_change chart k what b entries n legal =
    ap (λ (z : ℤ). (z +ℤ pos (credits_of entries n)) -ℤ pos (debits_of entries n)) (opening_with chart k what b n legal)

-- outcomes are the same where the accounts of the time and the openings are
same_test : (a b : Chart) (entries : List Entry) (k : ℕ) (leg : Leg)
    → accounts_of (chart_at a (length entries)) ≡ accounts_of (chart_at b (length entries)) → ((n : ℕ) → opening_of a n ≡ opening_of b n)
    → leg_test a entries k leg ≡ leg_test b entries k leg
same_test a b entries k leg accounts openings =
    let n = leg.account.0 in
    let same : balance_of a entries n ≡ balance_of b entries n =
    ap (λ (z : ℤ). (z +ℤ pos (credits_of entries n)) -ℤ pos (debits_of entries n)) (openings n) in
    ap (λ (z : ℤ). unless (is_within (account_at (chart_at a (length entries)) n) (changed leg.side leg.amount.0 z)) (Unfunded k z)) same
    ∙ ap
    (λ (l : List Account). unless (is_within (slice_get l (n - 1)) (changed leg.side leg.amount.0 (balance_of b entries n)))
    (Unfunded k (balance_of b entries n))) accounts

same_tests : (a b : Chart) (entries : List Entry) (k : ℕ) (legs : List Leg)
    → accounts_of (chart_at a (length entries)) ≡ accounts_of (chart_at b (length entries)) → ((n : ℕ) → opening_of a n ≡ opening_of b n)
    → leg_tests a entries k legs ≡ leg_tests b entries k legs
same_tests a b entries k [] accounts openings = refl
same_tests a b entries k (leg ∷ legs) accounts openings =
    ap (λ (o : Option Outcome). o ∷ leg_tests a entries (k + 1) legs) (same_test a b entries k leg accounts openings)
    ∙ ap (λ (l : List (Option Outcome)). leg_test b entries k leg ∷ l) (same_tests a b entries (k + 1) legs accounts openings)

-- and so are outcomes
pub same_outcome : (a b : Chart) (entries : List Entry) (pay : Pay)
    → accounts_of (chart_at a (length entries)) ≡ accounts_of (chart_at b (length entries)) → ((n : ℕ) → opening_of a n ≡ opening_of b n)
    → outcome_of a entries pay ≡ outcome_of b entries pay
same_outcome a b entries pay accounts openings =
    ap (λ (l : List (Option Outcome)). unwrap_or (first_of l) Booked) (same_tests a b entries 1 pay.legs accounts openings)

-- ---- a legal history with one change more

-- the change isn't there before its time
accounts_before : (chart : Chart) (k i : ℕ) (what : What) → i < k → accounts_of (chart_at (with_change chart k what) i) ≡ accounts_of (chart_at chart i)
accounts_before chart k i what lt =
    let c : Change = record { after = k; what = what } in
    ap (λ (cs : List Change). all_changed cs chart.first)
    (filter-append (is_by i) chart.changes (c ∷ [])
    ∙ ap (λ (l : List Change). by_then i chart.changes ++ l) (filter_out (is_by i) c [] (lt-leb k i lt)) ∙ append-nil (by_then i chart.changes))

rules_with : (chart : Chart) (entries : List Entry) (what : What) (b : ℤ) → FollowsRules chart entries → IsLegalChange (accounts_of chart) b what
    → FollowsRules (with_change chart (length entries) what) entries
rules_with chart entries what b rules legal = record {
  short = rules.short;
  fits = λ i e at. subst (λ (accounts : List Account). (are_legs e.pay.legs && fit_in accounts e.pay.legs) ≡ true)
      (sym (accounts_before chart (length entries) i what (slice_get_within entries i e at))) (rules.fits i e at);
  decided = λ i e at.
      let lt = slice_get_within entries i e at in
      let size : length (take i entries) ≡ i = omega (arith, length-take i entries, lt) in
      rules.decided i e at
      ∙ sym (same_outcome (with_change chart (length entries) what) chart (take i entries) e.pay
      (accounts_before chart (length entries) (length (take i entries)) what (omega (arith, size, lt)))
      (λ n. opening_with chart (length entries) what b n legal));
  single = rules.single;
  days = rules.days;
}

-- a legal change may come after all entries
pub legal_with_change : ChangeStaysLegal
legal_with_change chart entries what legal room change =
    let k = length entries in
    let new : Chart = with_change chart k what in
    let c : Change = record { after = k; what = what } in
    let b : ℤ = balance_named (balance_of chart entries) what in
    let same : (j n : ℕ) → balance_at chart entries j n ≡ balance_at new entries j n =
    λ j n. sym (balance_with_change chart k what b (take j entries) n change) in
    let all : take k entries ≡ entries = take_all k entries (omega arith) in
    let last : IsLegalChange (accounts_of chart) (balance_named (balance_at new entries k) what) what =
    subst (λ (z : ℤ). IsLegalChange (accounts_of chart) z what)
    (named_same (balance_of chart entries) (balance_at new entries k) what
    (λ n. ap (λ (es : List Entry). balance_of chart es n) (sym all) ∙ same k n)) change in
    record {
      rules = rules_with chart entries what b legal.rules change;
      changes = record {
        few = omega (arith, room, length-append chart.changes (c ∷ []));
        by_now = list_all-append (is_by k) chart.changes (c ∷ []) legal.changes.by_now (and_from (is_by k c) true (le-leb k k (omega arith)) refl);
        in_order = in_order_push chart.changes k what legal.changes.in_order legal.changes.by_now;
        in_turn = in_turn_both (balance_at new entries) chart.first chart.changes (c ∷ [])
            (in_turn_same (balance_at chart entries) (balance_at new entries) k chart.first chart.changes (λ j n le. same j n) legal.changes.by_now
            legal.changes.in_turn)
            (last, tt);
      };
    }

-- the last change of a legal history was legal when it came
pub last_change : (chart : Chart) (entries : List Entry) (k : ℕ) (what : What) → IsLegal (with_change chart k what) entries
    → IsLegalChange (accounts_of chart) (balance_named (balance_at (with_change chart k what) entries k) what) what
last_change chart entries k what legal =
    (in_turn_parts (balance_at (with_change chart k what) entries) chart.first chart.changes (record { after = k; what = what } ∷ [])
    legal.changes.in_turn).1.0

-- ---- the accounts of a book with one change more are those of a book

formed_still : (a b : Account) → IsStill a b → IsFormed a → IsFormed b
formed_still a b still f =
    subst IsFormed (sym still) (record {
      id_given = f.id_given;
      id_short = f.id_short;
      id_plain = f.id_plain;
      kind = f.kind;
      owner = f.owner;
      ccy = f.ccy;
      decimals = f.decimals;
    })

-- what an account was before a change of limits
record Was (accounts : List Account) (j : ℕ) (b : Account) : Type 0 where
  old : Account
  at : slice_get accounts j ≡ Some old
  still : IsStill old b
  bounded : IsBounded old → IsBounded b

was : (accounts : List Account) (m : ℕ) (floor ceil : ℤ) (j : ℕ) (b : Account) (o : Option Account) → IsBounded (with_ends floor ceil b)
    → slice_get accounts (m - 1) ≡ o → slice_get (option_map_or (λ x. slice_set accounts (m - 1) (with_ends floor ceil x)) o accounts) j ≡ Some b
    → Was accounts j b
was accounts m floor ceil j b None ends there at = record { old = b; at = at; still = refl; bounded = λ x. x }
was accounts m floor ceil j b (Some x) ends there at =
    let y : Account = with_ends floor ceil x in
    elim (cases_eq j (m - 1)) [
      | inl here ↦
          let read : slice_get (slice_set accounts (m - 1) y) j ≡ Some y =
          ap (slice_get (slice_set accounts (m - 1) y)) here ∙ slice_get-set_same accounts (m - 1) y (slice_get_within accounts (m - 1) x there) in
          let is : y ≡ b = same_Some y b (sym read ∙ at) in
          record {
            old = x;
            at = ap (slice_get accounts) here ∙ there;
            still = subst (λ (z : Account). IsStill x z) is refl;
            bounded = λ _. subst IsBounded is ends;
          }
      | inr other ↦ record { old = b; at = sym (slice_get-set_other accounts (m - 1) j y other) ∙ at; still = refl; bounded = λ x. x }
    ]

opened_accounts : (accounts : List Account) (account : Account) → AreAccounts accounts → AreApart (accounts ++ account ∷ []) → IsBounded account
    → AreAccounts (accounts ++ account ∷ [])
opened_accounts accounts account rows apart bounded = record {
  apart = apart;
  bounded = λ i a at. elim (in_pushed accounts account i a at) [
    | inl old ↦ rows.bounded i a old
    | inr is ↦ subst IsBounded is.1 bounded
  ];
}

same_size : (accounts : List Account) (m : ℕ) (floor ceil : ℤ) (o : Option Account)
    → length (option_map_or (λ x. slice_set accounts (m - 1) (with_ends floor ceil x)) o accounts) ≡ length accounts
same_size accounts m floor ceil None = refl
same_size accounts m floor ceil (Some x) = length-set accounts (m - 1) (with_ends floor ceil x)

limited_accounts : (accounts : List Account) (n : AcctNo) (floor ceil : ℤ) → AreAccounts accounts → ((b : Account) → IsBounded (with_ends floor ceil b))
    → AreAccounts (changed_by (Limits n floor ceil) accounts)
limited_accounts accounts n floor ceil rows ends =
    let o = slice_get accounts (n.0 - 1) in
    let before : (j : ℕ) (b : Account) → slice_get (changed_by (Limits n floor ceil) accounts) j ≡ Some b → Was accounts j b =
    λ j b at. was accounts n.0 floor ceil j b o (ends b) refl at in
    record {
      apart = record {
        few = omega (arith, same_size accounts n.0 floor ceil o, rows.apart.few);
        formed = λ j b at. let w = before j b at in formed_still w.old b w.still (rows.apart.formed j w.old w.at);
        ids = λ i j a b at_i at_j same.
            let v = before i a at_i in
            let w = before j b at_j in
            rows.apart.ids i j v.old w.old v.at w.at (sym (ap (λ (x : Account). x.id) v.still) ∙ same ∙ ap (λ (x : Account). x.id) w.still);
        banks = λ i j a b at_i at_j same.
            let v = before i a at_i in
            let w = before j b at_j in
            let kind_v = ap (λ (x : Account). x.kind) v.still in
            let kind_w = ap (λ (x : Account). x.kind) w.still in
            rows.apart.banks i j v.old w.old v.at w.at (record {
              bank = λ is. same.bank (kind_v ∙ is);
              kinds = sym kind_v ∙ same.kinds ∙ kind_w;
              heads = sym (ap (λ (x : Account). x.owner.head) v.still) ∙ same.heads ∙ ap (λ (x : Account). x.owner.head) w.still;
              ccys = sym (ap (λ (x : Account). x.ccy.0) v.still) ∙ same.ccys ∙ ap (λ (x : Account). x.ccy.0) w.still;
            });
        decimals = λ i j a b at_i at_j same.
            let v = before i a at_i in
            let w = before j b at_j in
            ap (λ (x : Account). x.decimals) v.still
            ∙ rows.apart.decimals i j v.old w.old v.at w.at (sym (ap (λ (x : Account). x.ccy) v.still) ∙ same ∙ ap (λ (x : Account). x.ccy) w.still)
            ∙ sym (ap (λ (x : Account). x.decimals) w.still);
      };
      bounded = λ j b at. let w = before j b at in w.bounded (rows.bounded j w.old w.at);
    }

accounts_after : (accounts : List Account) (what : What) (b : ℤ) → AreAccounts accounts → IsLegalChange accounts b what → AreAccounts (changed_by what accounts)
accounts_after accounts (Opened account) b rows legal =
    opened_accounts accounts account rows legal.apart (legal.limited.floor_small, legal.limited.ceil_small)
accounts_after accounts (Limits n floor ceil) b rows legal = limited_accounts accounts n floor ceil rows (λ x. (legal.ends.floor_small, legal.ends.ceil_small))

-- sums of openings
opened_sum : (ccy : Ccy) (accounts : List Account) (account : Account) → account.opening ≡ pos 0
    → opening_sum ccy (accounts ++ account ∷ []) ≡ opening_sum ccy accounts
opened_sum ccy [] account empty =
    cond_both (is_same_ccy account.ccy ccy) account.opening (pos 0) (λ (z : ℤ). z +ℤ pos 0 ≡ pos 0)
    (λ _. ap (λ (z : ℤ). z +ℤ pos 0) empty) (λ _. refl)
opened_sum ccy (x ∷ accounts) account empty =
    ap (λ (z : ℤ). (if is_same_ccy x.ccy ccy then x.opening else pos 0) +ℤ z) (opened_sum ccy accounts account empty)

limited_sum : (ccy : Ccy) (accounts : List Account) (i : ℕ) (floor ceil : ℤ) (x : Account) → slice_get accounts i ≡ Some x
    → opening_sum ccy (slice_set accounts i (with_ends floor ceil x)) ≡ opening_sum ccy accounts
limited_sum ccy [] i floor ceil x at = refl
limited_sum ccy (y ∷ accounts) zero floor ceil x at =
    ap (λ (z : Account). (if is_same_ccy z.ccy ccy then z.opening else pos 0) +ℤ opening_sum ccy accounts) (sym (same_Some y x at))
limited_sum ccy (y ∷ accounts) (suc i) floor ceil x at =
    ap (λ (z : ℤ). (if is_same_ccy y.ccy ccy then y.opening else pos 0) +ℤ z) (limited_sum ccy accounts i floor ceil x at)

limits_sum : (ccy : Ccy) (accounts : List Account) (i : ℕ) (floor ceil : ℤ) (o : Option Account) → slice_get accounts i ≡ o
    → opening_sum ccy (option_map_or (λ x. slice_set accounts i (with_ends floor ceil x)) o accounts) ≡ opening_sum ccy accounts
limits_sum ccy accounts i floor ceil None at = refl
limits_sum ccy accounts i floor ceil (Some x) at = limited_sum ccy accounts i floor ceil x at

sum_after : (ccy : Ccy) (accounts : List Account) (what : What) (b : ℤ) → IsLegalChange accounts b what
    → opening_sum ccy (changed_by what accounts) ≡ opening_sum ccy accounts
sum_after ccy accounts (Opened account) b legal = opened_sum ccy accounts account legal.empty
sum_after ccy accounts (Limits n floor ceil) b legal = limits_sum ccy accounts (n.0 - 1) floor ceil (slice_get accounts (n.0 - 1)) refl

-- with a legal change the accounts are those of a book
pub chart_with_change : (chart : Chart) (k : ℕ) (what : What) (b : ℤ) → IsChart chart → IsLegalChange (accounts_of chart) b what
    → IsChart (with_change chart k what)
chart_with_change chart k what b sound legal = record {
  first = sound.first;
  first_balanced = sound.first_balanced;
  rows = subst AreAccounts (sym (accounts_with chart k what)) (accounts_after (accounts_of chart) what b sound.rows legal);
  balanced = λ ccy. ap (opening_sum ccy) (accounts_with chart k what) ∙ sum_after ccy (accounts_of chart) what b legal ∙ sound.balanced ccy;
}

-- a book without changes
pub chart_of_first : (chart : Chart) → chart.changes ≡ [] → AreRows chart.first → AreBalanced chart.first → IsChart chart
chart_of_first chart none rows balanced =
    let now : accounts_of chart ≡ chart.first = ap (λ (cs : List Change). all_changed cs chart.first) none in
    record {
      first = rows;
      first_balanced = balanced;
      rows = subst AreAccounts (sym now) (record {
        apart = rows.apart;
        bounded = λ i a at. let ends = rows.limited i a at in (ends.floor_small, ends.ceil_small);
      });
      balanced = λ ccy. ap (opening_sum ccy) now ∙ balanced ccy;
    }

-- ---- the list of accounts after all changes

-- what may change can be made
pub can_make : (accounts : List Account) (b : ℤ) (what : What) → IsLegalChange accounts b what → CanMake accounts what
can_make accounts b (Opened account) legal = tt
can_make accounts b (Limits n floor ceil) legal = legal.listed

-- the list of the accounts that a book begins with
pub keeps_first : (chart : Chart) (rows : List Account) → chart.changes ≡ [] → AreRows chart.first → AreBalanced chart.first → rows ≡ chart.first
    → KeepsRows chart rows
keeps_first chart rows none first balanced are = record {
  sound = chart_of_first chart none first balanced;
  rows_are = are ∙ ap (λ (cs : List Change). all_changed cs chart.first) (sym none);
}

-- and with one change more
pub keeps_with_change : (chart : Chart) (entries : List Entry) (k : ℕ) (what : What) (rows new : List Account) (changes : List Change) → KeepsRows chart rows
    → IsLegal (with_change chart k what) entries → new ≡ changed_by what rows → changes ≡ chart.changes ++ record { after = k; what = what } ∷ []
    → KeepsRows (record chart { changes = changes }) new
keeps_with_change chart entries k what rows new changes keeps legal made is =
    subst (λ (cs : List Change). KeepsRows (record chart { changes = cs }) new) (sym is) (record {
      sound = chart_with_change chart k what (balance_named (balance_at (with_change chart k what) entries k) what) keeps.sound
          (last_change chart entries k what legal);
      rows_are = made ∙ ap (changed_by what) keeps.rows_are ∙ sym (accounts_with chart k what);
    })
