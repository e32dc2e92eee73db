-- Each account's balance lies within the limits that it has at the time.
use Rattle.std.proofs.Common.{◌≡◌, ℕ, zero, suc, ◌+◌, ◌-◌, ◌≤◌, Bool, true, List, [], ◌∷◌, ◌++◌, Option, Some, None, refl, sym, ap, ◌∙◌, subst, arith}
use Rattle.std.proofs.Common.{length, take, length-take, ℤ, pos, neg_ℤ, ◌+ℤ◌, ◌-ℤ◌, ◌≤ℤ◌, inl, inr}
use Rattle.std.specs.Prelude.{filter, int_le, sum_by, slice_get, slice_set, unwrap_or, option_map}
use Rattle.std.specs.List.{list_all}
use Rattle.std.specs.Option.{option_map_or}
use Rattle.std.proofs.lemmas.Bool.{and_from, and_parts, cases_Bool, cases_eq, cases_lt, cond-true, cond-false, eqb-true, false≢true, leb-true}
use Rattle.std.proofs.lemmas.Int.{ints}
use Rattle.std.proofs.lemmas.List.{length-set, take_all}
use Rattle.std.proofs.lemmas.Option.{none-some, slice_get_cases, slice_get_past, slice_get_within, slice_get-get_or}
use Rattle.corr_text.specs.First.{first_of}
use Rattle.day_model.specs.declared.account.Account.{Account}
use Rattle.day_model.specs.declared.change.Change.{Change}
use Rattle.day_model.specs.declared.change.What.{What}
use Rattle.day_model.specs.declared.change.What.TheVariants.{Opened, Limits}
use Rattle.day_model.specs.declared.pay.Side.{Side}
use Rattle.day_model.specs.declared.pay.Side.TheVariants.{Debit, Credit}
use Rattle.day_model.specs.declared.pay.Leg.{Leg}
use Rattle.day_model.specs.declared.entry.Entry.{Entry}
use Rattle.day_model.specs.declared.entry.Outcome.{Outcome}
use Rattle.day_model.specs.declared.entry.Outcome.TheVariants.{Booked, Unfunded}
use Rattle.day_model.specs.Changes.{all_changed, by_then, changed_by, is_just, just_then, with_ends}
use Rattle.day_model.specs.Chart.{AreEnds, Chart, IsChart, IsListed, IsLimited, IsSmall, account_at, accounts_of, chart_at}
use Rattle.day_model.specs.Fit.{amount_on, are_apart}
use Rattle.day_model.specs.Balance.{is_booked, moved, moved_by, balance_of, changed, is_within, leg_tests, opening_of}
use Rattle.day_model.specs.Legal.{AreLegalInTurn, FollowsRules, IsLegal, IsLegalChange, balance_at, balance_named}
use Rattle.day_model.specs.Laws.{WasWithin}
use Rattle.day_model.proofs.laws.Balances.{all_pass, balance_more, booked_moves, leg_changes, none_fails, unmoved}
use Rattle.day_model.proofs.laws.Changes.{accounts_next, accounts_now, by_next, by_none, changes_stay, in_turn_by, in_turn_parts}
use Rattle.day_model.proofs.laws.Fitting.{fitting, listed_account}
use Rattle.day_model.proofs.laws.Legs.{leg_on, own_moves}
use Rattle.day_model.proofs.laws.Slices.{in_pushed, push_before, push_last, push_past, slice_get-set_other, slice_get-set_same}

-- an account that is there has its balance between its ends, and one that isn't there has none
abbrev pub Stands : Option Account → ℤ → Type 0
Stands (Some a) balance = AreEnds a.floor a.ceil balance
Stands None balance = balance ≡ pos 0

-- each account stands with its balance
abbrev pub AllStand : List Account → (ℕ → ℤ) → Type 0
AllStand accounts balance = (n : ℕ) → 1 ≤ n → Stands (slice_get accounts (n - 1)) (balance n)

not_over : (x y : ℤ) → int_le x y ≡ true → x ≤ℤ y
not_over x y e = grind (arith, ints)

over : (x y : ℤ) → x ≤ℤ y → int_le x y ≡ true
over x y e = grind (arith, ints)

between : (x y z : ℤ) → x ≤ℤ y → y ≤ℤ z → x ≤ℤ z
between x y z p q = omega (arith, ints)

within_stands : (o : Option Account) (b c : ℤ) → Stands o b → is_within o c ≡ true → Stands o c
within_stands None b c before within = absurd (false≢true within)
within_stands (Some a) b c before within =
    let parts = and_parts (int_le a.floor c) (int_le c a.ceil) within in
    record {
      floor_small = before.floor_small;
      ceil_small = before.ceil_small;
      above_floor = not_over a.floor c parts.0;
      below_ceil = not_over c a.ceil parts.1;
    }

stands_within : (o : Option Account) (a : Account) (b : ℤ) → o ≡ Some a → Stands o b → is_within o b ≡ true
stands_within None a b there stands = absurd (none-some a there)
stands_within (Some x) a b there stands =
    and_from (int_le x.floor b) (int_le b x.ceil) (over x.floor b stands.above_floor) (over b x.ceil stands.below_ceil)

stands_small : (o : Option Account) (b : ℤ) → Stands o b → IsSmall b
stands_small None b stands = subst (λ (z : ℤ). IsSmall z) (sym stands) (omega (arith, ints), omega (arith, ints))
stands_small (Some a) b stands = (
  between (neg_ℤ (pos 99999999999999)) a.floor b stands.floor_small.0 stands.above_floor,
  between b a.ceil (pos 99999999999999) stands.below_ceil stands.ceil_small.1,
)

-- ---- an entry leaves each account within the limits of its time

booked_stands : (chart : Chart) (entries : List Entry) (legs : List Leg) (n : ℕ) → are_apart legs ≡ true
    → first_of (leg_tests chart entries 1 legs) ≡ None → Stands (account_at (chart_at chart (length entries)) n) (balance_of chart entries n)
    → Stands (account_at (chart_at chart (length entries)) n)
    ((balance_of chart entries n +ℤ pos (sum_by (moved Credit n) legs)) -ℤ pos (sum_by (moved Debit n) legs))
booked_stands chart entries legs n apart none before =
    let o : Option Account = account_at (chart_at chart (length entries)) n in
    let b : ℤ = balance_of chart entries n in
    elim (leg_on legs n) [
      | inl found ↦
          let leg = found.leg in
          let own : (side : Side) → sum_by (moved side n) legs ≡ amount_on side leg =
          λ side. ap (λ (m : ℕ). sum_by (moved side m) legs) (sym found.on) ∙ own_moves side legs found.place leg apart found.at in
          let pass = all_pass chart entries 1 legs found.place leg none found.at in
          let here : is_within o (changed leg.side leg.amount.0 b) ≡ true =
          subst
          (λ (m : ℕ). is_within (account_at (chart_at chart (length entries)) m) (changed leg.side leg.amount.0 (balance_of chart entries m)) ≡ true)
          found.on pass in
          let is : (b +ℤ pos (sum_by (moved Credit n) legs)) -ℤ pos (sum_by (moved Debit n) legs) ≡ changed leg.side leg.amount.0 b =
          ap (λ (x : ℕ). (b +ℤ pos x) -ℤ pos (sum_by (moved Debit n) legs)) (own Credit)
          ∙ ap (λ (x : ℕ). (b +ℤ pos (amount_on Credit leg)) -ℤ pos x) (own Debit)
          ∙ leg_changes leg.side leg b refl in
          subst (λ (z : ℤ). Stands o z) (sym is) (within_stands o b (changed leg.side leg.amount.0 b) before here)
      | inr nothing ↦
          let left : (b +ℤ pos 0) -ℤ pos 0 ≡ b = omega (arith, ints) in
          let is : (b +ℤ pos (sum_by (moved Credit n) legs)) -ℤ pos (sum_by (moved Debit n) legs) ≡ b =
          ap (λ (x : ℕ). (b +ℤ pos x) -ℤ pos (sum_by (moved Debit n) legs)) (nothing Credit)
          ∙ ap (λ (x : ℕ). (b +ℤ pos 0) -ℤ pos x) (nothing Debit) ∙ left in
          subst (λ (z : ℤ). Stands o z) (sym is) before
    ]

step_stands : (chart : Chart) (entries : List Entry) (n i : ℕ) (e : Entry) (out : Outcome) → FollowsRules chart entries → slice_get entries i ≡ Some e
    → e.outcome ≡ out → Stands (account_at (chart_at chart (length (take i entries))) n) (balance_of chart (take i entries) n)
    → Stands (account_at (chart_at chart (length (take i entries))) n)
    ((balance_of chart (take i entries) n +ℤ pos (moved_by Credit n e)) -ℤ pos (moved_by Debit n e))
step_stands chart entries n i e (Unfunded k x) rules at out before =
    let o : Option Account = account_at (chart_at chart (length (take i entries))) n in
    let b : ℤ = balance_of chart (take i entries) n in
    let left : (b +ℤ pos 0) -ℤ pos 0 ≡ b = omega (arith, ints) in
    let is : (b +ℤ pos (moved_by Credit n e)) -ℤ pos (moved_by Debit n e) ≡ b =
    ap (λ (x : ℕ). (b +ℤ pos x) -ℤ pos (moved_by Debit n e)) (unmoved Credit n e (ap is_booked out))
    ∙ ap (λ (x : ℕ). (b +ℤ pos 0) -ℤ pos x) (unmoved Debit n e (ap is_booked out)) ∙ left in
    subst (λ (z : ℤ). Stands o z) (sym is) before
step_stands chart entries n i e Booked rules at out before =
    let o : Option Account = account_at (chart_at chart (length (take i entries))) n in
    let b : ℤ = balance_of chart (take i entries) n in
    let legs : List Leg = e.pay.legs in
    let fit = fitting (chart_at chart i) legs (rules.fits i e at) in
    let none = none_fails chart (take i entries) 1 legs (sym out ∙ rules.decided i e at) in
    let is : (b +ℤ pos (moved_by Credit n e)) -ℤ pos (moved_by Debit n e)
    ≡ (b +ℤ pos (sum_by (moved Credit n) legs)) -ℤ pos (sum_by (moved Debit n) legs) =
    ap (λ (x : ℕ). (b +ℤ pos x) -ℤ pos (moved_by Debit n e)) (booked_moves Credit n e (ap is_booked out))
    ∙ ap (λ (x : ℕ). (b +ℤ pos (sum_by (moved Credit n) legs)) -ℤ pos x) (booked_moves Debit n e (ap is_booked out)) in
    subst (λ (z : ℤ). Stands o z) (sym is) (booked_stands chart (take i entries) legs n fit.apart none before)

entry_stands : (chart : Chart) (entries : List Entry) (i : ℕ) (e : Entry) → FollowsRules chart entries → slice_get entries i ≡ Some e
    → AllStand (accounts_of (chart_at chart i)) (balance_at chart entries i) → AllStand (accounts_of (chart_at chart i)) (balance_at chart entries (i + 1))
entry_stands chart entries i e rules at before n one =
    let size : length (take i entries) ≡ i = omega (arith, length-take i entries, slice_get_within entries i e at) in
    let b : ℤ = balance_of chart (take i entries) n in
    let here : Stands (account_at (chart_at chart (length (take i entries))) n) b =
    subst (λ (k : ℕ). Stands (account_at (chart_at chart k) n) b) (sym size) (before n one) in
    let after = step_stands chart entries n i e e.outcome rules at refl here in
    subst (λ (z : ℤ). Stands (account_at (chart_at chart i) n) z) (sym (balance_more chart entries n i e at))
    (subst (λ (k : ℕ). Stands (account_at (chart_at chart k) n) ((b +ℤ pos (moved_by Credit n e)) -ℤ pos (moved_by Debit n e))) size after)

-- ---- and so does a change

opened_stands : (accounts : List Account) (account : Account) (balance : ℕ → ℤ) (n : ℕ) → 1 ≤ n → account.opening ≡ pos 0 → IsLimited account
    → Stands (slice_get accounts (n - 1)) (balance n) → Stands (slice_get (accounts ++ account ∷ []) (n - 1)) (balance n)
opened_stands accounts account balance n one empty limited before =
    elim (cases_lt (n - 1) (length accounts)) [
      | inl lt ↦
          let old = slice_get-get_or accounts (n - 1) account lt in
          let new = push_before accounts account (n - 1) _ old in
          subst (λ (o : Option Account). Stands o (balance n)) (old ∙ sym new) before
      | inr past ↦
          let none : slice_get accounts (n - 1) ≡ None = slice_get_past accounts (n - 1) past in
          let nothing : balance n ≡ pos 0 = subst (λ (o : Option Account). Stands o (balance n)) none before in
          elim (cases_eq (n - 1) (length accounts)) [
            | inl last ↦
                let new : slice_get (accounts ++ account ∷ []) (n - 1) ≡ Some account =
                ap (slice_get (accounts ++ account ∷ [])) last ∙ push_last accounts account in
                subst (λ (o : Option Account). Stands o (balance n)) (sym new)
                (subst (λ (z : ℤ). AreEnds account.floor account.ceil z) (empty ∙ sym nothing) limited)
            | inr other ↦
                let new : slice_get (accounts ++ account ∷ []) (n - 1) ≡ None = push_past accounts account (n - 1) (omega (arith, past, other)) in
                subst (λ (o : Option Account). Stands o (balance n)) (sym new) nothing
          ]
    ]

limited_stands : (accounts : List Account) (m : ℕ) (floor ceil : ℤ) (balance : ℕ → ℤ) (n : ℕ) (o : Option Account) → 1 ≤ n → 1 ≤ m
    → slice_get accounts (m - 1) ≡ o → AreEnds floor ceil (balance m) → Stands (slice_get accounts (n - 1)) (balance n)
    → Stands (slice_get (option_map_or (λ x. slice_set accounts (m - 1) (with_ends floor ceil x)) o accounts) (n - 1)) (balance n)
limited_stands accounts m floor ceil balance n None one from there ends before = before
limited_stands accounts m floor ceil balance n (Some x) one from there ends before =
    let y : Account = with_ends floor ceil x in
    elim (cases_eq (n - 1) (m - 1)) [
      | inl here ↦
          let same : m ≡ n = omega (arith, here, one, from) in
          let new : slice_get (slice_set accounts (m - 1) y) (n - 1) ≡ Some y =
          ap (slice_get (slice_set accounts (m - 1) y)) here ∙ slice_get-set_same accounts (m - 1) y (slice_get_within accounts (m - 1) x there) in
          subst (λ (p : Option Account). Stands p (balance n)) (sym new) (subst (λ (k : ℕ). AreEnds floor ceil (balance k)) same ends)
      | inr other ↦
          subst (λ (p : Option Account). Stands p (balance n)) (sym (slice_get-set_other accounts (m - 1) (n - 1) y other)) before
    ]

change_stands : (what : What) (accounts : List Account) (balance : ℕ → ℤ) → IsLegalChange accounts (balance_named balance what) what
    → AllStand accounts balance → AllStand (changed_by what accounts) balance
change_stands (Opened account) accounts balance legal before n one = opened_stands accounts account balance n one legal.empty legal.limited (before n one)
change_stands (Limits m floor ceil) accounts balance legal before n one =
    limited_stands accounts m.0 floor ceil balance n (slice_get accounts (m.0 - 1)) one (leb-true _ _ (and_parts _ _ legal.listed).0) refl legal.ends (before n one)

changes_stand : (b : ℕ → ℕ → ℤ) (k : ℕ) (cs : List Change) (accounts : List Account) → list_all (is_just k) cs ≡ true → AreLegalInTurn b accounts cs
    → AllStand accounts (b k) → AllStand (all_changed cs accounts) (b k)
changes_stand b k [] accounts just legal before = before
changes_stand b k (c ∷ cs) accounts just legal before =
    let parts = and_parts (is_just k c) (list_all (is_just k) cs) just in
    let now : IsLegalChange accounts (balance_named (b k) c.what) c.what =
    subst (λ (m : ℕ). IsLegalChange accounts (balance_named (b m) c.what) c.what) (eqb-true _ _ parts.0) legal.0 in
    changes_stand b k cs (changed_by c.what accounts) parts.1 legal.1 (change_stands c.what accounts (b k) now before)

all_pass_filter : {A : Type 0} (p : A → Bool) (xs : List A) → list_all p (filter p xs) ≡ true
all_pass_filter p [] = refl
all_pass_filter {A = A} p (x ∷ xs) =
    elim (cases_Bool (p x)) [
      | inl kept ↦
          subst (λ (l : List A). list_all p l ≡ true) (sym (cond-true (p x) (x ∷ filter p xs) (filter p xs) kept))
          (and_from (p x) (list_all p (filter p xs)) kept (all_pass_filter p xs))
      | inr out ↦ subst (λ (l : List A). list_all p l ≡ true) (sym (cond-false (p x) (x ∷ filter p xs) (filter p xs) out)) (all_pass_filter p xs)
    ]

-- ---- from the beginning

-- the opening of an account that may be there
abbrev pub opening_or : Option Account → ℤ
opening_or o = unwrap_or (option_map (λ account. account.opening) o) (pos 0)

-- an account that a legal change brings opens with 0
pub new_is_empty : (what : What) (accounts : List Account) (b : ℤ) (j : ℕ) (x : Account) → IsLegalChange accounts b what → slice_get accounts j ≡ None
    → slice_get (changed_by what accounts) j ≡ Some x → x.opening ≡ pos 0
new_is_empty (Opened account) accounts b j x legal none at = elim (in_pushed accounts account j x at) [
  | inl old ↦ absurd (none-some x (sym none ∙ old))
  | inr is ↦ subst (λ (y : Account). y.opening ≡ pos 0) is.1 legal.empty
]
new_is_empty (Limits m floor ceil) accounts b j x legal none at = by (slice_get accounts (m.0 - 1)) at
  where
    by : (o : Option Account) → slice_get (option_map_or (λ y. slice_set accounts (m.0 - 1) (with_ends floor ceil y)) o accounts) j ≡ Some x
        → x.opening ≡ pos 0
    by None here = absurd (none-some x (sym none ∙ here))
    by (Some y) here =
        let lt = slice_get_within (slice_set accounts (m.0 - 1) (with_ends floor ceil y)) j x here in
        let size = length-set accounts (m.0 - 1) (with_ends floor ceil y) in
        absurd (none-some _ (sym none ∙ slice_get-get_or accounts j x (omega (arith, lt, size))))

-- an account that comes later opens with 0
opens_empty : (b : ℕ → ℕ → ℤ) (cs : List Change) (accounts : List Account) (j : ℕ) → AreLegalInTurn b accounts cs → slice_get accounts j ≡ None
    → opening_or (slice_get (all_changed cs accounts) j) ≡ pos 0
opens_empty b [] accounts j legal none = ap opening_or none
opens_empty b (c ∷ cs) accounts j legal none =
    let next : List Account = changed_by c.what accounts in
    elim (slice_get_cases next j).1 [
      | inl found ↦
          let last = changes_stay cs next j found.0 found.2 in
          let empty = new_is_empty c.what accounts (balance_named (b c.after) c.what) j found.0 legal.0 none found.2 in
          ap opening_or last.1 ∙ ap (λ (y : Account). y.opening) last.2 ∙ empty
      | inr past ↦ opens_empty b cs next j legal.1 (slice_get_past next j past.0)
    ]

first_stands : (chart : Chart) (entries : List Entry) (n : ℕ) (o : Option Account) → IsChart chart → IsLegal chart entries → slice_get chart.first (n - 1) ≡ o
    → Stands o (opening_of chart n)
first_stands chart entries n None sound legal at = opens_empty (balance_at chart entries) chart.changes chart.first (n - 1) legal.changes.in_turn at
first_stands chart entries n (Some a) sound legal at =
    let last = changes_stay chart.changes chart.first (n - 1) a at in
    let opening : opening_of chart n ≡ a.opening = ap opening_or last.1 ∙ ap (λ (y : Account). y.opening) last.2 in
    subst (λ (z : ℤ). AreEnds a.floor a.ceil z) (sym opening) (sound.first.limited (n - 1) a at)

-- at each place of a legal history each account stands
pub all_stand : (chart : Chart) (entries : List Entry) (i : ℕ) → IsChart chart → IsLegal chart entries → i ≤ length entries
    → AllStand (accounts_of (chart_at chart i)) (balance_at chart entries i)
all_stand chart entries zero sound legal le =
    let b = balance_at chart entries in
    let order = legal.changes.in_order in
    let just : list_all (is_just 0) (by_then 0 chart.changes) ≡ true =
    subst (λ (cs : List Change). list_all (is_just 0) cs ≡ true) (sym (by_none chart.changes)) (all_pass_filter (is_just 0) chart.changes) in
    let first : AllStand chart.first (b 0) = λ n one.
    let left : (opening_of chart n +ℤ pos 0) -ℤ pos 0 ≡ opening_of chart n = omega (arith, ints) in
    subst (λ (z : ℤ). Stands (slice_get chart.first (n - 1)) z) (sym left) (first_stands chart entries n (slice_get chart.first (n - 1)) sound legal refl) in
    changes_stand b 0 (by_then 0 chart.changes) chart.first just (in_turn_by b chart.first chart.changes 0 order legal.changes.in_turn) first
all_stand chart entries (suc i) sound legal le =
    elim (slice_get_cases entries i).1 [
      | inl found ↦
          let b = balance_at chart entries in
          let order = legal.changes.in_order in
          let cs : List Change = chart.changes in
          let before = all_stand chart entries i sound legal (omega (arith, le)) in
          let entered = entry_stands chart entries i found.0 legal.rules found.2 before in
          let turn : AreLegalInTurn b chart.first (by_then i cs ++ just_then (i + 1) cs) =
          subst (λ (l : List Change). AreLegalInTurn b chart.first l) (by_next i cs order) (in_turn_by b chart.first cs (i + 1) order legal.changes.in_turn) in
          let legal_now = (in_turn_parts b chart.first (by_then i cs) (just_then (i + 1) cs) turn).1 in
          let after =
          changes_stand b (i + 1) (just_then (i + 1) cs) (accounts_of (chart_at chart i)) (all_pass_filter (is_just (i + 1)) cs) legal_now entered in
          let all : AllStand (accounts_of (chart_at chart (i + 1))) (b (i + 1)) =
          subst (λ (accounts : List Account). AllStand accounts (b (i + 1))) (sym (accounts_next chart i order)) after in
          let next : i + 1 ≡ suc i = omega arith in
          subst (λ (k : ℕ). AllStand (accounts_of (chart_at chart k)) (b k)) next all
      | inr past ↦ absurd (omega (arith, past.0, le))
    ]

-- at each place of a legal history the balance of an account that is there lies within the floor and the ceiling of the time
pub within_at : (chart : Chart) (entries : List Entry) (n i : ℕ) → IsChart chart → IsLegal chart entries → IsListed (chart_at chart i) n → i ≤ length entries
    → is_within (account_at (chart_at chart i) n) (balance_of chart (take i entries) n) ≡ true
within_at chart entries n i sound legal there le =
    let a = listed_account (chart_at chart i) n there in
    stands_within (account_at (chart_at chart i) n) a.0 (balance_of chart (take i entries) n) a.1 (all_stand chart entries i sound legal le n there.0)

-- at the end: within those that it has now
pub within_now : (chart : Chart) (entries : List Entry) (n : ℕ) → IsChart chart → IsLegal chart entries → IsListed chart n
    → is_within (account_at chart n) (balance_of chart entries n) ≡ true
within_now chart entries n sound legal there =
    let now = accounts_now chart (length entries) legal.changes.by_now in
    let at_last : IsListed (chart_at chart (length entries)) n =
    subst (λ (accounts : List Account). (1 ≤ n) × (n ≤ length accounts)) (sym now) there in
    let within = within_at chart entries n (length entries) sound legal at_last (omega arith) in
    subst (λ (accounts : List Account). is_within (slice_get accounts (n - 1)) (balance_of chart entries n) ≡ true) now
    (subst (λ (es : List Entry). is_within (account_at (chart_at chart (length entries)) n) (balance_of chart es n) ≡ true)
    (take_all (length entries) entries (omega arith)) within)

-- at each time before a balance lay within the limits of then
pub was_within : (chart : Chart) (entries : List Entry) (n : ℕ) → IsChart chart → IsLegal chart entries → WasWithin chart entries n
was_within chart entries n sound legal k le there = within_at chart entries n k sound legal there le

-- a balance within the ends of an account is below 10^14 in size
pub small_balance : (chart : Chart) (n : ℕ) (b : ℤ) → IsChart chart → IsListed chart n → is_within (account_at chart n) b ≡ true → IsSmall b
small_balance chart n b sound there within =
    let a = listed_account chart n there in
    let ends = sound.rows.bounded (n - 1) a.0 a.1 in
    let parts = and_parts (int_le a.0.floor b) (int_le b a.0.ceil) (subst (λ (p : Option Account). is_within p b ≡ true) a.1 within) in (
      between (neg_ℤ (pos 99999999999999)) a.0.floor b ends.0.0 (not_over a.0.floor b parts.0),
      between b a.0.ceil (pos 99999999999999) (not_over b a.0.ceil parts.1) ends.1.1,
    )

-- after each entry of a legal history the balance of an account is below 10^14 in size, also before the account is opened
pub small_at : (chart : Chart) (entries : List Entry) (n i : ℕ) → IsChart chart → IsLegal chart entries → IsListed chart n → i ≤ length entries
    → IsSmall (balance_of chart (take i entries) n)
small_at chart entries n i sound legal there le =
    stands_small (account_at (chart_at chart i) n) (balance_of chart (take i entries) n) (all_stand chart entries i sound legal le n there.0)
