-- Changes in the order of their times, and what of accounts stays under them.
use Rattle.std.proofs.Common.{◌≡◌, ℕ, ◌+◌, ◌-◌, ◌<◌, ◌≤◌, Bool, true, false, List, [], ◌∷◌, ◌++◌, Option, Some, None, refl, sym, ap, ◌∙◌, subst}
use Rattle.std.proofs.Common.{arith, inl, inr, ℤ}
use Rattle.std.specs.Prelude.{filter, slice_get, slice_set}
use Rattle.std.specs.List.{list_all}
use Rattle.std.specs.Option.{option_map_or}
use Rattle.std.proofs.lemmas.Bool.{and_parts, and_from, cases_Bool, cases_eq, cond-true, cond-false, leb-true, leb-false, le-leb, lt-leb, eq-eqb, ne_eqb}
use Rattle.std.proofs.lemmas.Option.{same_Some, slice_get_within}
use Rattle.day_model.specs.declared.account.Account.{Account}
use Rattle.day_model.specs.declared.change.Change.{Change}
use Rattle.day_model.specs.declared.change.What.{What}
use Rattle.day_model.specs.declared.change.What.TheVariants.{Opened, Limits}
use Rattle.day_model.specs.Changes.{all_changed, are_in_order, by_then, changed_by, is_by, is_just, is_since, just_then, with_ends}
use Rattle.day_model.specs.Chart.{Chart, accounts_of, chart_at}
use Rattle.day_model.specs.Laws.{AccountsOfNow}
use Rattle.day_model.specs.Legal.{AreLegalInTurn, IsLegalChange, balance_named}
use Rattle.day_model.proofs.laws.Slices.{push_before, slice_get-set_other, slice_get-set_same}

-- ---- what a filter keeps

-- a first element that passes is kept
pub filter_in : {A : Type 0} (p : A → Bool) (x : A) (xs : List A) → p x ≡ true → filter p (x ∷ xs) ≡ x ∷ filter p xs
filter_in p x xs e = cond-true (p x) (x ∷ filter p xs) (filter p xs) e

-- one that fails is left out
pub filter_out : {A : Type 0} (p : A → Bool) (x : A) (xs : List A) → p x ≡ false → filter p (x ∷ xs) ≡ filter p xs
filter_out p x xs e = cond-false (p x) (x ∷ filter p xs) (filter p xs) e

-- where all pass, all are kept
pub all_kept : {A : Type 0} (p : A → Bool) (xs : List A) → list_all p xs ≡ true → filter p xs ≡ xs
all_kept p [] e = refl
all_kept p (x ∷ xs) e =
    let parts = and_parts (p x) (list_all p xs) e in
    filter_in p x xs parts.0 ∙ ap (λ l. x ∷ l) (all_kept p xs parts.1)

-- two lists one after another are filtered each
pub filter-append : {A : Type 0} (p : A → Bool) (xs ys : List A) → filter p (xs ++ ys) ≡ filter p xs ++ filter p ys
filter-append p [] ys = refl
filter-append p (x ∷ xs) ys =
    elim (cases_Bool (p x)) [
      | inl kept ↦ filter_in p x (xs ++ ys) kept ∙ ap (λ l. x ∷ l) (filter-append p xs ys) ∙ ap (λ l. l ++ filter p ys) (sym (filter_in p x xs kept))
      | inr out ↦ filter_out p x (xs ++ ys) out ∙ filter-append p xs ys ∙ ap (λ l. l ++ filter p ys) (sym (filter_out p x xs out))
    ]

-- where all of both lists pass, all of them together do
pub list_all-append : {A : Type 0} (p : A → Bool) (xs ys : List A) → list_all p xs ≡ true → list_all p ys ≡ true → list_all p (xs ++ ys) ≡ true
list_all-append p [] ys a b = b
list_all-append p (x ∷ xs) ys a b =
    let parts = and_parts (p x) (list_all p xs) a in
    and_from (p x) (list_all p (xs ++ ys)) parts.0 (list_all-append p xs ys parts.1 b)

-- so do those of the first list
pub list_all-left : {A : Type 0} (p : A → Bool) (xs ys : List A) → list_all p (xs ++ ys) ≡ true → list_all p xs ≡ true
list_all-left p [] ys a = refl
list_all-left p (x ∷ xs) ys a =
    let parts = and_parts (p x) (list_all p (xs ++ ys)) a in
    and_from (p x) (list_all p xs) parts.0 (list_all-left p xs ys parts.1)

-- and those of the second
pub list_all-right : {A : Type 0} (p : A → Bool) (xs ys : List A) → list_all p (xs ++ ys) ≡ true → list_all p ys ≡ true
list_all-right p [] ys a = a
list_all-right p (x ∷ xs) ys a = list_all-right p xs ys (and_parts (p x) (list_all p (xs ++ ys)) a).1

-- what passes one test passes another that follows from it
pub list_all-then : {A : Type 0} (p q : A → Bool) (xs : List A) → ((x : A) → p x ≡ true → q x ≡ true) → list_all p xs ≡ true → list_all q xs ≡ true
list_all-then p q [] to a = refl
list_all-then p q (x ∷ xs) to a =
    let parts = and_parts (p x) (list_all p xs) a in
    and_from (q x) (list_all q xs) (to x parts.0) (list_all-then p q xs to parts.1)

-- ---- changes by a time

-- where a change is later, so are those after it
none_by : (k : ℕ) (c : Change) (cs : List Change) → list_all (is_since c) cs ≡ true → is_by k c ≡ false → by_then k cs ≡ []
none_by k c [] since out = refl
none_by k c (d ∷ cs) since out =
    let parts = and_parts (is_since c d) (list_all (is_since c) cs) since in
    let late : k < c.after = leb-false _ _ out in
    let after : c.after ≤ d.after = leb-true _ _ parts.0 in
    filter_out (is_by k) d cs (lt-leb _ _ (omega (arith, late, after))) ∙ none_by k c cs parts.1 out

-- the changes by one entry more: those by then, and those just then
pub by_next : (k : ℕ) (cs : List Change) → are_in_order cs ≡ true → by_then (k + 1) cs ≡ by_then k cs ++ just_then (k + 1) cs
by_next k [] order = refl
by_next k (c ∷ cs) order =
    let parts = and_parts (list_all (is_since c) cs) (are_in_order cs) order in
    let rest = by_next k cs parts.1 in
    elim (cases_Bool (is_by k c)) [
      | inl kept ↦
          let early : c.after ≤ k = leb-true _ _ kept in
          let not_just : is_just (k + 1) c ≡ false = ne_eqb c.after (k + 1) (λ e. omega (arith, early, e)) in
          filter_in (is_by (k + 1)) c cs (le-leb _ _ (omega (arith, early)))
          ∙ ap (λ l. c ∷ l) rest
          ∙ ap (λ l. l ++ just_then (k + 1) cs) (sym (filter_in (is_by k) c cs kept))
          ∙ ap (λ l. by_then k (c ∷ cs) ++ l) (sym (filter_out (is_just (k + 1)) c cs not_just))
      | inr out ↦
          let late : k < c.after = leb-false _ _ out in
          let none : by_then k cs ≡ [] = none_by k c cs parts.0 out in
          let nothing : by_then k (c ∷ cs) ≡ [] = filter_out (is_by k) c cs out ∙ none in
          let last : by_then (k + 1) cs ≡ just_then (k + 1) cs = rest ∙ ap (λ l. l ++ just_then (k + 1) cs) none in
          elim (cases_eq c.after (k + 1)) [
            | inl now ↦
                filter_in (is_by (k + 1)) c cs (le-leb _ _ (omega (arith, now)))
                ∙ ap (λ l. c ∷ l) last
                ∙ sym (filter_in (is_just (k + 1)) c cs (eq-eqb c.after (k + 1) now))
                ∙ ap (λ l. l ++ just_then (k + 1) (c ∷ cs)) (sym nothing)
            | inr other ↦
                let past : k + 1 < c.after = omega (arith, late, other) in
                filter_out (is_by (k + 1)) c cs (lt-leb _ _ past)
                ∙ last
                ∙ sym (filter_out (is_just (k + 1)) c cs (ne_eqb c.after (k + 1) other))
                ∙ ap (λ l. l ++ just_then (k + 1) (c ∷ cs)) (sym nothing)
          ]
    ]

-- before any entry there are the changes just then
pub by_none : (cs : List Change) → by_then 0 cs ≡ just_then 0 cs
by_none [] = refl
by_none (c ∷ cs) =
    elim (cases_eq c.after 0) [
      | inl now ↦
          filter_in (is_by 0) c cs (le-leb _ _ (omega (arith, now))) ∙ ap (λ l. c ∷ l) (by_none cs) ∙ sym (filter_in (is_just 0) c cs (eq-eqb c.after 0 now))
      | inr later ↦
          filter_out (is_by 0) c cs (lt-leb _ _ (omega (arith, later))) ∙ by_none cs ∙ sym (filter_out (is_just 0) c cs (ne_eqb c.after 0 later))
    ]

-- the changes by then are the first ones
pub by_first : (k : ℕ) (cs : List Change) → are_in_order cs ≡ true → (later : List Change) × (cs ≡ by_then k cs ++ later)
by_first k [] order = ([], refl)
by_first k (c ∷ cs) order =
    let parts = and_parts (list_all (is_since c) cs) (are_in_order cs) order in
    elim (cases_Bool (is_by k c)) [
      | inl kept ↦
          let rest = by_first k cs parts.1 in
          (rest.0, ap (λ l. c ∷ l) rest.1 ∙ ap (λ l. l ++ rest.0) (sym (filter_in (is_by k) c cs kept)))
      | inr out ↦ (c ∷ cs, ap (λ l. l ++ c ∷ cs) (sym (filter_out (is_by k) c cs out ∙ none_by k c cs parts.0 out)))
    ]

-- changes in two lists are made one list after the other
pub all_changed-append : (xs ys : List Change) (accounts : List Account) → all_changed (xs ++ ys) accounts ≡ all_changed ys (all_changed xs accounts)
all_changed-append [] ys accounts = refl
all_changed-append (x ∷ xs) ys accounts = all_changed-append xs ys (changed_by x.what accounts)

-- where all changes came by then, the accounts of the time are those of the book
pub accounts_now : AccountsOfNow
accounts_now chart k by = ap (λ (cs : List Change). all_changed cs chart.first) (all_kept (is_by k) chart.changes by)

-- one more of the entries: the accounts with the changes just then
pub accounts_next : (chart : Chart) (k : ℕ) → are_in_order chart.changes ≡ true
    → accounts_of (chart_at chart (k + 1)) ≡ all_changed (just_then (k + 1) chart.changes) (accounts_of (chart_at chart k))
accounts_next chart k order =
    ap (λ (cs : List Change). all_changed cs chart.first) (by_next k chart.changes order)
    ∙ all_changed-append (by_then k chart.changes) (just_then (k + 1) chart.changes) chart.first

-- a change that comes after the others keeps their order
pub in_order_push : (cs : List Change) (k : ℕ) (what : What) → are_in_order cs ≡ true → list_all (is_by k) cs ≡ true
    → are_in_order (cs ++ record { after = k; what = what } ∷ []) ≡ true
in_order_push [] k what order by = refl
in_order_push (c ∷ cs) k what order by =
    let parts = and_parts (list_all (is_since c) cs) (are_in_order cs) order in
    let early = and_parts (is_by k c) (list_all (is_by k) cs) by in
    let last : Change = record { after = k; what = what } in
    let here : is_since c last ≡ true = early.0 in
    and_from (list_all (is_since c) (cs ++ last ∷ [])) (are_in_order (cs ++ last ∷ []))
    (list_all-append (is_since c) cs (last ∷ []) parts.0 (and_from (is_since c last) true here refl)) (in_order_push cs k what parts.1 early.1)

-- the first changes of some in order are in order
pub in_order_left : (xs ys : List Change) → are_in_order (xs ++ ys) ≡ true → are_in_order xs ≡ true
in_order_left [] ys order = refl
in_order_left (x ∷ xs) ys order =
    let parts = and_parts (list_all (is_since x) (xs ++ ys)) (are_in_order (xs ++ ys)) order in
    and_from (list_all (is_since x) xs) (are_in_order xs) (list_all-left (is_since x) xs ys parts.0) (in_order_left xs ys parts.1)

-- ---- legal changes, one after another

-- those by a time are legal in turn too
pub in_turn_by : (b : ℕ → ℕ → ℤ) (accounts : List Account) (cs : List Change) (k : ℕ) → are_in_order cs ≡ true → AreLegalInTurn b accounts cs
    → AreLegalInTurn b accounts (by_then k cs)
in_turn_by b accounts [] k order legal = tt
in_turn_by b accounts (c ∷ cs) k order legal =
    let parts = and_parts (list_all (is_since c) cs) (are_in_order cs) order in
    elim (cases_Bool (is_by k c)) [
      | inl kept ↦
          subst (λ (l : List Change). AreLegalInTurn b accounts l) (sym (filter_in (is_by k) c cs kept))
          (legal.0, in_turn_by b (changed_by c.what accounts) cs k parts.1 legal.1)
      | inr out ↦
          subst (λ (l : List Change). AreLegalInTurn b accounts l) (sym (filter_out (is_by k) c cs out ∙ none_by k c cs parts.0 out)) tt
    ]

-- changes in two lists that are legal in turn: the first list is, and the second is for the accounts that the first leaves
pub in_turn_parts : (b : ℕ → ℕ → ℤ) (accounts : List Account) (xs ys : List Change) → AreLegalInTurn b accounts (xs ++ ys)
    → AreLegalInTurn b accounts xs × AreLegalInTurn b (all_changed xs accounts) ys
in_turn_parts b accounts [] ys legal = (tt, legal)
in_turn_parts b accounts (x ∷ xs) ys legal = let rest = in_turn_parts b (changed_by x.what accounts) xs ys legal.1 in ((legal.0, rest.0), rest.1)

-- and back: both lists make one that is legal in turn
pub in_turn_both : (b : ℕ → ℕ → ℤ) (accounts : List Account) (xs ys : List Change) → AreLegalInTurn b accounts xs
    → AreLegalInTurn b (all_changed xs accounts) ys → AreLegalInTurn b accounts (xs ++ ys)
in_turn_both b accounts [] ys first second = second
in_turn_both b accounts (x ∷ xs) ys first second = (first.0, in_turn_both b (changed_by x.what accounts) xs ys first.1 second)

-- balances that agree give the named account the same
pub named_same : (f g : ℕ → ℤ) (what : What) → ((n : ℕ) → f n ≡ g n) → balance_named f what ≡ balance_named g what
named_same f g (Opened account) same = refl
named_same f g (Limits n floor ceil) same = same n.0

-- changes are legal by balances that agree at their times
pub in_turn_same : (b c : ℕ → ℕ → ℤ) (m : ℕ) (accounts : List Account) (cs : List Change) → ((k n : ℕ) → k ≤ m → b k n ≡ c k n)
    → list_all (is_by m) cs ≡ true → AreLegalInTurn b accounts cs → AreLegalInTurn c accounts cs
in_turn_same b c m accounts [] same by legal = tt
in_turn_same b c m accounts (x ∷ cs) same by legal =
    let parts = and_parts (is_by m x) (list_all (is_by m) cs) by in (
      subst (λ (z : ℤ). IsLegalChange accounts z x.what) (named_same (b x.after) (c x.after) x.what (λ n. same x.after n (leb-true _ _ parts.0))) legal.0,
      in_turn_same b c m (changed_by x.what accounts) cs same parts.1 legal.1,
    )

-- ---- what stays of an account

-- the same account, but for its ends
abbrev pub IsStill : Account → Account → Type 0
IsStill a b = b ≡ with_ends b.floor b.ceil a

-- an account with other ends, at its place
abbrev pub Stays : Account → Option Account → Type 0
Stays a o = (b : Account) × (o ≡ Some b) × IsStill a b

limited_stays : (n : ℕ) (accounts : List Account) (j : ℕ) (a : Account) (lower upper : ℤ) (o : Option Account) → slice_get accounts (n - 1) ≡ o
    → slice_get accounts j ≡ Some a
    → Stays a (slice_get (option_map_or (λ x. slice_set accounts (n - 1) (with_ends lower upper x)) o accounts) j)
limited_stays n accounts j a lower upper None there at = (a, at, refl)
limited_stays n accounts j a lower upper (Some x) there at =
    elim (cases_eq j (n - 1)) [
      | inl here ↦
          let same : x ≡ a = same_Some x a (sym there ∙ ap (slice_get accounts) (sym here) ∙ at) in
          let read : slice_get (slice_set accounts (n - 1) (with_ends lower upper x)) j ≡ Some (with_ends lower upper a) =
          ap (slice_get (slice_set accounts (n - 1) (with_ends lower upper x))) here
          ∙ slice_get-set_same accounts (n - 1) (with_ends lower upper x) (slice_get_within accounts (n - 1) x there)
          ∙ ap (λ (y : Account). Some (with_ends lower upper y)) same in
          (with_ends lower upper a, read, refl)
      | inr other ↦ (a, slice_get-set_other accounts (n - 1) j (with_ends lower upper x) other ∙ at, refl)
    ]

-- an account that is there stays at its number under a change, but for its ends
pub change_stays : (what : What) (accounts : List Account) (j : ℕ) (a : Account) → slice_get accounts j ≡ Some a
    → Stays a (slice_get (changed_by what accounts) j)
change_stays (Opened account) accounts j a at = (a, push_before accounts account j a at, refl)
change_stays (Limits n floor ceil) accounts j a at = limited_stays n.0 accounts j a floor ceil (slice_get accounts (n.0 - 1)) refl at

still_then : (a b c : Account) → IsStill a b → IsStill b c → IsStill a c
still_then a b c first second = second ∙ ap (with_ends c.floor c.ceil) first

-- an account that is there stays at its number, under all changes
pub changes_stay : (cs : List Change) (accounts : List Account) (j : ℕ) (a : Account) → slice_get accounts j ≡ Some a
    → Stays a (slice_get (all_changed cs accounts) j)
changes_stay [] accounts j a at = (a, at, refl)
changes_stay (c ∷ cs) accounts j a at =
    let next = change_stays c.what accounts j a at in
    let rest = changes_stay cs (changed_by c.what accounts) j next.0 next.1 in
    (rest.0, rest.1, still_then a next.0 rest.0 next.2 rest.2)

-- an account of a time is one of the book
pub account_stays : (chart : Chart) (k j : ℕ) (a : Account) → are_in_order chart.changes ≡ true → slice_get (accounts_of (chart_at chart k)) j ≡ Some a
    → Stays a (slice_get (accounts_of chart) j)
account_stays chart k j a order at =
    let first = by_first k chart.changes order in
    let now : all_changed first.0 (accounts_of (chart_at chart k)) ≡ accounts_of chart =
    sym (all_changed-append (by_then k chart.changes) first.0 chart.first) ∙ ap (λ (cs : List Change). all_changed cs chart.first) (sym first.1) in
    subst (λ (accounts : List Account). Stays a (slice_get accounts j)) now (changes_stay first.0 (accounts_of (chart_at chart k)) j a at)
