-- A book as it was before its last item, and as it was when an item came.
use Rattle.std.proofs.Common.{◌≡◌, ℕ, zero, suc, ◌+◌, ◌<◌, ◌≤◌, true, List, [], ◌∷◌, ◌++◌, length, take, refl, sym, ap, ◌∙◌, subst, arith, inl, inr, append_assoc, length-append, length-take, ℤ}
use Rattle.std.specs.Prelude.{◌⊎◌, ◌&&◌}
use Rattle.std.specs.List.{list_all}
use Rattle.std.proofs.lemmas.Bool.{and_from, and_parts, cases_lt, le-leb, leb-true, lt-leb}
use Rattle.std.proofs.lemmas.List.{append-nil}
use Rattle.std.proofs.lemmas.Option.{slice_get_within}
use Rattle.day_model.specs.declared.account.Account.{Account}
use Rattle.day_model.specs.declared.change.Change.{Change}
use Rattle.day_model.specs.declared.change.Item.{Item}
use Rattle.day_model.specs.declared.change.Item.TheVariants.{Entered, Changed}
use Rattle.day_model.specs.declared.change.What.{What}
use Rattle.day_model.specs.declared.entry.Entry.{Entry}
use Rattle.day_model.specs.Changes.{all_changed, are_in_order, by_then, is_by, is_since}
use Rattle.day_model.specs.Chart.{AreBy, Chart, accounts_of, chart_at, with_change}
use Rattle.day_model.specs.Fit.{are_legs, fit_in}
use Rattle.day_model.specs.Items.{IsNextItem, items_of}
use Rattle.day_model.specs.Legal.{FollowsRules, IsLegal, IsLegalChange, balance_at, balance_named}
use Rattle.day_model.proofs.laws.Changes.{filter-append, filter_out, in_order_left, in_turn_parts, in_turn_same, list_all-left}
use Rattle.day_model.proofs.laws.Changing.{balance_with_change, last_change, opening_with, same_outcome}
use Rattle.day_model.proofs.laws.Fronts.{legal_front}
use Rattle.day_model.proofs.laws.Items.{items_changed, items_entered}

-- ---- without the last change

-- a change isn't there before its time
accounts_before : (chart : Chart) (k i : ℕ) (what : What) → i < k → accounts_of (chart_at (with_change chart k what) i) ≡ accounts_of (chart_at chart i)
accounts_before chart k i what lt =
    let c : Change = record { after = k; what = what } in
    ap (λ (cs : List Change). all_changed cs chart.first)
    (filter-append (is_by i) chart.changes (c ∷ [])
    ∙ ap (λ (l : List Change). by_then i chart.changes ++ l) (filter_out (is_by i) c [] (lt-leb k i lt)) ∙ append-nil (by_then i chart.changes))

module _ (chart : Chart) (history : List Entry) (what : What) (legal : IsLegal (with_change chart (length history) what) history) where
  abbrev chart_after : Chart
  chart_after = with_change chart (length history) what

  abbrev balance_then : ℤ
  balance_then = balance_named (balance_at chart_after history (length history)) what

  was_legal : IsLegalChange (accounts_of chart) balance_then what
  was_legal = last_change chart history (length history) what legal

  rules_before : FollowsRules chart history
  rules_before = record {
    short = legal.rules.short;
    fits = λ i e at. subst (λ (accounts : List Account). (are_legs e.pay.legs && fit_in accounts e.pay.legs) ≡ true)
        (accounts_before chart (length history) i what (slice_get_within history i e at)) (legal.rules.fits i e at);
    decided = λ i e at.
        let lt = slice_get_within history i e at in
        let size : length (take i history) ≡ i = omega (arith, length-take i history, lt) in
        legal.rules.decided i e at
        ∙ same_outcome chart_after chart (take i history) e.pay (accounts_before chart (length history) (length (take i history)) what (omega (arith, size, lt)))
        (λ n. opening_with chart (length history) what balance_then n was_legal);
    single = legal.rules.single;
    days = legal.rules.days;
  }

  -- a legal history is legal without its last change
  pub legal_before : IsLegal chart history
  legal_before =
      let k : ℕ = length history in
      let c : Change = record { after = k; what = what } in
      let by = list_all-left (is_by k) chart.changes (c ∷ []) legal.changes.by_now in
      record {
        rules = rules_before;
        changes = record {
          few = omega (arith, legal.changes.few, length-append chart.changes (c ∷ []));
          by_now = by;
          in_order = in_order_left chart.changes (c ∷ []) legal.changes.in_order;
          in_turn = in_turn_same (balance_at chart_after history) (balance_at chart history) k chart.first chart.changes
              (λ j n le. balance_with_change chart k what balance_then (take j history) n was_legal) by
              (in_turn_parts (balance_at chart_after history) chart.first chart.changes (c ∷ []) legal.changes.in_turn).0;
        };
      }

-- ---- the last of a list

abbrev HasLast : {A : Type 0} → List A → Type 0
HasLast {A = A} xs = (front : List A) × (last : A) × (xs ≡ front ++ last ∷ [])

last_of : {A : Type 0} (xs : List A) → (xs ≡ []) ⊎ HasLast xs
last_of [] = inl refl
last_of (x ∷ xs) = elim (last_of xs) [
  | inl none ↦ inr ([], x, ap (λ l. x ∷ l) none)
  | inr more ↦ inr (x ∷ more.0, more.1, ap (λ l. x ∷ l) more.2)
]

-- lists with one more are the same where both parts are
same_last : {A : Type 0} (xs ys : List A) (x y : A) → xs ++ x ∷ [] ≡ ys ++ y ∷ [] → (xs ≡ ys) × (x ≡ y)
same_last [] [] x y same = (refl, cc (same))
same_last [] (d ∷ ys) x y same = absurd (omega (arith, ap length same, length-append ys (y ∷ [])))
same_last (c ∷ xs) [] x y same = absurd (omega (arith, ap length same, length-append xs (x ∷ [])))
same_last (c ∷ xs) (d ∷ ys) x y same =
    let head : c ≡ d = cc (same) in
    let tail : xs ++ x ∷ [] ≡ ys ++ y ∷ [] = cc (same) in
    let rest = same_last xs ys x y tail in
    (λ i. head i ∷ rest.0 i, rest.1)

-- changes in order came by the time of the last one
by_last : (changes : List Change) (c : Change) (k : ℕ) → are_in_order (changes ++ c ∷ []) ≡ true → c.after ≤ k → list_all (is_by k) (changes ++ c ∷ []) ≡ true
by_last [] c k order le = and_from (is_by k c) true (le-leb c.after k le) refl
by_last (x ∷ changes) c k order le =
    let parts = and_parts (list_all (is_since x) (changes ++ c ∷ [])) (are_in_order (changes ++ c ∷ [])) order in
    and_from (is_by k x) (list_all (is_by k) (changes ++ c ∷ [])) (le-leb x.after k (earlier changes parts.0)) (by_last changes c k parts.1 le)
  where
    earlier : (cs : List Change) → list_all (is_since x) (cs ++ c ∷ []) ≡ true → x.after ≤ k
    earlier [] since = let it = leb-true _ _ (and_parts (is_since x c) true since).0 in omega (arith, it, le)
    earlier (d ∷ cs) since = earlier cs (and_parts (is_since x d) (list_all (is_since x) (cs ++ c ∷ [])) since).1

-- ---- before the last item

-- a book as it was when an item came, after these: the item was the legal next one
pub record WasCut (chart : Chart) (items : List Item) (item : Item) : Type 0 where
  pub changes : List Change
  pub entries : List Entry
  pub legal : IsLegal (record chart { changes = changes }) entries
  pub is : items_of (record chart { changes = changes }) entries ≡ items
  pub next : IsNextItem (record chart { changes = changes }) entries item

-- the last item was an entry
entry_last : (chart : Chart) (front : List Entry) (e : Entry) (items : List Item) (item : Item) → AreBy (length front) chart → IsLegal chart (front ++ e ∷ [])
    → items_of chart (front ++ e ∷ []) ≡ items ++ item ∷ [] → WasCut chart items item
entry_last chart front e items item by legal is =
    let same = same_last (items_of chart front) items (Entered e) item (sym (items_entered chart front e by) ∙ is) in
    record {
      changes = chart.changes;
      entries = front;
      legal = legal_front chart front (e ∷ []) by legal;
      is = same.0;
      next = subst (IsNextItem chart front) same.1 legal;
    }

-- it was a change
change_last : (chart : Chart) (history : List Entry) (what : What) (items : List Item) (item : Item) → IsLegal (with_change chart (length history) what) history
    → items_of (with_change chart (length history) what) history ≡ items ++ item ∷ [] → WasCut chart items item
change_last chart history what items item legal is =
    let same = same_last (items_of chart history) items (Changed what) item (sym (items_changed chart history what) ∙ is) in
    record {
      changes = chart.changes;
      entries = history;
      legal = legal_before chart history what legal;
      is = same.0;
      next = subst (IsNextItem chart history) same.1 legal;
    }

no_item : (items : List Item) (item : Item) → [] ≡ items ++ item ∷ [] → ⊥
no_item items item is = omega (arith, ap length is, length-append items (item ∷ []))

-- where all changes came before the last entry
entry_came : (chart : Chart) (history : List Entry) (items : List Item) (item : Item) (k : ℕ) → AreBy k chart → k < length history → IsLegal chart history
    → items_of chart history ≡ items ++ item ∷ [] → WasCut chart items item
entry_came chart history items item k by lt legal is =
    elim (last_of history) [
      | inl none ↦ absurd (omega (arith, lt, ap length none))
      | inr more ↦
          let size : length history ≡ length more.0 + 1 = ap length more.2 ∙ length-append more.0 (more.1 ∷ []) in
          entry_last chart more.0 more.1 items item (by_later chart.changes k (length more.0) (omega (arith, size, lt)) by)
          (subst (IsLegal chart) more.2 legal) (sym (ap (items_of chart) more.2) ∙ is)
    ]
  where
    by_later : (cs : List Change) (i j : ℕ) → i ≤ j → list_all (is_by i) cs ≡ true → list_all (is_by j) cs ≡ true
    by_later [] i j le by = refl
    by_later (c ∷ cs) i j le by =
        let parts = and_parts (is_by i c) (list_all (is_by i) cs) by in
        let early = leb-true _ _ parts.0 in
        and_from (is_by j c) (list_all (is_by j) cs) (le-leb c.after j (omega (arith, early, le))) (by_later cs i j le parts.1)

pub last_cut : (chart : Chart) (history : List Entry) (items : List Item) (item : Item) → IsLegal chart history → items_of chart history ≡ items ++ item ∷ [] → WasCut chart items item
last_cut chart history items item legal is =
    elim (last_of chart.changes) [
      | inl none ↦ elim (last_of history) [
        | inl empty ↦
            let nothing : items_of chart history ≡ [] = λ i. items_of (record chart { changes = none i }) (empty i) in
            absurd (no_item items item (sym nothing ∙ is))
        | inr more ↦
            let size : length history ≡ length more.0 + 1 = ap length more.2 ∙ length-append more.0 (more.1 ∷ []) in
            entry_came chart history items item (length more.0) (subst (λ (cs : List Change). list_all (is_by (length more.0)) cs ≡ true) (sym none) refl) (omega (arith, size)) legal is
      ]
      | inr more ↦
          let c : Change = more.1 in
          let le : c.after ≤ length history = by_of more.0 c (length history) (subst (λ (cs : List Change). list_all (is_by (length history)) cs ≡ true) more.2 legal.changes.by_now) in
          elim (cases_lt c.after (length history)) [
            | inl lt ↦
                let order = subst (λ (cs : List Change). are_in_order cs ≡ true) more.2 legal.changes.in_order in
                let by = by_last more.0 c c.after order (omega arith) in
                entry_came chart history items item c.after (subst (λ (cs : List Change). list_all (is_by c.after) cs ≡ true) (sym more.2) by) lt legal is
            | inr ge ↦
                let now : c.after ≡ length history = omega (arith, le, ge) in
                let front : Chart = record chart { changes = more.0 } in
                let whole : chart ≡ with_change front (length history) c.what =
                λ i. record { home = chart.home; first = chart.first; changes = (more.2 ∙ ap (λ (n : ℕ). more.0 ++ record { after = n; what = c.what } ∷ []) now) i } in
                let cut = change_last front history c.what items item (subst (λ (x : Chart). IsLegal x history) whole legal) (sym (ap (λ (x : Chart). items_of x history) whole) ∙ is) in
                record { changes = cut.changes; entries = cut.entries; legal = cut.legal; is = cut.is; next = cut.next }
          ]
    ]
  where
    by_of : (cs : List Change) (c : Change) (k : ℕ) → list_all (is_by k) (cs ++ c ∷ []) ≡ true → c.after ≤ k
    by_of [] c k by = leb-true _ _ (and_parts (is_by k c) true by).0
    by_of (x ∷ cs) c k by = by_of cs c k (and_parts (is_by k x) (list_all (is_by k) (cs ++ c ∷ [])) by).1

-- ---- before any item

-- a legal book as it was when one of its items came
pub was_cut : (n : ℕ) (chart : Chart) (history : List Entry) (items : List Item) (item : Item) (more : List Item) → length more ≤ n → IsLegal chart history
    → items_of chart history ≡ items ++ item ∷ more → WasCut chart items item
was_cut zero chart history items item [] few legal is = last_cut chart history items item legal is
was_cut zero chart history items item (x ∷ more) few legal is = absurd (omega (arith, few))
was_cut (suc m) chart history items item more few legal is =
    elim (last_of more) [
      | inl none ↦ last_cut chart history items item legal (is ∙ ap (λ (l : List Item). items ++ item ∷ l) none)
      | inr rest ↦
          let whole : items_of chart history ≡ (items ++ item ∷ rest.0) ++ rest.1 ∷ [] =
          is ∙ ap (λ (l : List Item). items ++ item ∷ l) rest.2 ∙ sym (append_assoc items (item ∷ rest.0) (rest.1 ∷ [])) in
          let size : length more ≡ length rest.0 + 1 = ap length rest.2 ∙ length-append rest.0 (rest.1 ∷ []) in
          let cut = last_cut chart history (items ++ item ∷ rest.0) rest.1 legal whole in
          let early = was_cut m (record chart { changes = cut.changes }) cut.entries items item rest.0 (omega (arith, size, few)) cut.legal cut.is in
          record { changes = early.changes; entries = early.entries; legal = early.legal; is = early.is; next = early.next }
    ]
