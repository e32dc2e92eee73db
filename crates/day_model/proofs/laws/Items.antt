-- Items of a book: one entry or one change more, and that they read back into changes and entries.
use Rattle.std.proofs.Common.{◌≡◌, ℕ, ◌+◌, ◌<◌, ◌≤◌, Bool, true, List, [], ◌∷◌, ◌++◌, refl, sym, ap, ◌∙◌, subst, arith, append_assoc, inl, inr, leb, length, length-append}
use Rattle.std.specs.Prelude.{◌&&◌, filter}
use Rattle.std.specs.List.{list_all}
use Rattle.std.proofs.lemmas.Bool.{and_parts, cases_Bool, cases_eq, eq-eqb, le-leb, leb-false, leb-true, lt-leb, ne_eqb}
use Rattle.std.proofs.lemmas.List.{append-nil}
use Rattle.day_model.specs.declared.change.Change.{Change}
use Rattle.day_model.specs.declared.change.What.{What}
use Rattle.day_model.specs.declared.change.Item.{Item}
use Rattle.day_model.specs.declared.change.Item.TheVariants.{Entered, Changed}
use Rattle.day_model.specs.declared.entry.Entry.{Entry}
use Rattle.day_model.specs.Changes.{are_in_order, is_by, is_just, is_since, just_then}
use Rattle.day_model.specs.Items.{ChangeStandsLast, EntryStandsLast, ItemsReadBack, Replayed, changed_items, items_from, replay, replayed_with}
use Rattle.day_model.proofs.laws.Changes.{all_kept, filter-append, filter_in, filter_out, list_all-then}

-- ---- one item more

-- no change comes just after more entries than all came by
none_just : (k m : ℕ) (cs : List Change) → k < m → list_all (is_by k) cs ≡ true → just_then m cs ≡ []
none_just k m [] lt by = refl
none_just k m (c ∷ cs) lt by =
    let parts = and_parts (is_by k c) (list_all (is_by k) cs) by in
    let early : c.after ≤ k = leb-true _ _ parts.0 in
    filter_out (is_just m) c cs (ne_eqb c.after m (λ e. omega (arith, early, e, lt))) ∙ none_just k m cs lt parts.1

changed_items-append : (xs ys : List Change) → changed_items (xs ++ ys) ≡ changed_items xs ++ changed_items ys
changed_items-append [] ys = refl
changed_items-append (x ∷ xs) ys = ap (λ (l : List Item). Changed x.what ∷ l) (changed_items-append xs ys)

items_push : (k : ℕ) (cs : List Change) (entries : List Entry) (e : Entry) → list_all (is_by (k + length entries)) cs ≡ true
    → items_from k cs (entries ++ e ∷ []) ≡ items_from k cs entries ++ Entered e ∷ []
items_push k cs [] e by =
    let none : just_then (k + 1) cs ≡ [] = none_just (k + 0) (k + 1) cs (omega arith) by in
    ap (λ (l : List Change). changed_items (just_then k cs) ++ Entered e ∷ changed_items l) none
items_push k cs (x ∷ entries) e by =
    let size : k + length (x ∷ entries) ≡ k + 1 + length entries = omega arith in
    let rest = items_push (k + 1) cs entries e (subst (λ (n : ℕ). list_all (is_by n) cs ≡ true) size by) in
    ap (λ (l : List Item). changed_items (just_then k cs) ++ Entered x ∷ l) rest
    ∙ sym (append_assoc (changed_items (just_then k cs)) (Entered x ∷ items_from (k + 1) cs entries) (Entered e ∷ []))

-- where all changes came by then, an entry more stands last
pub items_entered : EntryStandsLast
items_entered chart entries e by =
    let size : length entries ≡ 0 + length entries = omega arith in
    items_push 0 chart.changes entries e (subst (λ (n : ℕ). list_all (is_by n) chart.changes ≡ true) size by)

just_other : (k m : ℕ) (cs : List Change) (what : What) → k < m → just_then k (cs ++ record { after = m; what = what } ∷ []) ≡ just_then k cs
just_other k m cs what lt =
    let c : Change = record { after = m; what = what } in
    filter-append (is_just k) cs (c ∷ [])
    ∙ ap (λ (l : List Change). just_then k cs ++ l) (filter_out (is_just k) c [] (ne_eqb m k (λ e. omega (arith, e, lt))))
    ∙ append-nil (just_then k cs)

just_same : (k m : ℕ) (cs : List Change) (what : What) → m ≡ k
    → just_then k (cs ++ record { after = m; what = what } ∷ []) ≡ just_then k cs ++ record { after = m; what = what } ∷ []
just_same k m cs what is =
    let c : Change = record { after = m; what = what } in
    filter-append (is_just k) cs (c ∷ []) ∙ ap (λ (l : List Change). just_then k cs ++ l) (filter_in (is_just k) c [] (eq-eqb m k is))

items_change : (k m : ℕ) (cs : List Change) (entries : List Entry) (what : What) → m ≡ k + length entries
    → items_from k (cs ++ record { after = m; what = what } ∷ []) entries ≡ items_from k cs entries ++ Changed what ∷ []
items_change k m cs [] what is =
    let c : Change = record { after = m; what = what } in
    ap changed_items (just_same k m cs what (is ∙ omega arith)) ∙ changed_items-append (just_then k cs) (c ∷ [])
items_change k m cs (x ∷ entries) what is =
    let c : Change = record { after = m; what = what } in
    let later : k < m = omega (arith, is) in
    let rest = items_change (k + 1) m cs entries what (omega (arith, is)) in
    ap (λ (l : List Change). changed_items l ++ Entered x ∷ items_from (k + 1) (cs ++ c ∷ []) entries) (just_other k m cs what later)
    ∙ ap (λ (l : List Item). changed_items (just_then k cs) ++ Entered x ∷ l) rest
    ∙ sym (append_assoc (changed_items (just_then k cs)) (Entered x ∷ items_from (k + 1) cs entries) (Changed what ∷ []))

-- a change after all entries stands last
pub items_changed : ChangeStandsLast
items_changed chart entries what = items_change 0 (length entries) chart.changes entries what (omega arith)

-- ---- reading items back

-- items in two lists are read one list after the other
pub replay-append : (r : Replayed) (xs ys : List Item) → replay r (xs ++ ys) ≡ replay (replay r xs) ys
replay-append r [] ys = refl
replay-append r (x ∷ xs) ys = replay-append (replayed_with r x) xs ys

replayed : (cs ds : List Change) (es fs : List Entry) → cs ≡ ds → es ≡ fs
    → ◌≡◌ {A = Replayed} (record { changes = cs; entries = es }) (record { changes = ds; entries = fs })
replayed cs ds es fs changes entries = λ i. record { changes = changes i; entries = entries i }

-- changes just then read back
replay_just : (r : Replayed) (cs : List Change) → replay r (changed_items (just_then (length r.entries) cs)) ≡ record r { changes = r.changes ++ just_then (length r.entries) cs }
replay_just r [] = replayed r.changes (r.changes ++ []) r.entries r.entries (sym (append-nil r.changes)) refl
replay_just r (c ∷ cs) =
    let k : ℕ = length r.entries in
    elim (cases_eq c.after k) [
      | inl now ↦
          let here : just_then k (c ∷ cs) ≡ c ∷ just_then k cs = filter_in (is_just k) c cs (eq-eqb c.after k now) in
          let same : ◌≡◌ {A = Change} (record { after = k; what = c.what }) c = λ i. record { after = sym now i; what = c.what } in
          let next : Replayed = record r { changes = r.changes ++ c ∷ [] } in
          ap (λ (l : List Change). replay r (changed_items l)) here
          ∙ ap (λ (x : Change). replay (record r { changes = r.changes ++ x ∷ [] }) (changed_items (just_then k cs))) same
          ∙ replay_just next cs
          ∙ ap (λ (l : List Change). record r { changes = l }) (append_assoc r.changes (c ∷ []) (just_then k cs))
          ∙ ap (λ (l : List Change). record r { changes = r.changes ++ l }) (sym here)
      | inr other ↦
          let here : just_then k (c ∷ cs) ≡ just_then k cs = filter_out (is_just k) c cs (ne_eqb c.after k other) in
          ap (λ (l : List Change). replay r (changed_items l)) here ∙ replay_just r cs
          ∙ ap (λ (l : List Change). record r { changes = r.changes ++ l }) (sym here)
    ]

-- changes from k entries on
abbrev is_from : ℕ → Change → Bool
is_from k c = leb k c.after

abbrev from_then : ℕ → List Change → List Change
from_then k cs = filter (is_from k) cs

since_from : (k : ℕ) (c : Change) (cs : List Change) → k ≤ c.after → list_all (is_since c) cs ≡ true → list_all (is_from k) cs ≡ true
since_from k c cs le since = list_all-then (is_since c) (is_from k) cs (λ d e. le-leb _ _ (omega (arith, le, leb-true _ _ e))) since

none_since : (k : ℕ) (c : Change) (cs : List Change) → k < c.after → list_all (is_since c) cs ≡ true → just_then k cs ≡ []
none_since k c [] lt since = refl
none_since k c (d ∷ cs) lt since =
    let parts = and_parts (is_since c d) (list_all (is_since c) cs) since in
    let after : c.after ≤ d.after = leb-true _ _ parts.0 in
    filter_out (is_just k) d cs (ne_eqb d.after k (λ e. omega (arith, lt, after, e))) ∙ none_since k c cs lt parts.1

-- those from k on that are in order: those just then, and those later
from_next : (k : ℕ) (cs : List Change) → are_in_order cs ≡ true → from_then k cs ≡ just_then k cs ++ from_then (k + 1) cs
from_next k [] order = refl
from_next k (c ∷ cs) order =
    let parts = and_parts (list_all (is_since c) cs) (are_in_order cs) order in
    let rest = from_next k cs parts.1 in
    elim (cases_eq c.after k) [
      | inl now ↦
          filter_in (is_from k) c cs (le-leb _ _ (omega (arith, now))) ∙ ap (λ (l : List Change). c ∷ l) rest
          ∙ ap (λ (l : List Change). l ++ from_then (k + 1) cs) (sym (filter_in (is_just k) c cs (eq-eqb c.after k now)))
          ∙ ap (λ (l : List Change). just_then k (c ∷ cs) ++ l) (sym (filter_out (is_from (k + 1)) c cs (lt-leb _ _ (omega (arith, now)))))
      | inr other ↦ elim (cases_Bool (is_from k c)) [
        | inl later ↦
            let above : k ≤ c.after = leb-true _ _ later in
            let past : k < c.after = omega (arith, above, other) in
            let none : just_then k (c ∷ cs) ≡ [] = filter_out (is_just k) c cs (ne_eqb c.after k other) ∙ none_since k c cs past parts.0 in
            filter_in (is_from k) c cs later ∙ ap (λ (l : List Change). c ∷ l) (all_kept (is_from k) cs (since_from k c cs above parts.0))
            ∙ ap (λ (l : List Change). c ∷ l) (sym (all_kept (is_from (k + 1)) cs (since_from (k + 1) c cs (omega (arith, past)) parts.0)))
            ∙ sym (filter_in (is_from (k + 1)) c cs (le-leb _ _ (omega (arith, past))))
            ∙ ap (λ (l : List Change). l ++ from_then (k + 1) (c ∷ cs)) (sym none)
        | inr before ↦
            let below : c.after < k = leb-false _ _ before in
            filter_out (is_from k) c cs before ∙ rest
            ∙ ap (λ (l : List Change). l ++ from_then (k + 1) cs) (sym (filter_out (is_just k) c cs (ne_eqb c.after k other)))
            ∙ ap (λ (l : List Change). just_then k (c ∷ cs) ++ l) (sym (filter_out (is_from (k + 1)) c cs (lt-leb _ _ (omega (arith, below)))))
      ]
    ]

-- where all came by k entries, none comes after more
none_from : (k m : ℕ) (cs : List Change) → k < m → list_all (is_by k) cs ≡ true → from_then m cs ≡ []
none_from k m [] lt by = refl
none_from k m (c ∷ cs) lt by =
    let parts = and_parts (is_by k c) (list_all (is_by k) cs) by in
    filter_out (is_from m) c cs (lt-leb _ _ (omega (arith, leb-true _ _ parts.0, lt))) ∙ none_from k m cs lt parts.1

replay_from : (r : Replayed) (cs : List Change) (entries : List Entry) → are_in_order cs ≡ true
    → list_all (is_by (length r.entries + length entries)) cs ≡ true
    → replay r (items_from (length r.entries) cs entries) ≡ record { changes = r.changes ++ from_then (length r.entries) cs; entries = r.entries ++ entries }
replay_from r cs [] order by =
    let k : ℕ = length r.entries in
    let none : from_then (k + 1) cs ≡ [] = none_from (k + 0) (k + 1) cs (omega arith) by in
    let all : just_then k cs ≡ from_then k cs =
    sym (append-nil (just_then k cs)) ∙ ap (λ (l : List Change). just_then k cs ++ l) (sym none) ∙ sym (from_next k cs order) in
    replay_just r cs
    ∙ replayed (r.changes ++ just_then k cs) (r.changes ++ from_then k cs) r.entries (r.entries ++ [])
    (ap (λ (l : List Change). r.changes ++ l) all) (sym (append-nil r.entries))
replay_from r cs (e ∷ entries) order by =
    let k : ℕ = length r.entries in
    let read : Replayed = record r { changes = r.changes ++ just_then k cs } in
    let next : Replayed = record { changes = r.changes ++ just_then k cs; entries = r.entries ++ e ∷ [] } in
    let size : length (r.entries ++ e ∷ []) ≡ k + 1 = length-append r.entries (e ∷ []) ∙ omega arith in
    let later : k + length (e ∷ entries) ≡ length (r.entries ++ e ∷ []) + length entries = omega (arith, size) in
    let rest = replay_from next cs entries order (subst (λ (n : ℕ). list_all (is_by n) cs ≡ true) later by) in
    replay-append r (changed_items (just_then k cs)) (Entered e ∷ items_from (k + 1) cs entries)
    ∙ ap (λ (x : Replayed). replay x (Entered e ∷ items_from (k + 1) cs entries)) (replay_just r cs)
    ∙ ap (λ (n : ℕ). replay next (items_from n cs entries)) (sym size)
    ∙ rest
    ∙ replayed ((r.changes ++ just_then k cs) ++ from_then (length (r.entries ++ e ∷ [])) cs) (r.changes ++ from_then k cs)
    ((r.entries ++ e ∷ []) ++ entries) (r.entries ++ e ∷ entries)
    (append_assoc r.changes (just_then k cs) (from_then (length (r.entries ++ e ∷ [])) cs)
    ∙ ap (λ (n : ℕ). r.changes ++ (just_then k cs ++ from_then n cs)) size
    ∙ ap (λ (l : List Change). r.changes ++ l) (sym (from_next k cs order)))
    (append_assoc r.entries (e ∷ []) entries)

all_from : (cs : List Change) → list_all (is_from 0) cs ≡ true
all_from [] = refl
all_from (c ∷ cs) = ap (λ (b : Bool). b && list_all (is_from 0) cs) (le-leb 0 c.after (omega arith)) ∙ all_from cs

-- the items of a book read back into its changes and its entries
pub replay_items : ItemsReadBack
replay_items chart entries order by =
    let size : length entries ≡ 0 + length entries = omega arith in
    replay_from (record { changes = []; entries = [] }) chart.changes entries order (subst (λ (n : ℕ). list_all (is_by n) chart.changes ≡ true) size by)
    ∙ ap (λ (l : List Change). record { changes = l; entries = entries }) (all_kept (is_from 0) chart.changes (all_from chart.changes))
