-- The records of a journal, one after another, and its packets.
use Rattle.std.proofs.Common.{◌≡◌, ℕ, ◌+◌, ◌-◌, ◌≤◌, ◌<◌, ◌^◌, All, true, List, [], ◌∷◌, ◌++◌, Some, length, map, refl, sym, ap, ◌∙◌, arith, append_assoc, append-nil}
use Rattle.std.specs.Prelude.{drop, slice_get}
use Rattle.std.specs.List.{list_all}
use Rattle.std.proofs.lemmas.Bool.{and_from, and_parts, eq-eqb, le-leb, leb-true, ne_eqb}
use Rattle.std.proofs.lemmas.List.Elements.{All-tail}
use Rattle.corr_report.proofs.laws.Rests.{rest_at, rest_none}
use Rattle.day_model.specs.declared.change.Change.{Change}
use Rattle.day_model.specs.declared.change.What.{What}
use Rattle.day_model.specs.declared.change.Item.{Item}
use Rattle.day_model.specs.declared.change.Item.TheVariants.{Entered, Changed}
use Rattle.day_model.specs.declared.entry.Entry.{Entry}
use Rattle.day_model.specs.Changes.{are_in_order, is_just, is_since as is_after, just_then}
use Rattle.day_model.specs.Chart.{Chart}
use Rattle.day_model.specs.Items.{changed_items, items_from}
use Rattle.day_model.proofs.laws.Changes.{filter_in, filter_out, list_all-then}
use Rattle.jrn_book.specs.Journal.{IsJournal}
use Rattle.jrn_codec.specs.Change.{IsWhat, change_bytes}
use Rattle.jrn_codec.specs.Items.{item_bytes}
use Rattle.jrn_codec.specs.Record.{entry_bytes}
use Rattle.corr_top.specs.Ship.{joined_all}
use Rattle.corr_top.specs.inner.Ship.{AddsDue, AreDue, is_since, records_from}

-- ---- items of which one change, or one entry, comes first

-- a change that came before k entries is none of those behind them
past_change : (k : ℕ) (c : Change) (cs : List Change) (entries : List Entry) → c.after < k → items_from k (c ∷ cs) entries ≡ items_from k cs entries
past_change k c cs [] before = ap changed_items (filter_out (is_just k) c cs (ne_eqb c.after k (λ is. omega (arith, before, is))))
past_change k c cs (entry ∷ entries) before =
    ap (λ (l : List Change). changed_items l ++ Entered entry ∷ items_from (k + 1) (c ∷ cs) entries) (filter_out (is_just k) c cs (ne_eqb c.after k (λ is. omega (arith, before, is))))
    ∙ ap (λ (l : List Item). changed_items (just_then k cs) ++ Entered entry ∷ l) (past_change (k + 1) c cs entries (omega (arith, before)))

-- one that came directly after k entries is the first of them
change_first : (k : ℕ) (c : Change) (cs : List Change) (entries : List Entry) → c.after ≡ k → items_from k (c ∷ cs) entries ≡ Changed c.what ∷ items_from k cs entries
change_first k c cs [] is = ap changed_items (filter_in (is_just k) c cs (eq-eqb c.after k is))
change_first k c cs (entry ∷ entries) is =
    ap (λ (l : List Change). changed_items l ++ Entered entry ∷ items_from (k + 1) (c ∷ cs) entries) (filter_in (is_just k) c cs (eq-eqb c.after k is))
    ∙ ap (λ (l : List Item). Changed c.what ∷ (changed_items (just_then k cs) ++ Entered entry ∷ l)) (past_change (k + 1) c cs entries (omega (arith, is)))

-- none came directly after k entries where all came later
none_just : (k : ℕ) (cs : List Change) → list_all (is_since (k + 1)) cs ≡ true → just_then k cs ≡ []
none_just k [] since = refl
none_just k (c ∷ cs) since =
    let parts = and_parts (is_since (k + 1) c) (list_all (is_since (k + 1)) cs) since in
    let later : k + 1 ≤ c.after = leb-true _ _ parts.0 in
    filter_out (is_just k) c cs (ne_eqb c.after k (λ is. omega (arith, later, is))) ∙ none_just k cs parts.1

-- ---- changes that are due

-- at the beginning all are
all_since : (cs : List Change) → list_all (is_since 0) cs ≡ true
all_since [] = refl
all_since (c ∷ cs) = and_from (is_since 0 c) (list_all (is_since 0) cs) (le-leb 0 c.after (omega arith)) (all_since cs)

pub due_first : (chart : Chart) (history : List Entry) → IsJournal chart history → AreDue 0 chart.changes
due_first chart history journal = record { order = journal.legal.changes.in_order; since = all_since chart.changes; written = journal.changes }

-- without the first of them
pub due_rest : (k : ℕ) (c : Change) (cs : List Change) → AreDue k (c ∷ cs) → AreDue k cs
due_rest k c cs due = record {
  order = (and_parts (list_all (is_after c) cs) (are_in_order cs) due.order).1;
  since = (and_parts (is_since k c) (list_all (is_since k) cs) due.since).1;
  written = All-tail (λ (d : Change). IsWhat d.what) c cs due.written;
}

-- where none came directly after k entries, all came later
pub due_later : (k : ℕ) (cs : List Change) → AreDue k cs → ((what : What) (more : List Change) → cs ≡ record { after = k; what = what } ∷ more → ⊥) → AreDue (k + 1) cs
due_later k [] due none = record { order = due.order; since = refl; written = due.written }
due_later k (c ∷ cs) due none =
    let here : k ≤ c.after = leb-true _ _ (and_parts (is_since k c) (list_all (is_since k) cs) due.since).0 in
    let other : c.after ≡ k → ⊥ = λ is. none c.what cs (λ i. record { after = is i; what = c.what } ∷ cs) in
    let later : k + 1 ≤ c.after = omega (arith, here, other) in
    let after = (and_parts (list_all (is_after c) cs) (are_in_order cs) due.order).0 in
    record {
      order = due.order;
      since = and_from (is_since (k + 1) c) (list_all (is_since (k + 1)) cs) (le-leb _ _ later)
          (list_all-then (is_after c) (is_since (k + 1)) cs (λ d is. le-leb _ _ (omega (arith, later, leb-true _ _ is))) after);
      written = due.written;
    }

-- ---- records that are added

-- that of the first change that is due
pub adds_change : (k : ℕ) (before : List (List ℕ)) (changes : List Change) (records : List (List ℕ)) (rest : List Change) (what : What) (more : List Change) (text : List ℕ)
    → rest ≡ record { after = k; what = what } ∷ more → text ≡ change_bytes what → AddsDue k before changes records rest → AddsDue k before changes (records ++ text ∷ []) more
adds_change k before changes records rest what more text is written so_far = λ entries.
    let c : Change = record { after = k; what = what } in
    let first : records_from k rest entries ≡ change_bytes what ∷ records_from k more entries =
    ap (λ (l : List Change). records_from k l entries) is ∙ ap (λ (l : List Item). map item_bytes l) (change_first k c more entries refl) in
    append_assoc records (text ∷ []) (records_from k more entries)
    ∙ ap (λ (t : List ℕ). records ++ t ∷ records_from k more entries) written
    ∙ ap (λ (l : List (List ℕ)). records ++ l) (sym first)
    ∙ so_far entries

-- that of an entry, where no change is left that came directly after k entries
entry_first : (k : ℕ) (cs : List Change) (entry : Entry) (entries : List Entry) → just_then k cs ≡ [] → records_from k cs (entry ∷ entries) ≡ entry_bytes entry ∷ records_from (k + 1) cs entries
entry_first k cs entry entries none = ap (λ (l : List Change). map item_bytes (changed_items l ++ Entered entry ∷ items_from (k + 1) cs entries)) none

module _ (history : List Entry) (all records : List (List ℕ)) (changes : List Change) (place : ℕ) (later : List (List ℕ)) (rest : List Change) where
  -- after the changes that are due and the entry behind them
  pub adds_entry : (entry : Entry) (text : List ℕ) → 1 ≤ place → slice_get history (place - 1) ≡ Some entry → text ≡ entry_bytes entry → AreDue (place - 1 + 1) rest
      → AddsDue (place - 1) records changes later rest → records ++ records_from (place - 1) changes (drop (place - 1) history) ≡ all
      → (later ++ text ∷ []) ++ records_from (place + 1 - 1) rest (drop (place + 1 - 1) history) ≡ all
  adds_entry entry text one at written due added so_far =
      let behind : List Entry = drop (place + 1 - 1) history in
      let next : place - 1 + 1 ≡ place + 1 - 1 = omega (arith, one) in
      let first : records_from (place - 1) rest (entry ∷ behind) ≡ entry_bytes entry ∷ records_from (place + 1 - 1) rest behind =
      entry_first (place - 1) rest entry behind (none_just (place - 1) rest due.since)
      ∙ ap (λ (n : ℕ). entry_bytes entry ∷ records_from n rest behind) next in
      append_assoc later (text ∷ []) (records_from (place + 1 - 1) rest behind)
      ∙ ap (λ (t : List ℕ). later ++ t ∷ records_from (place + 1 - 1) rest behind) written
      ∙ ap (λ (l : List (List ℕ)). later ++ l) (sym first)
      ∙ ap (λ (l : List Entry). later ++ records_from (place - 1) rest l) (sym (rest_at history place entry one at))
      ∙ added (drop (place - 1) history)
      ∙ so_far

  -- after the changes that are due behind the last entry
  pub adds_last : (count : ℕ) → count ≡ length history → count + 1 ≤ place → place ≤ count + 1 → AreDue (count + 1) rest → AddsDue count records changes later rest
      → records ++ records_from (place - 1) changes (drop (place - 1) history) ≡ all → later ≡ all
  adds_last count is past within due added so_far =
      let here : place - 1 ≡ count = omega (arith, past, within) in
      let none : records_from count rest [] ≡ [] = ap (λ (l : List Change). map item_bytes (changed_items l)) (none_just count rest due.since) in
      sym (append-nil later)
      ∙ ap (λ (l : List (List ℕ)). later ++ l) (sym none)
      ∙ added []
      ∙ ap (λ (n : ℕ). records ++ records_from n changes []) (sym here)
      ∙ ap (λ (l : List Entry). records ++ records_from (place - 1) changes l) (sym (rest_none history place (omega (arith, is, past))))
      ∙ so_far

-- ---- texts that are joined

pub joined_more : (all out text more : List ℕ) (left rest : List (List ℕ)) → left ≡ text ∷ rest → all ≡ out ++ joined_all left → more ≡ out ++ text → all ≡ more ++ joined_all rest
joined_more all out text more left rest is so_far added =
    so_far ∙ ap (λ (l : List (List ℕ)). out ++ joined_all l) is ∙ sym (append_assoc out text (joined_all rest)) ∙ ap (λ (l : List ℕ). l ++ joined_all rest) (sym added)

pub joined_done : (all out : List ℕ) (left : List (List ℕ)) → left ≡ [] → all ≡ out ++ joined_all left → out ≡ all
joined_done all out left none so_far = sym (so_far ∙ ap (λ (l : List (List ℕ)). out ++ joined_all l) none ∙ append-nil out)

-- ---- records that are short enough for packets

pub short_enough : (records : List (List ℕ)) → All (λ r. length r ≤ 1048576) records → All (λ r. length r ≤ 2 ^ 30) records
short_enough records short = λ k d within. omega (arith, short k d within)
