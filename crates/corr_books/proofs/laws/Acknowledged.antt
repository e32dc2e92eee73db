-- What was acknowledged stands in the history at the end.
use Rattle.std.proofs.Common.{◌≡◌, ℕ, zero, suc, ◌+◌, ◌-◌, List, [], ◌∷◌, ◌++◌, length, Some, slice_get, refl, ap, sym, ◌∙◌, subst, arith}
use mathlib.Core.List.{IsPrefix}
use Rattle.day_model.specs.declared.entry.Entry.{Entry}
use Rattle.day_model.specs.declared.entry.Outcome.{Outcome}
use Rattle.day_model.specs.declared.pay.Pay.{Pay}
use Rattle.front_word.specs.declared.view.Act.{Act}
use Rattle.front_word.specs.Known.{PassKnows}
use Rattle.front_word.proofs.laws.Prefixes.{prefix_get, prefix_trans}
use Rattle.corr_books.specs.Laws.{BaseStands, ClosedWith, HasAt, KeptStands, NewStands, MoreKeepPlaces}
use Rattle.corr_books.specs.Opening.{Opening}
use Rattle.corr_books.specs.Stand.{entries_of, history_of}
use Rattle.corr_books.specs.Telling.{IsAdded, entry_on, known_to}
use Rattle.corr_books.proofs.laws.Histories.{history_prefix}

get_after : (xs ys : List Entry) (i : ℕ) → slice_get (xs ++ ys) (length xs + i) ≡ slice_get ys i
get_after [] ys i = ap (slice_get ys) (omega arith)
get_after (x ∷ xs) ys i = let e : suc (length xs) + i ≡ suc (length xs + i) = omega arith in ap (slice_get (x ∷ (xs ++ ys))) e ∙ get_after xs ys i

entries_of-get : (log : List Act) (i : ℕ) (a : Act) → slice_get log i ≡ Some a → slice_get (entries_of log) i ≡ Some a.entry
entries_of-get [] i a e = absurd (cc (e))
entries_of-get (x ∷ xs) zero a e = let s : x ≡ a = cc (e) in ap (λ (b : Act). Some b.entry) s
entries_of-get (x ∷ xs) (suc i) a e = entries_of-get xs i a e

-- the entry of a New stands at its place in every history that goes on from what the pass knew
added_there : (o : Opening) (pay : Pay) (old new : PassKnows) (place : ℕ) (outcome : Outcome) (log : List Act) → (a : IsAdded o pay old new place outcome) → IsPrefix new.known log
    → slice_get (history_of o.base log) (length o.base + a.at) ≡ Some (entry_on o pay outcome)
added_there o pay old new place outcome log a p =
    let act : Act = record { by = old.number; entry = entry_on o pay outcome } in
    get_after o.base (entries_of log) a.at ∙ entries_of-get log a.at act (prefix_get new.known log a.at act p a.there)

-- what the pass knew begins the list of the closed books
known_in : (o : Opening) (history : List Entry) (known : List Act) → (c : ClosedWith o history known) → IsPrefix known c.closes.log
known_in o history known c = prefix_trans known c.pass.known c.closes.log c.knows (c.closes.parts c.at c.pass c.there).known

pub new_stands : NewStands
new_stands o pay old new place outcome history told closed =
    let added = told.says in
    let log = closed.closes.log in
    let there = added_there o pay old new place outcome log added (known_in o history new.known closed) in
    let at : length o.base + added.at ≡ place - 1 = omega (arith, added.place_is) in
    subst (λ (h : List Entry). HasAt h place (entry_on o pay outcome)) (sym closed.closes.is)
    (subst (λ (n : ℕ). slice_get (history_of o.base log) n ≡ Some (entry_on o pay outcome)) at there)

pub kept_stands : KeptStands
kept_stands o pay old new place outcome history told closed =
    let stands = told.says.0.0 in
    let log = closed.closes.log in
    let begins = history_prefix o.base new.known log (known_in o history new.known closed) in
    record {
      entry = stands.entry;
      there = subst (λ (h : List Entry). HasAt h place stands.entry) (sym closed.closes.is) (prefix_get (known_to o new) (history_of o.base log) (place - 1) stands.entry begins stands.there);
      same = stands.is_same;
      outcome_is = told.says.0.1;
    }

pub base_stands : BaseStands
base_stands o history faults passes place entry closes at =
    subst (λ (h : List Entry). HasAt h place entry) (sym closes.is) (prefix_get o.base (history_of o.base closes.log) (place - 1) entry (entries_of closes.log, refl) at)

pub more_keep_places : MoreKeepPlaces
more_keep_places history more place entry at = prefix_get history (history ++ more) (place - 1) entry (more, refl) at
