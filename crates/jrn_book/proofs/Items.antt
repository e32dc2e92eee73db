-- One item more: its record stands last, and accounts and history are still those of a journal.
use Rattle.std.proofs.Common.{◌≡◌, ℕ, ◌+◌, ◌-◌, All, List, [], ◌∷◌, length, Option, Some, None, refl, sym, ap, ◌∙◌, subst, arith, length-append, take}
use Rattle.std.specs.Prelude.{slice_get, slice_set, ℤ}
use Rattle.std.specs.Option.{option_map_or}
use Rattle.std.proofs.lemmas.List.{take_all}
use Rattle.std.proofs.lemmas.List.Elements.{All-append, All-cons, All-filter, All-map, All-push, All-head, All-set, All-tail}
use Rattle.std.proofs.lemmas.Option.{slice_get_within, same_Some, slice_get-get_or}
use Rattle.day_model.specs.declared.account.Account.{Account}
use Rattle.day_model.specs.declared.change.Change.{Change}
use Rattle.day_model.specs.declared.change.Item.{Item}
use Rattle.day_model.specs.declared.change.Item.TheVariants.{Entered, Changed}
use Rattle.day_model.specs.declared.change.What.{What}
use Rattle.day_model.specs.declared.change.What.TheVariants.{Opened, Limits}
use Rattle.day_model.specs.declared.entry.Entry.{Entry}
use Rattle.day_model.specs.Balance.{balance_of}
use Rattle.day_model.specs.Changes.{changed_by, is_just, just_then, with_ends}
use Rattle.day_model.specs.Chart.{Chart, HasCode, accounts_of, with_change}
use Rattle.day_model.specs.Items.{items_from, items_of}
use Rattle.day_model.specs.Legal.{IsLegal, IsLegalChange, balance_at, balance_named}
use Rattle.day_model.proofs.laws.Changes.{named_same}
use Rattle.day_model.proofs.laws.Changing.{accounts_with, balance_with_change, chart_with_change, last_change, legal_with_change}
use Rattle.jrn_codec.specs.Items.{IsItem}
use Rattle.jrn_codec.specs.Record.{IsEntry}
use Rattle.jrn_book.specs.declared.version.Version.{Version}
use Rattle.jrn_book.specs.declared.version.Version.TheVariants.{One, Two}
use Rattle.jrn_book.specs.inner.Following.{MayComeNext}
use Rattle.jrn_book.specs.Journal.{IsJournalIn}
use Rattle.jrn_book.specs.Opening.{IsNextOf}
use Rattle.jrn_book.specs.Reading.{chart_with, entries_with}
use Rattle.jrn_book.specs.Versions.{HasBytes}

-- ---- each item has its record

items_all : (P : Item → Type 0) (k : ℕ) (changes : List Change) (entries : List Entry) → All (λ c. P (Changed c.what)) changes → All (λ e. P (Entered e)) entries
    → All P (items_from k changes entries)
items_all P k changes [] cs es = All-map P (λ (c : Change). Changed c.what) (just_then k changes) (All-filter (is_just k) (λ (c : Change). P (Changed c.what)) changes cs)
items_all P k changes (e ∷ entries) cs es =
    All-append P _ (Entered e ∷ items_from (k + 1) changes entries)
    (All-map P (λ (c : Change). Changed c.what) (just_then k changes) (All-filter (is_just k) (λ (c : Change). P (Changed c.what)) changes cs))
    (All-cons P (Entered e) (items_from (k + 1) changes entries) (All-head (λ (x : Entry). P (Entered x)) e entries es)
    (items_all P (k + 1) changes entries cs (All-tail (λ (x : Entry). P (Entered x)) e entries es)))

entry_has : (version : Version) (entries : List Entry) → All IsEntry entries → All (λ e. HasBytes version (Entered e)) entries
entry_has One entries all = all
entry_has Two entries all = all

pub items_have : (version : Version) (chart : Chart) (history : List Entry) → IsJournalIn version chart history → All (HasBytes version) (items_of chart history)
items_have version chart history journal = items_all (HasBytes version) 0 chart.changes history journal.changes (entry_has version history journal.entries)

-- what has a record of version 1 has one of version 2
pub has_item : (version : Version) (item : Item) → HasBytes version item → IsItem item
has_item One (Entered e) has = has
has_item One (Changed what) has = absurd has
has_item Two item has = has

-- ---- changes that may come next

pub change_is_legal : (chart : Chart) (history : List Entry) (what : What) → IsLegal chart history → MayComeNext chart history what
    → IsLegal (with_change chart (length history) what) history
change_is_legal chart history what legal next = legal_with_change chart history what legal next.few next.legal

-- and only these: the last change of a legal history was legal by the balances of now
pub change_was_legal : (chart : Chart) (history : List Entry) (what : What) → IsLegal (with_change chart (length history) what) history → MayComeNext chart history what
change_was_legal chart history what legal =
    let k : ℕ = length history in
    let new : Chart = with_change chart k what in
    let b : ℤ = balance_named (balance_at new history k) what in
    let last : IsLegalChange (accounts_of chart) b what = last_change chart history k what legal in
    let all : take k history ≡ history = take_all k history (omega arith) in
    let same : (n : ℕ) → balance_at new history k n ≡ balance_of chart history n =
    λ n. balance_with_change chart k what b (take k history) n last ∙ ap (λ (es : List Entry). balance_of chart es n) all in
    record {
      few = omega (arith, legal.changes.few, length-append chart.changes (record { after = k; what = what } ∷ []));
      legal = subst (λ (z : ℤ). IsLegalChange (accounts_of chart) z what) (named_same (balance_at new history k) (balance_of chart history) what same) last;
    }

-- ---- journals

-- other ends leave the letters of currencies
codes_set : (accounts : List Account) (k : ℕ) (floor ceil : ℤ) (o : Option Account) → slice_get accounts k ≡ o → All HasCode accounts
    → All HasCode (option_map_or (λ a. slice_set accounts k (with_ends floor ceil a)) o accounts)
codes_set accounts k floor ceil None at codes = codes
codes_set accounts k floor ceil (Some a) at codes =
    let within = slice_get_within accounts k a at in
    let code : HasCode a = subst HasCode (same_Some _ a (sym (slice_get-get_or accounts k a within) ∙ at)) (codes k a within) in
    All-set HasCode accounts k (with_ends floor ceil a) code codes

change_code : (version : Version) (what : What) (accounts : List Account) → HasBytes version (Changed what) → All HasCode accounts → All HasCode (changed_by what accounts)
change_code One what accounts has codes = absurd has
change_code Two (Opened a) accounts has codes = All-push HasCode accounts a codes has.code
change_code Two (Limits n floor ceil) accounts has codes = codes_set accounts (n.0 - 1) floor ceil (slice_get accounts (n.0 - 1)) refl codes

-- a journal with an item more that may stand next
pub journal_with : (version : Version) (chart : Chart) (history : List Entry) (item : Item) → IsJournalIn version chart history → IsNextOf version chart history item
    → IsJournalIn version (chart_with chart history item) (entries_with history item)
journal_with version chart history (Entered e) journal next = record {
  head = journal.head;
  book = journal.book;
  codes = journal.codes;
  changes = journal.changes;
  entries = All-push IsEntry history e journal.entries (has_item version (Entered e) next.0);
  legal = next.1;
}
journal_with version chart history (Changed what) journal next =
    let k : ℕ = length history in
    let c : Change = record { after = k; what = what } in
    let b : ℤ = balance_named (balance_at (with_change chart k what) history k) what in
    let last : IsLegalChange (accounts_of chart) b what = last_change chart history k what next.1 in
    record {
      head = journal.head;
      book = chart_with_change chart k what b journal.book last;
      codes = subst (λ (accounts : List Account). All HasCode accounts) (sym (accounts_with chart k what)) (change_code version what (accounts_of chart) next.0 journal.codes);
      changes = All-push (λ (x : Change). HasBytes version (Changed x.what)) chart.changes c journal.changes next.0;
      entries = journal.entries;
      legal = next.1;
    }
