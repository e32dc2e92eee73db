-- A journal of version 1 that is carried over.
use Rattle.std.proofs.Common.{◌≡◌, ◌+◌, ◌*◌, ◌≤◌, ◌<◌, ◌^◌, ℕ, All, List, [], ◌∷◌, ◌++◌, Option, Some, None, Result, Ok, Err, inl, inr, length, map, refl, sym, ap, ◌∙◌, subst, arith, append_assoc, append-nil}
use Rattle.std.specs.Prelude.{IsTrue, drop, slice_get, ◌-◌}
use Rattle.std.proofs.lemmas.List.{length-map}
use Rattle.std.proofs.lemmas.List.Elements.{All-append, All-head, All-nil, All-tail}
use Rattle.corr_disk.specs.declared.disk.Disk as disks
use Rattle.corr_disk.specs.Disk.{LeavesOnly, Only}
use Rattle.corr_disk.proofs.laws.Moments.{started}
use Rattle.corr_io.specs.declared.source.Source as sources
use Rattle.day_model.specs.declared.change.Change.{Change}
use Rattle.day_model.specs.declared.change.Item.TheVariants.{Changed}
use Rattle.day_model.specs.declared.entry.Entry.{Entry}
use Rattle.day_model.specs.Chart.{Chart}
use Rattle.day_model.specs.Items.{items_from}
use Rattle.jrn_book.specs.declared.version.Version.TheVariants.{One, Two}
use Rattle.jrn_book.specs.Journal.{IsJournal, IsJournalIn, item_records}
use Rattle.jrn_book.specs.Versions.{HasBytes}
use Rattle.jrn_codec.specs.Header.{head_bytes}
use Rattle.jrn_codec.specs.Items.{item_bytes}
use Rattle.jrn_codec.specs.Record.{entry_bytes}
use Rattle.jrn_codec.proofs.laws.Records.{few_in_head}
use Rattle.jrn_file.specs.declared.fault.MakeFault.{MakeFault}
use Rattle.jrn_file.specs.declared.fault.MakeFault.TheVariants as making
use Rattle.jrn_file.specs.Faults.{IsRefusal, MakeWithCause}
use Rattle.jrn_file.specs.Journal.{StandsFor, journal_bytes}
use Rattle.jrn_file.specs.Making.{IsOther, IsUnmade, IsUnmadeOrMadeWith}
use Rattle.jrn_file.specs.Reading.{size_of}
use Rattle.jrn_file.proofs.laws.Sizes.{length-journal_bytes}
use Rattle.corr_top.specs.declared.room.Room.{Room}
use Rattle.corr_top.specs.declared.status.Status.{Status}
use Rattle.corr_top.specs.declared.status.Status.TheVariants as status
use Rattle.corr_top.specs.declared.words.Command.TheVariants.{Plain}
use Rattle.corr_top.specs.declared.words.Plain.TheVariants.{Migrate}
use Rattle.corr_top.specs.declared.writing.Texts.{Texts}
use Rattle.corr_top.specs.Commands.{meaning_of}
use Rattle.corr_top.specs.Copied.{HasCopied, HasSecond, HoldsOld, OnSecond, StopsCopying}
use Rattle.corr_top.specs.inner.Copied.{GivesCarried, GivesCopied}
use Rattle.corr_top.specs.inner.Ends.{CommandGives, HasTexts}
use Rattle.corr_top.specs.Inputs.{Inputs}
use Rattle.corr_top.specs.Migrate.{migrate_steps}
use Rattle.corr_top.specs.OnDisk.{HasNotFailed, IsMakeable, IsUnwritten}
use Rattle.corr_top.specs.Passing.{table_at}
use Rattle.corr_top.specs.Steps.{Step}
use Rattle.corr_report.proofs.laws.Rests.{rest_at, rest_none}
use Rattle.corr_top.proofs.Journals.{same_unwritten}
use Rattle.corr_top.proofs.Replying.{all_one}
use Rattle.corr_top.proofs.TableFiles.{no_inputs}
use Rattle.corr_top.proofs.Walking.{contained}

-- ---- a journal of version 1 has no changes

no_changes : (changes : List Change) → All (λ change. HasBytes One (Changed change.what)) changes → changes ≡ []
no_changes [] each = refl
no_changes (change ∷ changes) each = absurd (All-head (λ (c : Change). HasBytes One (Changed c.what)) change changes each)

records_from : (k : ℕ) (history : List Entry) → map item_bytes (items_from k [] history) ≡ map entry_bytes history
records_from k [] = refl
records_from k (entry ∷ history) = ap (λ (records : List (List ℕ)). entry_bytes entry ∷ records) (records_from (k + 1) history)

module _ (chart : Chart) (history : List Entry) (journal : IsJournalIn One chart history) where
  unchanged : chart.changes ≡ []
  unchanged = no_changes chart.changes journal.changes

  -- so its records are those of its entries
  pub entries_alone : item_records chart history ≡ map entry_bytes history
  entries_alone = ap (λ (changes : List Change). map item_bytes (items_from 0 changes history)) unchanged ∙ records_from 0 history

  -- and it is a journal of version 2
  pub carried_journal : IsJournal chart history
  carried_journal = record {
    head = journal.head;
    book = journal.book;
    codes = journal.codes;
    changes = subst (λ (changes : List Change). All (λ (c : Change). HasBytes Two (Changed c.what)) changes) (sym unchanged) (All-nil (λ (c : Change). HasBytes Two (Changed c.what)));
    entries = journal.entries;
    legal = journal.legal;
  }

  -- its header is short
  pub short_head : length (head_bytes chart) ≤ 1048576
  short_head = few_in_head _ journal.head

  -- ---- and its size

  each_short : (records : List (List ℕ)) → All (λ r. length r ≤ 1048576) records → size_of records ≤ length records * 1048581
  each_short [] each = omega arith
  each_short (r ∷ records) each =
      let short : List ℕ → Type 0 = λ bytes. length bytes ≤ 1048576 in
      let rest = each_short records (All-tail short r records each) in
      let first = All-head short r records each in
      omega (arith, rest, first)

  pub small_file : (records : List (List ℕ)) → records ≡ map entry_bytes history → All (λ r. length r ≤ 1048576) records → length (journal_bytes (head_bytes chart) records) < 2 ^ 64
  small_file records are short =
      let size = length-journal_bytes (head_bytes chart) records in
      let each = each_short records short in
      let count : length records ≡ length history = ap length are ∙ length-map history entry_bytes in
      let few = journal.legal.rules.short in
      let head = short_head in
      omega (arith, size, each, count, few, head)

-- ---- the records of entries, one after another

-- one entry's more
pub one_more : (history : List Entry) (place : ℕ) (entry : Entry) (records : List (List ℕ)) (text : List ℕ) → 1 ≤ place → slice_get history (place - 1) ≡ Some entry → text ≡ entry_bytes entry
    → records ++ map entry_bytes (drop (place - 1) history) ≡ map entry_bytes history → (records ++ text ∷ []) ++ map entry_bytes (drop (place + 1 - 1) history) ≡ map entry_bytes history
one_more history place entry records text one at is all =
    let later = drop (place + 1 - 1) history in
    append_assoc records (text ∷ []) (map entry_bytes later)
    ∙ ap (λ (rest : List (List ℕ)). records ++ rest)
    (ap (λ (t : List ℕ). t ∷ map entry_bytes later) is ∙ ap (λ (left : List Entry). map entry_bytes left) (sym (rest_at history place entry one at)))
    ∙ all

-- after the last one
pub all_done : (history : List Entry) (place : ℕ) (records : List (List ℕ)) → length history + 1 ≤ place → records ++ map entry_bytes (drop (place - 1) history) ≡ map entry_bytes history
    → records ≡ map entry_bytes history
all_done history place records past all =
    sym (append-nil records) ∙ ap (λ (left : List Entry). records ++ map entry_bytes left) (sym (rest_none history place past)) ∙ all

pub short_more : (records : List (List ℕ)) (text : List ℕ) → All (λ r. length r ≤ 1048576) records → length text ≤ 1048576 → All (λ r. length r ≤ 1048576) (records ++ text ∷ [])
short_more records text all short = All-append (λ r. length r ≤ 1048576) records (text ∷ []) all (all_one (λ r. length r ≤ 1048576) text short)

-- ---- what making it gives

module _ {D : Type 0} (d : disks.Ghosts D) (old new : D) (chart : Chart) (history : List Entry) (head : List ℕ) (records : List (List ℕ)) (is : head ≡ head_bytes chart) (are : records ≡ item_records chart history) where
  -- what is said of these records is said of the journal's
  on_records : (P : List ℕ → List (List ℕ) → Type 0) → P head records → P (head_bytes chart) (item_records chart history)
  on_records P here = subst (λ (x : List ℕ × List (List ℕ)). P x.0 x.1) (λ k. (is k, are k)) here

  abbrev InTurn : List ℕ → List (List ℕ) → Type 0
  InTurn head records = IsTrue (d.honest old) → Only (d.reads old) (d.may_leave old) → IsUnmade (d.reads old) → LeavesOnly d.moment d.left_since old new (IsUnmadeOrMadeWith head records)

  pub copied : IsJournalIn One chart history → d.honest new ≡ d.honest old → (IsTrue (d.honest old) → StandsFor (d.reads new) head records) → (IsTrue (d.honest old) → Only (d.reads new) (d.may_leave new))
      → d.faults new ≡ d.faults old → IsMakeable d old → InTurn head records → HasCopied d old new chart history
  copied journal honest stands durable sure free moments = record {
    free = free;
    made = record {
      stands = λ told. on_records (λ h rs. StandsFor (d.reads new) h rs) (stands (subst IsTrue honest told));
      durable = λ told. durable (subst IsTrue honest told);
    };
    journal = carried_journal chart history journal;
    sure = sure;
    any_moment = on_records InTurn moments;
    honest = honest;
  }

  abbrev Cause : MakeFault → List ℕ → List (List ℕ) → Type 0
  Cause fault head records = MakeWithCause (d.faults old) (d.faults new) (λ first. IsTrue (d.honest old) → IsOther (d.reads old) first) (length (journal_bytes head records)) (IsUnwritten d old new) fault

  pub uncopied : (fault : MakeFault) → d.honest new ≡ d.honest old → Cause fault head records → ((first : ℕ) → IsTrue (d.honest old) → IsOther (d.reads old) first → IsRefusal first fault)
      → ((first : ℕ) → IsTrue (d.honest old) → IsOther (d.reads old) first → IsUnwritten d old new) → InTurn head records → StopsCopying d old new chart history fault
  uncopied fault honest cause exists untouched moments = record {
    cause = on_records (Cause fault) cause;
    exists = exists;
    untouched = untouched;
    any_moment = on_records InTurn moments;
    honest = honest;
  }

-- there was no memory for its records
pub copy_wanted : {D : Type 0} (d : disks.Ghosts D) (disk : D) (chart : Chart) (history : List Entry) → ((x : D) (c : List ℕ) → d.left_since x (d.moment x) c → d.may_leave x c)
    → StopsCopying d disk disk chart history making.Memory
copy_wanted d disk chart history only = record {
  cause = refl;
  exists = λ first told other. tt;
  untouched = λ first told other. same_unwritten d only disk disk refl;
  any_moment = λ told alone unmade.
      started d.moment d.left_since disk (IsUnmadeOrMadeWith (head_bytes chart) (item_records chart history)) (λ c left. inl (subst IsUnmade (sym (alone c (only disk c left))) unmade));
  honest = refl;
}

-- ---- what carrying it over gives

module _ {D : Type 0} (d : disks.Ghosts D) (old new from to : D) where
  pub carried : (chart : Chart) (history : List Entry) → HoldsOld d old chart history → HasNotFailed d old new → IsUnwritten d old new → (r : Result Texts Status) → GivesCopied d from to chart history r → GivesCarried d old new from to r
  carried chart history holds sure unwritten (Ok texts) gives = (chart, history, holds, sure, unwritten, gives)
  carried chart history holds sure unwritten (Err s) gives = inr (chart, history, holds, sure, unwritten, gives)

module _ {S K D : Type 0} (source : sources.Ghosts S) (d : disks.Ghosts D) (old new : Room S K D) where
  -- all but the two disks is as it was
  pub record IsRest : Type 0 where
    pub tables : new.tables ≡ old.tables
    pub messages : new.messages ≡ old.messages
    pub received : new.received ≡ old.received
    pub sent : new.sent ≡ old.sent
    pub report : new.report ≡ old.report
    pub out : new.out ≡ old.out

  gives_migrate : IsRest → (r : Result Texts Status) (i : Inputs) → CommandGives source d (meaning_of (Plain Migrate)) old new r i → HasTexts source d (meaning_of (Plain Migrate)) old new r
  unfolding meaning_of
  gives_migrate rest r i gives = record {
    inputs = i;
    are_for = tt;
    gives = gives;
    rest = record {
      tables = λ name unread. ap (λ t. table_at name t) rest.tables;
      messages = λ unread unserved. rest.messages;
      received = λ unread unpacked. rest.received;
      sent = λ unread. rest.sent;
      disk2 = λ unread. absurd (unread (contained Step.copy migrate_steps refl));
    };
    report = rest.report;
    out = rest.out;
  }

  -- there is no second disk
  pub no_second : IsRest → new.disk ≡ old.disk → old.disk2 ≡ None → new.disk2 ≡ old.disk2 → HasTexts source d (meaning_of (Plain Migrate)) old new (Err status.NoSecond)
  unfolding meaning_of
  no_second rest disk none second = gives_migrate rest (Err status.NoSecond) no_inputs (inl (inl ((refl, none), (disk, (second, tt)))))

  module _ (rest : IsRest) (from to : D) (first : old.disk2 ≡ Some from) (second : new.disk2 ≡ Some to) where
    has_second : HasSecond old.disk2
    has_second = subst HasSecond (sym first) tt

    on_second : (P : D → D → Type 0) → P from to → OnSecond P old.disk2 new.disk2
    on_second P here = subst (λ (x : Option D × Option D). OnSecond P x.0 x.1) (λ k. (sym first k, sym second k)) here

    pub migrate_texts : (r : Result Texts Status) → GivesCarried d old.disk new.disk from to r → HasTexts source d (meaning_of (Plain Migrate)) old new r
    unfolding meaning_of
    migrate_texts (Ok texts) gives =
        let i : Inputs = record no_inputs { chart = gives.0; history = gives.1 } in
        let made = gives.5 in
        gives_migrate rest (Ok texts) i (
          record {
            passed = (has_second, (gives.2, (on_second (λ a b. HasCopied d a b gives.0 gives.1) made.0, tt)));
            leaves = record { sure = gives.3; unwritten = gives.4 };
          },
          made.1,
          made.2,
          tt,
        )
    migrate_texts (Err s) (inl stop) =
        let same : new.disk2 ≡ old.disk2 = second ∙ ap (λ (x : D). Some x) stop.3 ∙ sym first in
        gives_migrate rest (Err s) no_inputs (inl (inr (has_second, inl ((stop.0, stop.1, stop.2), (same, tt)))))
    migrate_texts (Err s) (inr stop) =
        let i : Inputs = record no_inputs { chart = stop.0; history = stop.1 } in
        let fault = stop.5.0 in
        gives_migrate rest (Err s) i
        (inl (inr (has_second, inr (stop.2, inl ((fault, stop.5.1, on_second (λ a b. StopsCopying d a b stop.0 stop.1 fault) stop.5.2, stop.3, stop.4), tt)))))
