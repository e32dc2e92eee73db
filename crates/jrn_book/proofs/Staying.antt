-- What holds of a book after an append.
use Rattle.std.proofs.Common.{◌≡◌, ℕ, ◌≤◌, All, Bool, false, List, [], ◌∷◌, ◌++◌, length, Option, None, refl, sym, ◌∙◌, subst, arith}
use Rattle.std.specs.Prelude.{◌⊎◌, IsTrue, IfSome, Err}
use Rattle.std.proofs.lemmas.List.Elements.{All-append, All-cons, All-nil, All-push}
use Rattle.corr_disk.specs.Disk.{LeavesOnly}
use Rattle.corr_text.specs.Faults.{Rose}
use Rattle.corr_ids.specs.declared.day.Day.{Day}
use Rattle.day_model.specs.declared.pay.Pay.{Pay}
use Rattle.day_model.specs.declared.entry.Entry.{Entry}
use Rattle.day_model.specs.Chart.{AreBy, Chart, accounts_of}
use Rattle.day_model.specs.Legal.{IsLegal}
use Rattle.day_model.specs.Log.{Log, most_entries}
use Rattle.day_model.specs.Totals.{HasTotals, Pair}
use Rattle.acct_locks.specs.Sides.{Sides}
use Rattle.jrn_file.specs.declared.file.JFile.{JFile}
use Rattle.jrn_file.specs.File.{IsSettled, disk_of}
use Rattle.jrn_file.specs.Journal.{IsBeforeOrAfter, StandsFor}
use Rattle.jrn_codec.specs.Header.{head_bytes}
use Rattle.jrn_codec.specs.Record.{IsEntry, entry_bytes}
use Rattle.jrn_book.specs.declared.answer.CommitFault.{CommitFault}
use Rattle.jrn_book.specs.declared.answer.CommitFault.TheVariants.{Broken, Conflict, DiskFault, Full, Memory}
use Rattle.jrn_book.specs.declared.answer.Failed.{Failed}
use Rattle.jrn_book.specs.Answers.{calls_disk, failed_after}
use Rattle.jrn_book.specs.inner.Appending.{ShowsAppend}
use Rattle.jrn_book.specs.Book.{Counts, IsBacked, IsLeftBy, StandsOnDisk}
use Rattle.jrn_book.specs.Index.{References, references_of}
use Rattle.jrn_book.specs.Journal.{IsJournal, item_records}
use Rattle.jrn_book.proofs.laws.Items.{records_more}

-- the counts after a fault
pub counts_after : (day : Day) (at_open count end need old new : ℕ) (fault : CommitFault) → old ≡ at_open → ShowsAppend count end need old new (Err fault) → Counts (failed_after 1 None day (Err fault)) at_open new
counts_after day at_open count end need old new (Conflict place) whole shows = absurd shows
counts_after day at_open count end need old new (Full entries at more) whole shows = shows.4 ∙ whole
counts_after day at_open count end need old new (DiskFault before after) whole shows =
    subst (λ (c : ℕ × ℕ). Rose c.0 c.1) (λ i. ((shows.2 ∙ whole) i, shows.3 i)) shows.4
counts_after day at_open count end need old new (Broken from now) whole shows = absurd shows
counts_after day at_open count end need old new Memory whole shows = absurd shows

module _ {D : Type 0} (honest : D → Bool) (reads : D → List ℕ) (may_leave : D → List ℕ → Type 0) (moment : D → ℕ) (left_since : D → ℕ → List ℕ → Type 0)
    (counts_now : (disk : D) (t : ℕ) (c : List ℕ) → t ≤ moment disk → may_leave disk c → left_since disk t c) where
  -- what a failed append leaves
  pub left_by : (chart : Chart) (history : List Entry) (e : Entry) (old new : JFile D) → AreBy (length history) chart → IsEntry e → IsLegal chart (history ++ e ∷ []) → honest (disk_of new) ≡ honest (disk_of old)
      → (IsTrue (honest (disk_of old)) → LeavesOnly moment left_since (disk_of old) (disk_of new) (IsBeforeOrAfter (head_bytes chart) (item_records chart history) (entry_bytes e)))
      → IsLeftBy (honest (disk_of new)) (may_leave (disk_of new)) chart history (record { day = e.day; most = 1 })
  left_by chart history e old new by written legal same leaves = record {
    entries = e ∷ [];
    few = omega arith;
    days_are = All-cons (λ (x : Entry). x.day ≡ e.day) e [] refl (All-nil (λ (x : Entry). x.day ≡ e.day));
    written = All-cons IsEntry e [] written (All-nil IsEntry);
    legal = legal;
    images = λ told image left.
        let all = leaves (subst IsTrue same told) in
        subst (λ (rs : List (List ℕ)). StandsFor image (head_bytes chart) (item_records chart history) ⊎ StandsFor image (head_bytes chart) rs) (sym (records_more chart history e by))
        (all.each image (counts_now (disk_of new) (moment (disk_of old)) image all.later left));
  }

  -- what stands on the disk after a fault
  pub disk_after : (chart : Chart) (history : List Entry) (day : Day) (old new : JFile D) (count end need before after : ℕ) (fault : CommitFault) → ShowsAppend count end need before after (Err fault)
      → (calls_disk (Err fault) ≡ false → new ≡ old)
      → IsSettled honest reads may_leave old (head_bytes chart) (item_records chart history)
      → ((count ≡ most_entries → ⊥) → IsLeftBy (honest (disk_of new)) (may_leave (disk_of new)) chart history (record { day = day; most = 1 }))
      → StandsOnDisk honest reads may_leave (failed_after 1 None day (Err fault)) new chart history
  disk_after chart history day old new count end need before after (Conflict place) shows same settled left = absurd shows
  disk_after chart history day old new count end need before after (Full entries at more) shows same settled left =
      subst (λ (f : JFile D). IsSettled honest reads may_leave f (head_bytes chart) (item_records chart history)) (sym (same refl)) settled
  disk_after chart history day old new count end need before after (DiskFault from to) shows same settled left = left shows.0
  disk_after chart history day old new count end need before after (Broken from now) shows same settled left = absurd shows
  disk_after chart history day old new count end need before after Memory shows same settled left = absurd shows

-- a journal with an entry more
pub journal_more : (chart : Chart) (history : List Entry) (e : Entry) → IsJournal chart history → IsEntry e → IsLegal chart (history ++ e ∷ []) → IsJournal chart (history ++ e ∷ [])
journal_more chart history e journal written legal = record {
  head = journal.head;
  book = journal.book;
  codes = journal.codes;
  changes = journal.changes;
  entries = All-push IsEntry history e journal.entries written;
  legal = legal;
}

-- and with several more
pub journal_all : (chart : Chart) (history entries : List Entry) → IsJournal chart history → All IsEntry entries → IsLegal chart (history ++ entries) → IsJournal chart (history ++ entries)
journal_all chart history entries journal written legal = record {
  head = journal.head;
  book = journal.book;
  codes = journal.codes;
  changes = journal.changes;
  entries = All-append IsEntry history entries journal.entries written;
  legal = legal;
}

-- what stands behind a book without room
pub backed : (chart : Chart) (log : Log) (index : References) (sides : Sides) (pairs : List Pair) (failed : Option Failed) (told : Option Pay) → told ≡ None → HasTotals sides.pairs (length (accounts_of chart)) log.entries
    → (failed ≡ None → HasTotals pairs (length (accounts_of chart)) log.entries) → index.references ≡ references_of log.entries → IsBacked chart log index sides pairs failed told
backed chart log index sides pairs failed told none totals running references = record {
  totals = totals;
  running = running;
  references = references;
  room = subst (λ (o : Option Pay). IfSome o (λ pay. (1 ≤ log.spare) × (1 ≤ index.spare))) (sym none) tt;
}
