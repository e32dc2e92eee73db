-- The promise of `mend`.
use Rattle.std.proofs.Common.{◌≡◌, ℕ, List, [], true, refl, subst}
use Rattle.std.specs.Prelude.{Some, take}
use Rattle.corr_disk.specs.declared.disk.Disk as disks
use Rattle.corr_io.specs.declared.sink.Sink as sinks
use Rattle.corr_io.specs.declared.source.Source as sources
use Rattle.day_model.specs.Chart.{Chart}
use Rattle.day_model.specs.declared.entry.Entry.{Entry}
use Rattle.out_file.specs.Mended.{mended_of}
use Rattle.corr_top.specs.Commands.{meaning_of}
use Rattle.corr_top.specs.Ends.{Ends}
use Rattle.corr_top.specs.Mend.{mend_meaning, mend_steps, mended_out}
use Rattle.corr_top.specs.Out.{sent_from}
use Rattle.corr_top.specs.Passing.{Passes, most_sent_bytes}
use Rattle.corr_top.specs.promises.Books.{Keeps, Wrote, writes}
use Rattle.corr_top.specs.Steps.{Step}
use Rattle.corr_top.specs.declared.room.Room.{Room}
use Rattle.corr_top.specs.declared.status.Status.{Status}
use Rattle.corr_top.specs.declared.words.Command.TheVariants.{Plain}
use Rattle.corr_top.specs.declared.words.Plain.TheVariants.{Mend}
use Rattle.corr_top.proofs.Told.{took_all}
use Rattle.corr_top.proofs.Walking.{named_has}
use Rattle.corr_top.proofs.promise.Agreeing.{same_books}
use Rattle.corr_top.proofs.promise.Finished.{finished}

module _ {S K D : Type 0} (source : sources.Ghosts S) (sink : sinks.Ghosts K) (disk : disks.Ghosts D) (old new : Room S K D) (s : Status) where
  pub mend_promise : (from until : ℕ) (file : List ℕ) (chart : Chart) (books : List Entry) → Ends source disk (meaning_of (Plain (Mend from until))) old new sink s
      → source.left old.sent ≡ Some file → Keeps disk old.disk chart books → writes s ≡ true
      → Wrote sink old new s (mended_of file (sent_from chart from (take until books))) []
  unfolding meaning_of mended_out
  mend_promise from until file chart books ended told kept some =
      let j = ended.inputs in
      let P = Passes source disk old new j in
      let all = finished source sink disk old new s (mend_meaning from until) ended some in
      let p = all.0.passed in
      let same = same_books disk old.disk j chart books (named_has P Step.open_journal mend_steps refl p) kept in
      let had = named_has P Step.sent mend_steps refl p in
      let bytes = took_all source.left source.faults most_sent_bytes old.sent new.sent j.messages file told had.short had.took in
      let R : Chart → List Entry → List ℕ → Type 0 = λ c b f. Wrote sink old new s (mended_of f (sent_from c from (take until b))) [] in
      let here : R j.chart j.history j.messages = all.2 in
      subst (λ (f : List ℕ). R chart books f) bytes
      (subst (λ (b : List Entry). R chart b j.messages) same.books_is (subst (λ (c : Chart). R c j.history j.messages) same.chart_is here))
