-- The promise of `page`.
use Rattle.std.proofs.Common.{◌≡◌, ℕ, List, [], true, refl, subst}
use Rattle.std.specs.Prelude.{Some}
use Rattle.corr_disk.specs.declared.disk.Disk as disks
use Rattle.corr_ids.specs.declared.day.Day.{Day}
use Rattle.corr_io.specs.declared.sink.Sink as sinks
use Rattle.corr_io.specs.declared.source.Source as sources
use Rattle.day_model.specs.Chart.{Chart}
use Rattle.day_model.specs.declared.entry.Entry.{Entry}
use Rattle.ref_tables.specs.declared.fault.TableName.{TableName}
use Rattle.ref_tables.specs.declared.fault.TableName.TheVariants as names
use Rattle.corr_top.specs.declared.directory.Directory.{Directory}
use Rattle.corr_top.specs.declared.room.Room.{Room}
use Rattle.corr_top.specs.declared.status.Status.{Status}
use Rattle.corr_top.specs.declared.words.Command.TheVariants.{Plain}
use Rattle.corr_top.specs.declared.words.Plain.TheVariants.{Page}
use Rattle.corr_top.specs.Commands.{meaning_of}
use Rattle.corr_top.specs.Ends.{Ends}
use Rattle.corr_top.specs.Inputs.{Inputs, directory_in}
use Rattle.corr_top.specs.MessageFile.{IsMessageFile}
use Rattle.corr_top.specs.Page.{day_page, page_meaning, page_report, page_steps}
use Rattle.corr_top.specs.Passing.{Passes, table_file}
use Rattle.corr_top.specs.promises.Books.{Keeps, Told, Wrote, writes}
use Rattle.corr_top.specs.promises.Desk.{PagePromise}
use Rattle.corr_top.specs.Steps.{Step}
use Rattle.corr_top.proofs.Told.{same_directory, took_all}
use Rattle.corr_top.proofs.Walking.{is_named, named_has}
use Rattle.corr_top.proofs.promise.Agreeing.{known_told, same_books, table_told}
use Rattle.corr_top.proofs.promise.Finished.{finished}

module _ {S K D : Type 0} (source : sources.Ghosts S) (sink : sinks.Ghosts K) (disk : disks.Ghosts D) (old new : Room S K D) (s : Status) where
  pub page_promise : (i : Inputs) → Ends source disk (meaning_of (Plain (Page i.day))) old new sink s → Told source old.tables page_steps i
      → source.left old.messages ≡ Some i.messages → Keeps disk old.disk i.chart i.history → writes s ≡ true → PagePromise sink old new s i
  unfolding meaning_of page_report
  page_promise i ended told messages kept some =
      let j = ended.inputs in
      let P = Passes source disk old new j in
      let all = finished source sink disk old new s (page_meaning i.day) ended some in
      let p = all.0.passed in
      let same : (name : TableName) → is_named (Step.table name) page_steps ≡ true → is_named (Step.table name) page_steps ≡ true → table_file name j ≡ table_file name i =
      table_told source sink disk old new s j i page_steps page_steps told p in
      let known = known_told source sink disk old new s j i page_steps page_steps told p
      (record { bics = refl; ccys = refl; countries = refl }) (record { bics = refl; ccys = refl; countries = refl }) in
      let directory = same_directory j i known (same names.Ssi refl refl) (same names.Charges refl refl) in
      let books = same_books disk old.disk j i.chart i.history (named_has P Step.open_journal page_steps refl p) kept in
      let had = named_has P Step.messages page_steps refl p in
      let bytes = took_all source.left source.faults 67108864 old.messages new.messages j.messages i.messages messages had.are.short had.took in
      let R : Directory → Chart → List Entry → Day → Type 0 = λ d c b on. Wrote sink old new s (day_page d c b on j.cut) [] in
      let here : R (directory_in j) j.chart j.history j.day = all.2 in
      record {
        cut = j.cut;
        file = subst (λ (m : List ℕ). IsMessageFile m j.cut) bytes had.are;
        wrote = subst (λ (d : Directory). R d i.chart i.history i.day) directory
            (subst (λ (b : List Entry). R (directory_in j) i.chart b i.day) books.books_is
            (subst (λ (c : Chart). R (directory_in j) c j.history i.day) books.chart_is
            (subst (λ (on : Day). R (directory_in j) j.chart j.history on) ended.are_for here)));
      }
