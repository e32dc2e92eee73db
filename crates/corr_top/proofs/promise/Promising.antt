-- The promises of `reconcile` and of `check`, and of `init` where it came to its end.
use Rattle.std.proofs.Common.{◌≡◌, ℕ, List, [], true, refl, sym, subst}
use Rattle.std.specs.Prelude.{IsTrue, Some}
use Rattle.corr_disk.specs.declared.disk.Disk as disks
use Rattle.corr_io.specs.declared.sink.Sink as sinks
use Rattle.corr_io.specs.declared.source.Source as sources
use Rattle.corr_ids.specs.declared.bic.Bic.{Bic}
use Rattle.day_model.specs.Chart.{Chart}
use Rattle.day_model.specs.declared.entry.Entry.{Entry}
use Rattle.jrn_book.specs.Journal.{StandsForBook}
use Rattle.reconcile.proofs.laws.Promises.{adds-up, stand-once, takes-first}
use Rattle.ref_tables.specs.Seen.{Tables as Known}
use Rattle.corr_top.specs.Commands.{meaning_of}
use Rattle.corr_top.specs.Ends.{Ends}
use Rattle.corr_top.specs.Inputs.{Inputs, chart_in, tables_in}
use Rattle.corr_top.specs.MessageFile.{IsMessageFile}
use Rattle.corr_top.specs.Passing.{Passes}
use Rattle.corr_top.specs.Check.{check_lines, check_meaning, check_report, check_steps}
use Rattle.corr_top.specs.Reconcile.{break_report, reconcile_meaning, reconcile_report, reconcile_steps}
use Rattle.corr_top.specs.declared.room.Room.{Room}
use Rattle.corr_top.specs.declared.status.Status.{Status}
use Rattle.corr_top.specs.declared.words.Command.TheVariants.{Plain}
use Rattle.corr_top.specs.declared.words.Plain.TheVariants.{Check, Init, Reconcile}
use Rattle.corr_top.specs.promises.Books.{Keeps, Told, Wrote, writes}
use Rattle.corr_top.specs.promises.Desk.{CheckPromise}
use Rattle.corr_top.specs.promises.Reconciling.{ReconcilePromise}
use Rattle.corr_top.specs.Init.{init_meaning, init_steps}
use Rattle.corr_top.specs.Steps.{Step}
use Rattle.corr_top.proofs.Told.{took_all}
use Rattle.corr_top.proofs.Walking.{named_has}
use Rattle.corr_top.proofs.promise.Agreeing.{chart_told, known_told, same_books, sound_books}
use Rattle.corr_top.proofs.promise.Finished.{finished}

module _ {S K D : Type 0} (source : sources.Ghosts S) (sink : sinks.Ghosts K) (disk : disks.Ghosts D) (old new : Room S K D) (s : Status) where
  pub reconcile_promise : (i : Inputs) → Ends source disk (meaning_of (Plain Reconcile)) old new sink s → Told source old.tables reconcile_steps i
      → source.left old.received ≡ Some i.messages → Keeps disk old.disk i.chart i.history → writes s ≡ true → ReconcilePromise sink old new s i
  unfolding meaning_of reconcile_report
  reconcile_promise i ended told received kept some =
      let j = ended.inputs in
      let P = Passes source disk old new j in
      let all = finished source sink disk old new s reconcile_meaning ended some in
      let p = all.0.passed in
      let known = known_told source sink disk old new s j i reconcile_steps reconcile_steps told p
      (record { bics = refl; ccys = refl; countries = refl }) (record { bics = refl; ccys = refl; countries = refl }) in
      let books = same_books disk old.disk j i.chart i.history (named_has P Step.open_journal reconcile_steps refl p) kept in
      let had = named_has P Step.received reconcile_steps refl p in
      let bytes = took_all source.left source.faults 67108864 old.received new.received j.messages i.messages received had.are.short had.took in
      let R : Chart → List Entry → Known → Type 0 = λ c b k. Wrote sink old new s (break_report c b k j.cut) [] in
      let here : R j.chart j.history (tables_in j) = all.2 in
      record {
        cut = j.cut;
        file = subst (λ (m : List ℕ). IsMessageFile m j.cut) bytes had.are;
        wrote = subst (λ (k : Known). R i.chart i.history k) known
            (subst (λ (b : List Entry). R i.chart b (tables_in j)) books.books_is (subst (λ (c : Chart). R c j.history (tables_in j)) books.chart_is here));
        rule = λ n t is. (takes-first i.chart i.history n t kept.sound.journal.legal, stand-once i.chart i.history n t kept.sound.journal.legal, adds-up i.chart i.history n t kept.sound.journal.legal is);
      }

  pub check_promise : (i : Inputs) → Ends source disk (meaning_of (Plain (Check i.home))) old new sink s → Told source old.tables check_steps i
      → source.left old.messages ≡ Some i.messages → writes s ≡ true → CheckPromise sink old new s i
  unfolding meaning_of check_report
  check_promise i ended told messages some =
      let j = ended.inputs in
      let P = Passes source disk old new j in
      let all = finished source sink disk old new s (check_meaning i.home) ended some in
      let p = all.0.passed in
      let known = known_told source sink disk old new s j i check_steps check_steps told p
      (record { bics = refl; ccys = refl; countries = refl }) (record { bics = refl; ccys = refl; countries = refl }) in
      let had = named_has P Step.messages check_steps refl p in
      let bytes = took_all source.left source.faults 67108864 old.messages new.messages j.messages i.messages messages had.are.short had.took in
      let home : j.home ≡ i.home = ended.are_for in
      let R : Bic → Known → Type 0 = λ h k. Wrote sink old new s (check_lines h k j.cut) [] in
      let here : R j.home (tables_in j) = all.2 in
      record {
        cut = j.cut;
        file = subst (λ (m : List ℕ). IsMessageFile m j.cut) bytes had.are;
        wrote = subst (λ (k : Known). R i.home k) known (subst (λ (h : Bic). R h (tables_in j)) home here);
      }

  pub init_promise : (i : Inputs) → disk.honest new.disk ≡ disk.honest old.disk → Ends source disk (meaning_of (Plain (Init i.home))) old new sink s
      → Told source old.tables init_steps i → IsTrue (disk.honest old.disk) → writes s ≡ true → Keeps disk new.disk (chart_in i) []
  unfolding meaning_of
  init_promise i honest ended told sure some =
      let j = ended.inputs in
      let all = finished source sink disk old new s (init_meaning i.home) ended some in
      let leaves = all.0.leaves in
      let chart = chart_told source sink disk old new s j i init_steps init_steps told all.0.passed ended.are_for
      (record { bics = refl; ccys = refl; countries = refl }) (record { bics = refl; ccys = refl; countries = refl }) refl refl in
      let now : IsTrue (disk.honest new.disk) = subst IsTrue (sym honest) sure in
      let stands = leaves.made.stands now in
      let made : Keeps disk new.disk (chart_in j) [] = record {
        told = now;
        sound = sound_books (chart_in j) [] leaves.journal;
        reads = stands;
        crash = λ image left. subst (λ (b : List ℕ). StandsForBook b (chart_in j) []) (sym (leaves.made.durable now image left)) stands;
      } in
      subst (λ (c : Chart). Keeps disk new.disk c []) chart made
