-- Where `init` ends in whatever way, a crash leaves nothing made, or the new journal.
use Rattle.std.proofs.Common.{◌≡◌, ◌⊎◌, [], inl, inr, refl, sym, subst}
use mathlib.Core.Bool.{true≢false}
use Rattle.std.specs.Prelude.{IsTrue}
use Rattle.corr_disk.specs.Disk.{Only}
use Rattle.corr_disk.specs.declared.disk.Disk as disks
use Rattle.corr_io.specs.declared.sink.Sink as sinks
use Rattle.corr_io.specs.declared.source.Source as sources
use Rattle.day_model.specs.Chart.{Chart}
use Rattle.jrn_book.specs.Journal.{StandsForBook}
use Rattle.jrn_file.specs.Making.{IsUnmade}
use Rattle.corr_top.specs.Commands.{meaning_of}
use Rattle.corr_top.specs.Ends.{Ends}
use Rattle.corr_top.specs.Inputs.{Inputs, chart_in}
use Rattle.corr_top.specs.Passing.{Passes}
use Rattle.corr_top.specs.declared.room.Room.{Room}
use Rattle.corr_top.specs.declared.status.Status.{Status}
use Rattle.corr_top.specs.declared.words.Command.TheVariants.{Plain}
use Rattle.corr_top.specs.declared.words.Plain.TheVariants.{Init}
use Rattle.corr_top.specs.promises.Books.{AtEachMoment, Told}
use Rattle.corr_top.specs.Init.{init_meaning, init_steps}
use Rattle.corr_top.specs.Steps.{Step, Walks}
use Rattle.corr_top.proofs.Walking.{ahead_of, walks_ahead}
use Rattle.corr_top.proofs.promise.Agreeing.{chart_told}
use Rattle.corr_top.proofs.promise.Finished.{came}
use Rattle.corr_top.proofs.promise.Untouched.{OnlyNow, stops_somewhere}

module _ {S K D : Type 0} (source : sources.Ghosts S) (sink : sinks.Ghosts K) (disk : disks.Ghosts D) (old new : Room S K D) (s : Status) (i : Inputs) where
  -- a law of disks, and what was told
  pub made_promise : OnlyNow disk → Ends source disk (meaning_of (Plain (Init i.home))) old new sink s → Told source old.tables init_steps i
      → IsTrue (disk.honest old.disk) → Only (disk.reads old.disk) (disk.may_leave old.disk) → IsUnmade (disk.reads old.disk)
      → AtEachMoment disk old.disk new.disk (λ image. IsUnmade image ⊎ StandsForBook image (chart_in i) [])
  unfolding meaning_of
  made_promise now ended told sure only unmade image left =
      let j = ended.inputs in
      let ahead = ahead_of Step.make init_steps in
      let chart : Walks (Passes source disk old new j) ahead → chart_in j ≡ chart_in i = λ passed.
      chart_told source sink disk old new s j i init_steps ahead told passed ended.are_for
      (record { bics = refl; ccys = refl; countries = refl }) (record { bics = refl; ccys = refl; countries = refl }) refl refl in
      let P : Chart → Type 0 = λ c. IsUnmade image ⊎ StandsForBook image c [] in
      elim (came source sink disk old new s (init_meaning i.home) ended) [
        | inl passed ↦
            subst P (chart (walks_ahead (Passes source disk old new j) Step.make init_steps passed.passed)) ((passed.leaves.any_moment sure only unmade).each image left)
        | inr halted ↦ elim (stops_somewhere source disk old new j s now init_steps refl halted.halts) [
          | inl unwritten ↦ inl (subst IsUnmade (sym (only image (unwritten.any_moment.each image left))) unmade)
          | inr at ↦ elim at [
            | inl make ↦ subst P (chart make.ahead) ((make.stops.2.any_moment sure only unmade).each image left)
            | inr written ↦ elim written [
              | inl book ↦ absurd (true≢false (sym book.named))
              | inr later ↦ elim later [
                | inl change ↦ absurd (true≢false (sym change.named))
                | inr last ↦ elim last [ inl back ↦ absurd (true≢false (sym back.named)) | inr taking ↦ absurd (true≢false (sym taking.named)) ]
              ]
            ]
          ]
        ]
      ]
