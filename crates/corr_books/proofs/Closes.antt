-- All passes were taken back, and know the whole list together.
use Rattle.std.proofs.Common.{◌≡◌, ◌⊎◌, ⊎_elim, inl, inr, ℕ, ◌+◌, ◌≤◌, All, List, [], length, Option, Some, None, slice_get, sym, ◌∙◌, subst, arith}
use Rattle.std.specs.Prelude.{IfSome, IsTrue}
use mathlib.Core.Logic.{dite}
use native.Mathlib.Decide.{dec_lt}
use Rattle.corr_disk.specs.declared.disk.Disk as disks
use Rattle.corr_text.specs.Faults.{Rose}
use Rattle.corr_ids.specs.declared.day.Day.{Day}
use Rattle.jrn_book.specs.declared.answer.Failed.{Failed}
use Rattle.day_model.specs.declared.entry.Entry.{Entry}
use Rattle.day_model.specs.Chart.{Chart}
use Rattle.day_model.specs.Legal.{IsLegal}
use Rattle.front_word.specs.declared.view.Act.{Act}
use Rattle.front_word.specs.Known.{WriterKnows, PassKnows}
use Rattle.front_word.specs.Rule.{Among, IsNumber}
use Rattle.front_word.proofs.laws.Prefixes.{prefix_get_back}
use Rattle.jrn_book.specs.Book.{Counts, IsLeftBy, StandsOnDisk}
use Rattle.jrn_book.specs.Journal.{StandsForBook}
use Rattle.jrn_file.specs.declared.file.JFile.{JFile}
use Rattle.jrn_file.specs.File.{disk_of}
use Rattle.atomic_table.specs.Seated.{TableId}
use Rattle.corr_books.proofs.Counting.{all_among}
use Rattle.corr_books.proofs.laws.Moments.{leaves_as}
use Rattle.corr_books.specs.Closing.{Closes, IsOwned, IsPart, LeavesClosed, LeavesInTurn}
use Rattle.corr_books.specs.Moments.{LeavesSince, StandsBetween, StandsWithMore}
use Rattle.corr_books.specs.inner.Moments.{IsLeftInTurn}
use Rattle.corr_books.specs.Opening.{Opening}
use Rattle.corr_books.specs.Passes.{AllBelong}
use Rattle.corr_books.specs.inner.Stand.{IsStand, StandKnows}
use Rattle.corr_books.specs.inner.Taking.{AreTaken, IsTakenBack}

-- a pass that was taken back knows all of its entries
part_of : (w : WriterKnows) (p : PassKnows) → IsTakenBack w p → IsPart w.acts p
part_of w p t = record {
  known = t.known;
  own = λ i a at tag. dite (dec_lt i (length p.known))
      (λ lt. prefix_get_back p.known w.acts i a t.known lt at)
      (λ le. let o = t.owed i a at (omega arith) tag in absurd (cc (o.0)));
}

module _ {D : Type 0} (disk : disks.Ghosts D) (o : Opening) (past : ℕ → List ℕ → Type 0) (purses : TableId) (s : StandKnows D) (w' : WriterKnows) (passes : List PassKnows) where
  -- the numbers of the passes that were taken back are those of passes of the books
  numbers : AreTaken s.writer passes w' [] → AllBelong o passes → (k : ℕ) → Among k w'.back → IsNumber o.made k
  numbers t belong k a = let x = t.owners k a in subst (IsNumber o.made) x.3 (belong x.0 x.1 x.2).number

  -- each entry has its pass
  owner : IsStand disk o past purses s → AreTaken s.writer passes w' [] → AllBelong o passes → length passes ≡ o.made → (i : ℕ) (a : Act) → slice_get s.writer.acts i ≡ Some a → IsOwned o passes i a
  owner stand t belong len i a at =
      let x = t.owners a.by (all_among o.made w'.back t.back (numbers t belong) (let c = t.count in omega arith) a.by (stand.tags i a at)) in
      let p = x.1 in
      let taken = t.done x.0 p x.2 (omega arith) in
      let place = taken.places i a ((part_of s.writer p taken).own i a at (sym x.3)) (sym x.3) in
      record {
        at = x.0;
        pass = p;
        there = x.2;
        tagged = sym x.3;
        place = subst (λ (n : ℕ). Among (n + i + 1) p.mine) (belong x.0 p x.2).base place;
      }

  pub closes : (history : List Entry) (faults : ℕ) → IsStand disk o past purses s → AreTaken s.writer passes w' [] → AllBelong o passes → length passes ≡ o.made
      → history ≡ s.book.history → IsLegal s.book.accounts s.book.history → faults ≡ disk.faults (disk_of s.book.file)
      → Closes o history faults passes
  closes history faults stand t belong len same legal same_faults = record {
    log = s.writer.acts;
    is = same ∙ stand.history;
    legal = subst (λ (h : List Entry). IsLegal o.accounts h) (sym same) (subst (λ (c : Chart). IsLegal c s.book.history) stand.accounts legal);
    parts = λ k p at. part_of s.writer p (t.done k p at (omega arith));
    owned = owner stand t belong len;
    marks = λ k p at. let m = (t.done k p at (omega arith)).mark in let n = stand.mark in omega arith;
  }

-- entries of one commit that failed are of the books' day, and no more than the name tells
more_days : (o : Opening) (history : List Entry) (failed : Failed) → (failed.day ≡ o.day) × (failed.most ≤ o.most) → (more : List Entry) (image : List ℕ)
    → StandsWithMore o.accounts history failed.day failed.most more image → StandsWithMore o.accounts history o.day o.most more image
more_days o history failed days more image y = record {
  few = let few = y.few in omega (arith, few, days.1);
  of_day = subst (λ (d : Day). All (λ (e : Entry). e.day ≡ d) more) days.0 y.of_day;
  legal = y.legal;
  stands = y.stands;
}

-- what it left at each moment since the opening
pub in_turn : {D : Type 0} (disk : disks.Ghosts D) (o : Opening) (past : ℕ → List ℕ → Type 0) (d : D) (history : List Entry) (at_open : ℕ) (failed : Option Failed) → IfSome failed (λ f. (f.day ≡ o.day) × (f.most ≤ o.most)) → at_open ≡ o.at_open
    → Counts failed at_open (disk.faults d) → (IsTrue o.honest → (more : List Entry) × LeavesSince disk o past d (IsLeftInTurn o.accounts o.base history failed more)) → LeavesInTurn disk o past history d
in_turn disk o past d history at_open None days opened counts crash honest =
    let was = crash honest in (
      was.0,
      leaves_as disk o past d (StandsBetween o.accounts o.base history)
          (λ image. StandsBetween o.accounts o.base history image ⊎ (Rose o.at_open (disk.faults d) × StandsWithMore o.accounts history o.day o.most was.0 image))
          was.1 (λ image x. inl x),
    )
in_turn disk o past d history at_open (Some failed) days opened counts crash honest =
    let rose = subst (λ (n : ℕ). Rose n (disk.faults d)) opened counts in
    let was = crash honest in
    let more = was.0 in (
      more,
      leaves_as disk o past d (λ image. StandsBetween o.accounts o.base history image ⊎ StandsWithMore o.accounts history failed.day failed.most more image)
          (λ image. StandsBetween o.accounts o.base history image ⊎ (Rose o.at_open (disk.faults d) × StandsWithMore o.accounts history o.day o.most more image))
          was.1
          (λ image x. ⊎_elim
          (λ (y : StandsBetween o.accounts o.base history image). inl y)
          (λ (y : StandsWithMore o.accounts history failed.day failed.most more image). inr (rose, more_days o history failed days more image y))
          x),
    )

-- what a crash leaves of the closed books' disk
pub leaves : {D : Type 0} (disk : disks.Ghosts D) (o : Opening) (file : JFile D) (chart : Chart) (history : List Entry) (at_open : ℕ) (failed : Option Failed) → IfSome failed (λ f. (f.day ≡ o.day) × (f.most ≤ o.most)) → at_open ≡ o.at_open → chart ≡ o.accounts
    → StandsOnDisk disk.honest disk.reads disk.may_leave failed file chart history → Counts failed at_open (disk.faults (disk_of file)) → LeavesClosed disk o history (disk_of file)
leaves disk o file chart history at_open None days opened charts settled counts =
    inl (record {
      stands = λ honest. subst (λ (c : Chart). StandsForBook (disk.reads (disk_of file)) c history) charts (settled.stands honest);
      durable = settled.durable;
      sure = counts ∙ opened;
    })
leaves disk o file chart history at_open (Some failed) days opened charts left counts =
    let rose = subst (λ (n : ℕ). Rose n (disk.faults (disk_of file))) opened counts in
    let of_chart = subst (λ (c : Chart). IsLeftBy (disk.honest (disk_of file)) (disk.may_leave (disk_of file)) c history failed) charts left in
    inr (
      rose,
      record {
        entries = of_chart.entries;
        few = let few = of_chart.few in omega (arith, few, days.1);
        days_are = subst (λ (d : Day). All (λ (e : Entry). e.day ≡ d) of_chart.entries) days.0 of_chart.days_are;
        written = of_chart.written;
        legal = of_chart.legal;
        images = of_chart.images;
      },
    )
