-- The steps of `open-account` and `set-limits`: what was read ahead of the change is what was told.
use Rattle.std.proofs.Common.{◌≡◌, List, Option, true, false, refl, ap, ◌∙◌, subst}
use Rattle.corr_disk.specs.declared.disk.Disk as disks
use Rattle.corr_io.specs.declared.sink.Sink as sinks
use Rattle.corr_io.specs.declared.source.Source as sources
use Rattle.day_model.specs.Chart.{Chart}
use Rattle.day_model.specs.declared.change.What.{What}
use Rattle.day_model.specs.declared.entry.Entry.{Entry}
use Rattle.ref_tables.specs.declared.fault.TableName.TheVariants as names
use Rattle.ref_tables.specs.declared.fault.Why.{Why}
use Rattle.ref_tables.specs.Seen.{Tables as Known}
use Rattle.corr_top.specs.declared.account_words.AccountChange.{AccountChange}
use Rattle.corr_top.specs.declared.account_words.AccountChange.TheVariants.{Open, Limit}
use Rattle.corr_top.specs.declared.room.Room.{Room}
use Rattle.corr_top.specs.declared.status.Status.{Status}
use Rattle.corr_top.specs.Change.{change_steps}
use Rattle.corr_top.specs.Changed.{lent_in, opened_by, row_fault, what_in, what_of, words_fault}
use Rattle.corr_top.specs.Inputs.{Inputs}
use Rattle.corr_top.specs.Passing.{Passes}
use Rattle.corr_top.specs.promises.Books.{Keeps, Told}
use Rattle.corr_top.specs.Steps.{Step, Walks}
use Rattle.corr_top.proofs.Told.{same_lent}
use Rattle.corr_top.proofs.Walking.{ahead_of, is_named, named_has}
use Rattle.corr_top.proofs.promise.Agreeing.{SameBooks, same_books, table_told}
use Rattle.corr_top.proofs.promise.Untouched.{are_told}

-- ---- the steps, whichever of the two commands it is

-- the steps ahead of the change
abbrev pub first_steps : AccountChange → List Step
first_steps change = ahead_of Step.change (change_steps change)

pub each_told : (change : AccountChange) → are_told (change_steps change) ≡ true
each_told (Open words) = refl
each_told (Limit id ends) = refl

pub makes_none : (change : AccountChange) → is_named Step.make (change_steps change) ≡ false
makes_none (Open words) = refl
makes_none (Limit id ends) = refl

pub returns_none : (change : AccountChange) → is_named Step.book_return (change_steps change) ≡ false
returns_none (Open words) = refl
returns_none (Limit id ends) = refl

pub takes_none : (change : AccountChange) → is_named Step.take (change_steps change) ≡ false
takes_none (Open words) = refl
takes_none (Limit id ends) = refl

pub enters_none : (change : AccountChange) → is_named Step.serve (change_steps change) ≡ false
enters_none (Open words) = refl
enters_none (Limit id ends) = refl

pub opens_first : (change : AccountChange) → is_named Step.open_journal (first_steps change) ≡ true
opens_first (Open words) = refl
opens_first (Limit id ends) = refl

module _ {S K D : Type 0} (source : sources.Ghosts S) (sink : sinks.Ghosts K) (disk : disks.Ghosts D) (old new : Room S K D) (s : Status) (i j : Inputs) where
  -- what is changed is what was told to change
  told_what : (change : AccountChange) → Told source old.tables (change_steps change) i → Walks (Passes source disk old new j) (first_steps change)
      → what_in i.chart (lent_in j) change ≡ what_in i.chart (lent_in i) change
  told_what (Open words) told passed =
      let steps = change_steps (Open words) in
      let ahead = first_steps (Open words) in
      ap (λ (known : Known). opened_by known words)
      (same_lent j i (table_told source sink disk old new s j i steps ahead told passed names.Bics refl refl) (table_told source sink disk old new s j i steps ahead told passed names.Ccys refl refl))
  told_what (Limit id ends) told passed = refl

  -- so is the fault of its row
  told_row : (change : AccountChange) → Told source old.tables (change_steps change) i → Walks (Passes source disk old new j) (first_steps change)
      → row_fault i.chart (lent_in j) change ≡ row_fault i.chart (lent_in i) change
  told_row (Open words) told passed =
      let steps = change_steps (Open words) in
      let ahead = first_steps (Open words) in
      ap (λ (known : Known). words_fault i.chart known words)
      (same_lent j i (table_told source sink disk old new s j i steps ahead told passed names.Bics refl refl) (table_told source sink disk old new s j i steps ahead told passed names.Ccys refl refl))
  told_row (Limit id ends) told passed = refl

  -- the books that were opened, and the change of them
  pub record Reached : Type 0 where
    books : SameBooks j i.chart i.history
    row : row_fault j.chart (lent_in j) j.change ≡ row_fault i.chart (lent_in i) i.change
    what : what_of j ≡ what_of i

  pub reached : j.change ≡ i.change → Told source old.tables (change_steps i.change) i → Keeps disk old.disk i.chart i.history
      → Walks (Passes source disk old new j) (first_steps i.change) → Reached
  reached asked told kept passed =
      let books = same_books disk old.disk j i.chart i.history (named_has (Passes source disk old new j) Step.open_journal (first_steps i.change) (opens_first i.change) passed) kept in
      record {
        books = books;
        row =
            ap (λ (c : Chart). row_fault c (lent_in j) j.change) books.chart_is ∙ ap (λ (change : AccountChange). row_fault i.chart (lent_in j) change) asked
            ∙ told_row i.change told passed;
        what =
            ap (λ (c : Chart). what_in c (lent_in j) j.change) books.chart_is ∙ ap (λ (change : AccountChange). what_in i.chart (lent_in j) change) asked
            ∙ told_what i.change told passed;
      }

  -- what is said of the books and the change that were opened is said of those that were told
  pub on_told : (P : Chart → List Entry → What → Type 0) → Reached → P j.chart j.history (what_of j) → P i.chart i.history (what_of i)
  on_told P r here = subst (λ (x : Chart × List Entry × What). P x.0 x.1 x.2) (λ k. (r.books.chart_is k, r.books.books_is k, r.what k)) here

  -- the same with the fault of its row
  pub on_row : (P : Chart → List Entry → Option Why → What → Type 0) → Reached → P j.chart j.history (row_fault j.chart (lent_in j) j.change) (what_of j)
      → P i.chart i.history (row_fault i.chart (lent_in i) i.change) (what_of i)
  on_row P r here = subst (λ (x : Chart × List Entry × Option Why × What). P x.0 x.1 x.2 x.3) (λ k. (r.books.chart_is k, r.books.books_is k, r.row k, r.what k)) here
