-- What stands behind the lock of books that were just made.
use Rattle.std.proofs.Common.{◌≡◌, ℕ, ◌≤◌, List, [], Option, refl, ap, sym, ◌∙◌, subst, arith, append-nil}
use Rattle.std.specs.Prelude.{IfSome}
use Rattle.std.proofs.lemmas.Option.{none-some}
use Rattle.atomic_table.specs.Seated.{TableId}
use Rattle.corr_disk.specs.declared.disk.Disk as disks
use Rattle.corr_ids.specs.Day.{InCentury}
use Rattle.corr_ids.specs.declared.day.Day.{Day}
use Rattle.jrn_book.specs.declared.answer.Failed.{Failed}
use Rattle.day_model.specs.Laws.{IsLatest}
use Rattle.front_word.specs.Known.{WriterKnows, beginner}
use Rattle.jrn_book.specs.Book.{Book, Counts}
use Rattle.jrn_book.specs.Opening.{IsNewBook}
use Rattle.jrn_file.specs.File.{disk_of}
use Rattle.corr_books.specs.Moments.{LeavesSince, StandsBetween}
use Rattle.corr_books.specs.inner.Moments.{IsLeftInTurn}
use Rattle.corr_books.specs.Opening.{IsNamed, Opening, Parts, opening_with, parts_from, past_of}
use Rattle.corr_books.specs.inner.Stand.{IsStand}
use Rattle.corr_books.proofs.laws.Moments.{leaves_first, stands_here}

module _ {D : Type 0} (disk : disks.Ghosts D) (past : ℕ → List ℕ → Type 0) (purses : TableId) (book : Book D) (day : Day) (word : TableId) (made most : ℕ) (some : 1 ≤ most) where
  -- the parts of the book
  abbrev Begun : Parts D
  Begun = parts_from book day word

  -- their opening, and the writer that has begun
  abbrev First : Opening
  First = opening_with disk Begun made most

  abbrev Beginner : WriterKnows
  Beginner = record (beginner word book.history) { made = made }

  first_stand : purses ≡ book.table → ((t : ℕ) (image : List ℕ) → past_of disk Begun t image → past t image) → IsNewBook disk.honest disk.reads disk.may_leave disk.faults book → InCentury day → IsLatest book.history day
      → ((d : D) (image : List ℕ) → disk.left_since d (disk.moment d) image → disk.may_leave d image)
      → IsStand disk First past purses record { book = book; writer = Beginner; day = day }
  first_stand table told new century latest no_other = record {
    accounts = refl;
    purses_are = sym table;
    at_open = refl;
    honest = refl;
    day = refl;
    word = refl;
    base = refl;
    made = refl;
    owed = refl;
    back = refl;
    history = sym (append-nil book.history);
    tags = λ i a at. absurd (none-some a at);
    century = century;
    latest = latest;
    some = some;
    failed = subst (λ (f : Option Failed). IfSome f (λ f. (f.day ≡ day) × (f.most ≤ most))) (sym new.whole) tt;
    counts = subst (λ (f : Option Failed). Counts f book.at_open (disk.faults (disk_of book.file))) (sym new.whole) (sym new.count);
    mark = omega arith;
    crash = λ honest. (
      [],
      subst (λ (f : Option Failed). LeavesSince disk First past (disk_of book.file) (IsLeftInTurn book.accounts book.history book.history f [])) (sym new.whole)
          (leaves_first disk First past (disk_of book.file) (StandsBetween book.accounts book.history book.history) refl told (no_other (disk_of book.file)) (new.settled.durable honest)
          (stands_here book.accounts book.history (disk.reads (disk_of book.file)) (new.settled.stands honest))),
    );
  }

  pub stand_begun : (o : Opening) (parts : Parts D) (w : WriterKnows) → most ≡ o.most → IsNamed disk o past purses parts made → parts ≡ Begun → IsNewBook disk.honest disk.reads disk.may_leave disk.faults book → w ≡ Beginner → InCentury day → IsLatest book.history day
      → ((d : D) (image : List ℕ) → disk.left_since d (disk.moment d) image → disk.may_leave d image)
      → IsStand disk o past purses record { book = book; writer = w; day = day }
  stand_begun o parts w most_is named is new writer century latest no_other =
      let first = first_stand (named.purses_are ∙ ap (λ (p : Parts D). p.purses) is) (λ t image left. named.past_has t image (subst (λ (p : Parts D). past_of disk p t image) (sym is) left)) new century latest no_other in
      subst (λ (x : Opening × WriterKnows). IsStand disk x.0 past purses record { book = book; writer = x.1; day = day })
      (λ i. (sym (named.opening_is ∙ ap (λ (x : Parts D × ℕ). opening_with disk x.0 made x.1) (λ j. (is j, sym most_is j))) i, sym writer i)) first
