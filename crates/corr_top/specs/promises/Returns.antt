-- What `return` promises.
use Rattle.std.specs.Prelude.{ℕ, ◌≡◌, ◌⊎◌, ◌+◌, ◌∷◌, ◌++◌, true, false, List, [], length}
use Rattle.corr_books.specs.Moments.{StandsBetween, StandsWithMore}
use Rattle.corr_disk.specs.declared.disk.Disk as disks
use Rattle.corr_io.specs.declared.sink.Sink as sinks
use Rattle.corr_text.specs.Faults.{Rose}
use Rattle.day_model.specs.declared.entry.Entry.{Entry}
use Rattle.day_model.specs.declared.pay.Pay.{Pay}
use Rattle.jrn_book.specs.Book.{IsLeftBy}
use Rattle.jrn_book.specs.Journal.{IsWithOrWithout}
use Rattle.pay_returns.specs.Laws.{HoldsReturn}
use Rattle.pay_returns.specs.Making.{MayReturn}
use Rattle.ref_tables.specs.Seen.{Tables as Known}
use Rattle.corr_top.specs.declared.room.Room.{Room}
use Rattle.corr_top.specs.declared.status.Status.{Status}
use Rattle.corr_top.specs.declared.status.Status.TheVariants.{Memory}
use Rattle.corr_top.specs.Inputs.{Inputs}
use Rattle.corr_top.specs.OnDisk.{up_to}
use Rattle.corr_top.specs.Origin.{AreSentValid}
use Rattle.corr_top.specs.Out.{booked_from, sent_from}
use Rattle.corr_top.specs.Returned.{IsNotTakenBack, booked_on}
use Rattle.corr_top.specs.promises.Books.{AreBooks, AtEachMoment, Keeps, Wrote, writes}

module _ {S K D : Type 0} (sink : sinks.Ghosts K) (disk : disks.Ghosts D) (old new : Room S K D) (s : Status) where
  -- the payment at a place was taken back: its return is the one entry more, and is booked; its line and its messages are written, and these
  -- are valid under tables that hold what they say
  pub record TakesBack (i : Inputs) (books : List Entry) : Type 0 where
    pub pay : Pay
    pub may : MayReturn i.chart i.history i.place i.day pay
    pub books_are : books ≡ i.history ++ booked_on i.day pay ∷ []
    pub wrote : Wrote sink old new s (booked_from i.chart (length i.history + 1) books) (sent_from i.chart (length i.history + 1) books)
    pub valid : (t : Known) → HoldsReturn t i.chart pay → AreSentValid t i.chart (length i.history + 1) books

  -- whatever the status: the books are as they were, or have the return of the place more, which is booked; a crash keeps them, or,
  -- after a fault, them or them and one legal entry more; at each moment it leaves the old books or these, or that entry more (`more`), at the end too (`last`); done, they have
  -- it; refused, where no call of the disk failed and memory didn't run out, they are as they were, and the status is the first reason against it
  pub record ReturnPromise (i : Inputs) : Type 0 where
    pub books : List Entry
    pub more : List Entry
    pub entered : (books ≡ i.history) ⊎ ((pay : Pay) × MayReturn i.chart i.history i.place i.day pay × (books ≡ i.history ++ booked_on i.day pay ∷ []))
    pub crash : Keeps disk new.disk i.chart books
        ⊎ (Rose (disk.faults old.disk) (disk.faults new.disk) × AreBooks i.chart books × IsLeftBy (disk.honest new.disk) (disk.may_leave new.disk) i.chart books (up_to 1 i.day))
    pub moments : AtEachMoment disk old.disk new.disk (λ image. StandsBetween i.chart i.history books image
        ⊎ (Rose (disk.faults old.disk) (disk.faults new.disk) × StandsWithMore i.chart books i.day 1 more image))
    pub last : (image : List ℕ) → disk.may_leave new.disk image → IsWithOrWithout i.chart books more image
    pub done : writes s ≡ true → Keeps disk new.disk i.chart books
    pub answers : writes s ≡ true → TakesBack i books
    pub refused : writes s ≡ false → (Rose (disk.faults old.disk) (disk.faults new.disk) → ⊥) → (s ≡ Memory → ⊥)
        → Keeps disk new.disk i.chart i.history × IsNotTakenBack i.chart i.history i.place i.day s
