-- A journal that is opened, made, or left by a run.
use Rattle.std.proofs.Common.{◌≡◌, inl, ℕ, List, Ok, Err, refl, sym, subst, arith}
use Rattle.std.specs.Prelude.{IfErr, IfOk, IfSome, IsTrue, MatchResult}
use Rattle.corr_disk.specs.declared.disk.Disk as disks
use Rattle.jrn_file.specs.File.{disk_of}
use Rattle.jrn_file.specs.Reading.{opened_of}
use Rattle.jrn_book.specs.Opening.{HasPurses, IsFound, IsNewBook, BookOpenCause, Opened, finding_in}
use Rattle.corr_top.specs.OnDisk.{IsUnwritten, StopsOpening}
use Rattle.corr_top.specs.inner.OnDisk.{HasOpened}

module _ {D : Type 0} (d : disks.Ghosts D) where
  -- a disk that nothing was done to is unwritten: since this moment there is no other
  pub same_unwritten : ((disk : D) (c : List ℕ) → d.left_since disk (d.moment disk) c → d.may_leave disk c) → (old new : D) → new ≡ old → IsUnwritten d old new
  same_unwritten only_now old new same = subst (λ (x : D). IsUnwritten d old x) (sym same) (record {
    same = refl;
    no_more = λ c left. left;
    any_moment = record { later = omega arith; each = λ c left. only_now old c left; before = λ t c le left. inl left };
  })

  module _ (disk : D) where
    -- what opening a book tells of a disk
    pub opened : (r : Opened D) → IfOk r (λ o. IsNewBook d.honest d.reads d.may_leave d.faults o.0) → IfOk r (λ o. HasPurses o.0 o.1)
        → (IsTrue (d.honest disk) → IfSome (finding_in r) (IsFound (opened_of (d.reads disk))))
        → MatchResult r (λ o. IsUnwritten d disk (disk_of o.0.file)) (λ e. IsUnwritten d disk e.0) → IfOk r (λ o. d.faults (disk_of o.0.file) ≡ d.faults disk)
        → IfOk r (λ o. HasOpened d disk o.0 o.1)
    opened (Ok o) new purses told unwritten kept = record {
      holds = record { journal = new.journal; stands = λ honest. (told honest).1 };
      whole = new.whole;
      settled = new.settled;
      table = purses.table;
      count = purses.count;
      untouched = unwritten;
      sure = kept;
    }
    opened (Err e) new purses told unwritten kept = tt

    pub unopened : (r : Opened D) → IfErr r (λ e. BookOpenCause (d.faults disk) (d.faults e.0) e.1)
        → (IsTrue (d.honest disk) → IfSome (finding_in r) (IsFound (opened_of (d.reads disk))))
        → MatchResult r (λ o. IsUnwritten d disk (disk_of o.0.file)) (λ e. IsUnwritten d disk e.0) → IfErr r (λ e. StopsOpening d disk e.0 e.1)
    unopened (Ok o) cause told unwritten = tt
    unopened (Err e) cause told unwritten = record { cause = cause; told = told; untouched = unwritten }
