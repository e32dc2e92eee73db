-- A journal that was opened, and one that was refused.
use Rattle.std.proofs.Common.{◌≡◌, ℕ, ◌+◌, Bool, IsTrue, List, sym, ◌∙◌, ap, subst}
use Rattle.corr_disk.specs.Disk.{Only}
use Rattle.jrn_file.specs.Journal.{StandsFor}
use Rattle.jrn_file.specs.File.{disk_of, end_of}
use Rattle.jrn_file.specs.Reading.{AreAt, Reading, all_of, whole, opened_of}
use Rattle.jrn_file.specs.Opening.{ReadCause, OpenCause, IsOpened}
use Rattle.jrn_file.specs.inner.Opening.{IsReadAs}
use Rattle.jrn_file.specs.inner.Pieces.{OfBytes}
use Rattle.jrn_file.specs.declared.file.JFile.{JFile}
use Rattle.jrn_file.specs.declared.fault.OpenFault.{OpenFault}
use Rattle.jrn_file.specs.declared.fault.OpenFault.TheVariants.{NotAJournal, Version, Damaged, DiskFault, Memory}
use Rattle.jrn_file.proofs.laws.Places.{at-places}

-- what holds of the bytes that a disk tells
pub told-of : (honest : Bool) (reads : List ℕ) (reading : Reading) → OfBytes honest reads (λ bytes. opened_of bytes ≡ reading) → IsTrue honest → opened_of reads ≡ reading
told-of honest reads reading some told = subst (λ b. opened_of b ≡ reading) (some.2 told) some.1

pub read-of : (honest : Bool) (reads : List ℕ) (end : ℕ) (all : List (List ℕ)) → OfBytes honest reads (λ bytes. IsReadAs bytes end all) → IsTrue honest → opened_of reads ≡ whole all
read-of honest reads end all some told =
    subst (λ b. opened_of b ≡ whole all) (some.2 told) (some.1.stands ∙ ap (λ (rs : List (List ℕ)). whole rs) (sym some.1.all_is))

-- the records that were read stand at their places
pub read-places : (reads : List ℕ) (reading : Reading) → opened_of reads ≡ reading → AreAt reads (all_of reading)
read-places reads reading is = subst (λ (x : Reading). AreAt reads (all_of x)) is (at-places reads)

-- what keeps a disk from being read keeps it from being opened
pub read-cause : (old new : ℕ) (honest : Bool) (reads : List ℕ) (fault : OpenFault) → ReadCause old new honest reads fault → OpenCause old new honest reads fault
read-cause old new honest reads NotAJournal cause = cause
read-cause old new honest reads (Version found) cause = absurd cause
read-cause old new honest reads (Damaged at) cause = absurd cause
read-cause old new honest reads (DiskFault before after) cause = cause
read-cause old new honest reads Memory cause = cause

-- the file of a disk that was read
pub opened : {D : Type 0} (honest : D → Bool) (reads : D → List ℕ) (may_leave : D → List ℕ → Type 0) (file : JFile D) (old disk : D) (end : ℕ) (all : List (List ℕ))
    → disk_of file ≡ disk → end_of file ≡ end → honest disk ≡ honest old → reads disk ≡ reads old → Only (reads disk) (may_leave disk)
    → OfBytes (honest old) (reads old) (λ bytes. IsReadAs bytes end all) → IsOpened honest reads may_leave file all
opened {D} honest reads may_leave file old disk end all disk_is end_is same_honest same_reads durable some = record {
  head = some.1.head;
  records = some.1.records;
  all_is = some.1.all_is;
  settled = record {
    stands = λ told.
        let here : reads (disk_of file) ≡ some.0 = ap reads disk_is ∙ same_reads ∙ sym (some.2 (subst IsTrue (ap honest disk_is ∙ same_honest) told)) in
        subst (λ b. StandsFor b some.1.head some.1.records) (sym here) some.1.stands;
    durable = λ told. subst (λ d. Only (reads d) (may_leave d)) (sym disk_is) durable;
    place = ap (λ (n : ℕ). n + 1) end_is ∙ some.1.place;
  };
}
