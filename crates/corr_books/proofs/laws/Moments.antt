-- What a crash since the opening may leave, over the calls that follow one another.
use Rattle.std.proofs.Common.{◌≡◌, ◌⊎◌, ⊎_elim, inl, inr, ℕ, List, arith, subst, sym}
use Rattle.corr_disk.specs.declared.disk.Disk as disks
use Rattle.corr_disk.specs.Disk.{LeavesOnly, Only}
use Rattle.day_model.specs.declared.entry.Entry.{Entry}
use Rattle.day_model.specs.Chart.{Chart}
use Rattle.jrn_file.specs.File.{disk_of}
use Rattle.jrn_book.specs.Journal.{StandsForBook}
use Rattle.corr_books.specs.Moments.{LeavesSince, StandsBetween}
use Rattle.corr_books.specs.Opening.{Opening, Parts, opening_with, past_of}
use Rattle.front_word.proofs.laws.Prefixes.{prefix_self}

-- the bytes of a history stand between it and itself
pub stands_here : (chart : Chart) (history : List Entry) (image : List ℕ) → StandsForBook image chart history → StandsBetween chart history history image
stands_here chart history image stands = record { history = history; goes_on = prefix_self history; begins = prefix_self history; stands = stands }

module _ {D : Type 0} (disk : disks.Ghosts D) (o : Opening) (past : ℕ → List ℕ → Type 0) where
  -- At the opening, where what a read gives is the only image: a crash since then leaves this.
  pub leaves_first : (d : D) (P : List ℕ → Type 0) → o.since ≡ disk.moment d → ((t : ℕ) (image : List ℕ) → disk.left_since d t image → past t image)
      → ((image : List ℕ) → disk.left_since d (disk.moment d) image → disk.may_leave d image) → Only (disk.reads d) (disk.may_leave d) → P (disk.reads d) → LeavesSince disk o past d P
  leaves_first d P now told no_other only here = record {
    later = omega (arith, now);
    each = λ image left. subst P (sym (only image (no_other image (subst (λ (t : ℕ). disk.left_since d t image) now left)))) here;
    before = λ t image earlier left. inl (told t image left);
  }

  -- a call leaves what it says, and what was left before stays so
  pub leaves_next : (old new : D) (P Q R : List ℕ → Type 0) → LeavesSince disk o past old P → LeavesOnly disk.moment disk.left_since old new Q
      → ((image : List ℕ) → P image → R image) → ((image : List ℕ) → Q image → R image) → LeavesSince disk o past new R
  leaves_next old new P Q R since only from_old from_new = record {
    later = let a = since.later in let b = only.later in omega arith;
    each = λ image left. ⊎_elim
        (λ (x : disk.left_since old o.since image). from_old image (since.each image x))
        (λ (q : Q image). from_new image q)
        (only.before o.since image since.later left);
    before = λ t image earlier left. ⊎_elim
        (λ (x : disk.left_since old t image). ⊎_elim
        (λ (y : past t image). inl y)
        (λ (p : P image). inr (from_old image p))
        (since.before t image earlier x))
        (λ (q : Q image). inr (from_new image q))
        (only.before t image (let a = since.later in omega arith) left);
  }

  -- what has P has R
  pub leaves_as : (d : D) (P R : List ℕ → Type 0) → LeavesSince disk o past d P → ((image : List ℕ) → P image → R image) → LeavesSince disk o past d R
  leaves_as d P R since weaker = record {
    later = since.later;
    each = λ image left. weaker image (since.each image left);
    before = λ t image earlier left. ⊎_elim
        (λ (y : past t image). inl y)
        (λ (p : P image). inr (weaker image p))
        (since.before t image earlier left);
  }

-- Of books whose name names their opening and all that the disk might have left until then: so it was since the disk was opened, for
-- a run that began earlier too.
pub leaves_only : {D : Type 0} (disk : disks.Ghosts D) (parts : Parts D) (made most : ℕ) (new : D) (P : List ℕ → Type 0)
    → LeavesSince disk (opening_with disk parts made most) (past_of disk parts) new P → LeavesOnly disk.moment disk.left_since (disk_of parts.file) new P
leaves_only disk parts made most new P since = record { later = since.later; each = since.each; before = since.before }
