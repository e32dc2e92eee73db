-- What stands on the disk of a follower, and what a crash leaves of it.
use Rattle.std.proofs.Common.{◌≡◌, ◌∙◌, ℕ, Bool, false, refl, List, [], ◌∷◌, ◌++◌, sym, ap, subst, arith, inl, inr}
use Rattle.std.specs.Prelude.{IsTrue, Err}
use Rattle.corr_disk.specs.Disk.{LeavesOnly}
use Rattle.corr_disk.proofs.laws.Moments.{started, weaker}
use Rattle.day_model.specs.declared.entry.Entry.{Entry}
use Rattle.day_model.specs.Chart.{Chart}
use Rattle.jrn_file.specs.declared.file.JFile.{JFile}
use Rattle.jrn_file.specs.File.{IsSettled}
use Rattle.jrn_file.specs.Journal.{IsBeforeOrAfter, StandsFor, frame_of, record_in}
use Rattle.jrn_file.specs.Faults.{MakeCause}
use Rattle.jrn_file.specs.Making.{IsOther, IsUnmade, IsUnmadeOrMade}
use Rattle.jrn_file.specs.declared.fault.MakeFault.{MakeFault}
use Rattle.jrn_file.specs.declared.fault.MakeFault.TheVariants as making
use Rattle.jrn_file.proofs.laws.Frames.{record_in-frame}
use Rattle.jrn_codec.specs.Header.{head_bytes}
use Rattle.jrn_codec.specs.Items.{item_bytes}
use Rattle.jrn_book.specs.declared.version.Version.TheVariants.{Two}
use Rattle.jrn_book.specs.Journal.{IsJournal, item_records}
use Rattle.jrn_book.specs.Reading.{Read}
use Rattle.jrn_book.proofs.laws.Items.{head_with, item_records_with}
use Rattle.standby.specs.declared.place.Place.{Place}
use Rattle.standby.specs.declared.place.Place.TheVariants.{Bare, Journal}
use Rattle.standby.specs.Following.{IsKept, disk_in, held_in}
use Rattle.standby.specs.Held.{ComesNext, Held, IsOnDisk, MayComeNext, StandsForHeld, journal, nothing}
use Rattle.standby.specs.inner.Held.{IsBeforeOrWith}
use Rattle.standby.specs.declared.answer.TakeFault.{TakeFault}
use Rattle.standby.specs.declared.answer.TakeFault.TheVariants.{NotAPacket, NotNext, Full, DiskFault, Broken, Memory}
use Rattle.standby.specs.Taking.{broken_after, is_disk_fault}
use Rattle.standby.specs.inner.Taking.{fault_of}
use Rattle.standby.proofs.laws.Next.{no_items}

module _ {D : Type 0} (honest : D → Bool) (reads : D → List ℕ) (may_leave : D → List ℕ → Type 0) where
  -- what is held is on the disk
  pub kept-on_disk : (place : Place D) → IsKept honest reads may_leave place → IsOnDisk honest reads may_leave (disk_in place) (held_in place)
  kept-on_disk (Bare disk) kept = kept
  kept-on_disk (Journal past file) kept = record { stands = kept.1.stands; alone = kept.1.durable }

  -- after a header alone
  pub made-settled : (past : Read) (file : JFile D) (head : List ℕ) → ComesNext nothing head (journal past.accounts past.history)
      → IsSettled honest reads may_leave file head [] → IsSettled honest reads may_leave file (head_bytes past.accounts) (item_records past.accounts past.history)
  made-settled past file head next settled =
      let none : [] ≡ item_records past.accounts past.history = sym (no_items past.accounts past.history next.0 next.2) in
      let is : head ≡ head_bytes past.accounts = next.1 in
      subst (λ (x : List ℕ × List (List ℕ)). IsSettled honest reads may_leave file x.0 x.1) (λ i. (is i, none i)) settled

  -- after an item more
  pub entered-settled : (c d : Chart) (h k : List Entry) (r frame : List ℕ) (file : JFile D) → IsJournal c h → ComesNext (journal c h) r (journal d k) → frame ≡ frame_of r
      → IsSettled honest reads may_leave file (head_bytes c) (item_records c h ++ record_in frame ∷ [])
      → IsSettled honest reads may_leave file (head_bytes d) (item_records d k)
  entered-settled c d h k r frame file good next is settled =
      let heads : head_bytes c ≡ head_bytes d = sym (ap head_bytes next.3 ∙ head_with Two c h next.0) in
      let records : item_records d k ≡ item_records c h ++ item_bytes next.0 ∷ [] = (λ i. item_records (next.3 i) (next.4 i)) ∙ item_records_with c h next.0 good.legal in
      let last : record_in frame ≡ item_bytes next.0 = record_in-frame r frame is ∙ next.2 in
      let all : item_records c h ++ record_in frame ∷ [] ≡ item_records d k = ap (λ (x : List ℕ). item_records c h ++ x ∷ []) last ∙ sym records in
      subst (λ (x : List ℕ × List (List ℕ)). IsSettled honest reads may_leave file x.0 x.1) (λ i. (heads i, all i)) settled

-- what is unmade is nothing else
pub not-other : (bytes : List ℕ) (first : ℕ) → IsUnmade bytes → IsOther bytes first → ⊥
not-other bytes first (inl short) other = omega (arith, short, other.more)
not-other bytes first (inr closed) other =
    let same : first ∷ [] ≡ 0 ∷ [] = sym other.first_is ∙ closed in
    other.not_closed (cc same)

module _ {D : Type 0} (honest : D → Bool) (reads : D → List ℕ) (may_leave : D → List ℕ → Type 0) (disk new : D) (kept : IsOnDisk honest reads may_leave disk nothing)
    (same : honest new ≡ honest disk) where
  -- where a journal wasn't made, and the disk didn't fail
  pub unmade-kept : (fault : MakeFault) (old now : ℕ) → MakeCause old now (λ first. IsTrue (honest disk) → IsOther (reads disk) first) fault → (fault ≡ making.Memory → new ≡ disk)
      → is_disk_fault (fault_of fault) ≡ false → IsOnDisk honest reads may_leave new nothing
  unmade-kept (making.Exists first) old now cause memory whole = record {
    stands = λ told. absurd (never (subst IsTrue same told));
    alone = λ told. absurd (never (subst IsTrue same told));
  }
    where
      never : IsTrue (honest disk) → ⊥
      never told = not-other (reads disk) first (kept.stands told) (cause.1 told)
  unmade-kept (making.Full end need) old now cause memory whole = absurd cause
  unmade-kept (making.DiskFault before after) old now cause memory whole = absurd (cc whole)
  unmade-kept making.Memory old now cause memory whole = subst (λ (x : D). IsOnDisk honest reads may_leave x nothing) (sym (memory refl)) kept

  pub unmade-same : (fault : MakeFault) (old now : ℕ) → MakeCause old now (λ first. IsTrue (honest disk) → IsOther (reads disk) first) fault → (fault ≡ making.Memory → new ≡ disk)
      → is_disk_fault (fault_of fault) ≡ false → IsTrue (honest disk) → new ≡ disk
  unmade-same (making.Exists first) old now cause memory whole told = absurd (not-other (reads disk) first (kept.stands told) (cause.1 told))
  unmade-same (making.Full end need) old now cause memory whole told = absurd cause
  unmade-same (making.DiskFault before after) old now cause memory whole told = absurd (cc whole)
  unmade-same making.Memory old now cause memory whole told = memory refl

-- an answer after which the disk hasn't failed is no fault of it
pub no-fault : (fault : TakeFault) → broken_after {A = Unit {0}} false (Err fault) ≡ false → is_disk_fault fault ≡ false
no-fault NotAPacket whole = refl
no-fault (NotNext number) whole = refl
no-fault (Full end need) whole = refl
no-fault (DiskFault from to) whole = absurd (cc whole)
no-fault (Broken from now) whole = refl
no-fault Memory whole = refl

module _ {D : Type 0} (moment : D → ℕ) (left_since : D → ℕ → List ℕ → Type 0) where
  -- at each moment of making a journal
  pub moments-made : (old new : D) (head : List ℕ) → MayComeNext nothing head → LeavesOnly moment left_since old new (IsUnmadeOrMade head)
      → LeavesOnly moment left_since old new (IsBeforeOrWith nothing head)
  moments-made old new head may leaves =
      weaker moment left_since old new (IsUnmadeOrMade head) (IsBeforeOrWith nothing head)
      (λ c left. elim left [
        | inl none ↦ inl none
        | inr made ↦ inr (may, made)
      ]) leaves

  -- and of appending a record
  pub moments-entered : (old new : D) (c : Chart) (h : List Entry) (r frame : List ℕ) → MayComeNext (journal c h) r → frame ≡ frame_of r
      → LeavesOnly moment left_since old new (IsBeforeOrAfter (head_bytes c) (item_records c h) (record_in frame))
      → LeavesOnly moment left_since old new (IsBeforeOrWith (journal c h) r)
  moments-entered old new c h r frame may is leaves =
      weaker moment left_since old new (IsBeforeOrAfter (head_bytes c) (item_records c h) (record_in frame)) (IsBeforeOrWith (journal c h) r)
      (λ image left. elim left [
        | inl before ↦ inl before
        | inr after ↦ inr (may, subst (λ (x : List ℕ). StandsFor image (head_bytes c) (item_records c h ++ x ∷ [])) (record_in-frame r frame is) after)
      ]) leaves

module _ {D : Type 0} (honest : D → Bool) (reads : D → List ℕ) (may_leave : D → List ℕ → Type 0) (moment : D → ℕ) (left_since : D → ℕ → List ℕ → Type 0)
    (only_now : (disk : D) (c : List ℕ) → left_since disk (moment disk) c → may_leave disk c) where
  -- where the disk isn't called, a crash leaves what is held
  pub stays : (disk : D) (held : Held) (P : List ℕ → Type 0) → IsOnDisk honest reads may_leave disk held → ((c : List ℕ) → StandsForHeld held c → P c)
      → IsTrue (honest disk) → LeavesOnly moment left_since disk disk P
  stays disk held P on less told =
      started moment left_since disk P (λ c left. less c (subst (λ (x : List ℕ). StandsForHeld held x) (sym (on.alone told c (only_now disk c left))) (on.stands told)))
