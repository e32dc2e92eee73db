-- What the answer to a packet tells.
use Rattle.std.proofs.Common.{◌≡◌, ◌∙◌, ℕ, ◌+◌, ◌<◌, ◌≤◌, Bool, true, false, List, [], ◌∷◌, length, length-append, refl, sym, ap, subst, arith, inl, inr}
use Rattle.std.specs.Prelude.{Result, Ok, Err}
use Rattle.std.proofs.lemmas.Bool.{cases_lt}
use Rattle.corr_text.specs.Faults.{counted}
use Rattle.corr_disk.specs.Disk.{most_disk_bytes}
use Rattle.day_model.specs.declared.change.Item.{Item}
use Rattle.day_model.specs.declared.entry.Entry.{Entry}
use Rattle.day_model.specs.Chart.{Chart}
use Rattle.jrn_file.specs.Journal.{IsFrame, frame_of}
use Rattle.jrn_file.specs.Reading.{most_record_bytes, with_length}
use Rattle.jrn_file.proofs.laws.Frames.{record_in-frame}
use Rattle.jrn_file.proofs.laws.Sizes.{length-sized}
use Rattle.jrn_file.specs.Faults.{MakeCause, PassesLimit}
use Rattle.jrn_file.specs.declared.fault.MakeFault.{MakeFault}
use Rattle.jrn_file.specs.declared.fault.MakeFault.TheVariants as making
use Rattle.jrn_codec.specs.Header.{IsHead, head_bytes}
use Rattle.jrn_codec.specs.Items.{item_bytes}
use Rattle.jrn_book.specs.declared.version.Version.TheVariants.{Two}
use Rattle.jrn_book.specs.Journal.{file_of}
use Rattle.jrn_book.specs.Opening.{IsNextOf, IsNoNext}
use Rattle.jrn_book.specs.Reading.{GrowsBy, IsSameRead, Read, chart_with, entries_with}
use Rattle.standby.specs.declared.answer.Took.{Took}
use Rattle.standby.specs.declared.answer.Took.TheVariants.{Added, Skipped}
use Rattle.standby.specs.declared.answer.TakeFault.{TakeFault}
use Rattle.standby.specs.declared.answer.TakeFault.TheVariants.{NotAPacket, NotNext, Full, DiskFault, Broken, Memory}
use Rattle.standby.specs.Following.{Counts}
use Rattle.standby.specs.Held.{ComesNext, Held, IsHeld, MayComeNext, count_of, journal, nothing, records_of}
use Rattle.standby.specs.Packets.{IsPacket}
use Rattle.standby.specs.Taking.{AddShows, HasRoom, Ships, TakeShows, broken_after, leaves_all}
use Rattle.standby.specs.inner.Taking.{RefusesRecord, fault_of}
use Rattle.standby.proofs.laws.Next.{records_next}
use Rattle.standby.proofs.laws.Shipped.{taken_next, taken_other}

-- a frame has five bytes more than its record
pub frame-long : (r frame : List ℕ) → frame ≡ frame_of r → length frame ≡ length r + 5
frame-long r frame is = omega (arith, ap length is, length-append (with_length r) (0 ∷ []), length-sized r)

-- and is one, where its record is short enough
pub is-frame : (r frame : List ℕ) → frame ≡ frame_of r → length r ≤ most_record_bytes → IsFrame frame
is-frame r frame is few =
    let same = record_in-frame r frame is in
    record { is = is ∙ ap frame_of (sym same); fits = subst (λ (x : List ℕ). length x ≤ most_record_bytes) (sym same) few }

-- the item of a record that may stand next
pub may-come : (c : Chart) (h : List Entry) (item : Item) (r : List ℕ) → IsNextOf Two c h item → r ≡ item_bytes item → MayComeNext (journal c h) r
may-come c h item r next is = (journal (chart_with c h item) (entries_with h item), (item, next, is, refl, refl))

-- what is read with it
pub has-come : (old mid new : Read) (item : Item) (r : List ℕ) → IsSameRead old mid → IsNextOf Two old.accounts old.history item → r ≡ item_bytes item → GrowsBy mid item new
    → ComesNext (journal old.accounts old.history) r (journal new.accounts new.history)
has-come old mid new item r same next is grows =
    (item, next, is, grows.accounts ∙ (λ i. chart_with (same.accounts i) (same.history i) item), grows.history ∙ (λ i. entries_with (same.history i) item))

-- the same is held
pub same-held : (old new : Read) → IsSameRead old new → journal new.accounts new.history ≡ journal old.accounts old.history
same-held old new same = λ i. journal (same.accounts i) (same.history i)

-- a record that was refused before anything was written
pub refused-shows : (held after : Held) (number : ℕ) (r : List ℕ) (old new : ℕ) (fault : TakeFault) → RefusesRecord held number r fault → new ≡ old → after ≡ held
    → AddShows held number r old new after (Err fault)
refused-shows held after number r old new NotAPacket refused faults same = absurd refused
refused-shows held after number r old new (NotNext n) refused faults same = (refused.0, refused.1, faults, same)
refused-shows held after number r old new (Full end need) refused faults same = absurd refused
refused-shows held after number r old new (DiskFault from to) refused faults same = absurd refused
refused-shows held after number r old new (Broken from now) refused faults same = absurd refused
refused-shows held after number r old new Memory refused faults same = (faults, same)

-- a packet whose record was added
pub added-ships : (held next : Held) (packet r : List ℕ) (number : ℕ) → IsHeld held → IsPacket packet number r → number ≡ count_of held + 1 → ComesNext held r next → Ships held packet next
added-ships held next packet r number good is at comes = record {
  number = number;
  body = r;
  is = is;
  taken = records_next held next r good comes ∙ sym (taken_next (records_of held) (record { number = number; body = r }) at);
}

-- and one that was skipped
pub skipped-ships : (held : Held) (packet r : List ℕ) (number : ℕ) → IsPacket packet number r → (number ≡ count_of held + 1 → ⊥) → Ships held packet held
skipped-ships held packet r number is isnt = record {
  number = number;
  body = r;
  is = is;
  taken = sym (taken_other (records_of held) (record { number = number; body = r }) isnt);
}

-- bytes that are no header may not stand first
pub no-head-next : (head : List ℕ) (next : Held) → ((chart : Chart) → IsHead chart → head ≡ head_bytes chart → ⊥) → ComesNext nothing head next → ⊥
no-head-next head nothing none comes = comes
no-head-next head (journal c h) none comes = none c comes.0 comes.1

-- and those of no item that may stand next may not stand later
pub no-item-next : (c : Chart) (h : List Entry) (r : List ℕ) (next : Held) → IsNoNext Two c h r → ComesNext (journal c h) r next → ⊥
no-item-next c h r nothing none comes = comes
no-item-next c h r (journal d k) none comes = none comes.0 comes.1 comes.2

-- where a journal wasn't made
pub made-shows : (head : List ℕ) (old new : ℕ) (other : ℕ → Type 0) (fault : MakeFault) → MayComeNext nothing head → MakeCause old new other fault
    → AddShows nothing 1 head old new nothing (Err (fault_of fault))
made-shows head old new other (making.Exists first) may cause = (cause.0, refl)
made-shows head old new other (making.Full end need) may cause = absurd cause
made-shows head old new other (making.DiskFault before after) may cause = (may, tt, cause, refl)
made-shows head old new other making.Memory may cause = (cause, refl)

-- a header has room always, and so has a record that wasn't refused
pub has-room : (c : Chart) (h : List Entry) (r : List ℕ) (end need : ℕ) → end + 1 ≡ length (file_of c h) → need ≡ length r + 6 → end + need ≤ most_disk_bytes → HasRoom (journal c h) r
has-room c h r end need place is room = omega (arith, place, is, room)

-- so has one that the file has room for
pub room-unless : (c : Chart) (h : List Entry) (r : List ℕ) (end need : ℕ) → end + 1 ≡ length (file_of c h) → need ≡ length r + 6 → (most_disk_bytes < end + need → ⊥) → HasRoom (journal c h) r
room-unless c h r end need place is fits =
    elim (cases_lt most_disk_bytes (end + need)) [
      | inl lt ↦ absurd (fits lt)
      | inr ge ↦ has-room c h r end need place is ge
    ]

-- and one for which there is none is told as such
pub full-shows : (c : Chart) (h : List Entry) (number : ℕ) (r : List ℕ) (at more end need old new : ℕ) (after : Held) (untouched : Type 0) → MayComeNext (journal c h) r
    → at + 1 ≡ length (file_of c h) → more ≡ length r + 6 → PassesLimit at more end need untouched → new ≡ old → after ≡ journal c h
    → AddShows (journal c h) number r old new after (Err (Full end need))
full-shows c h number r at more end need old new after untouched may place is passes faults same =
    (may, (omega (arith, passes.end_is, place), omega (arith, passes.need_is, is), passes.past), faults, same)

-- by the answer to the record, the one to the packet where the disk didn't fail before
pub open-shows : (held : Held) (broken : Bool) (at_open old new : ℕ) (packet : List ℕ) (after : Held) (answer : Result Took TakeFault) → broken ≡ false
    → TakeShows held false 0 old new packet after answer → TakeShows held broken at_open old new packet after answer
open-shows held broken at_open old new packet after (Ok (Added have)) whole shows = (whole, shows.1, shows.2, shows.3, shows.4)
open-shows held broken at_open old new packet after (Ok (Skipped have)) whole shows = (whole, shows.1, shows.2, shows.3, shows.4, shows.5, shows.6, shows.7)
open-shows held broken at_open old new packet after (Err NotAPacket) whole shows = (whole, shows.1, shows.2, shows.3)
open-shows held broken at_open old new packet after (Err (NotNext number)) whole shows = (whole, shows.1, shows.2, shows.3, shows.4)
open-shows held broken at_open old new packet after (Err (Full end need)) whole shows = (whole, shows.1, shows.2, shows.3)
open-shows held broken at_open old new packet after (Err (DiskFault from to)) whole shows = (whole, shows.1, shows.2, shows.3)
open-shows held broken at_open old new packet after (Err (Broken from now)) whole shows = absurd (cc (shows.0))
open-shows held broken at_open old new packet after (Err Memory) whole shows = (whole, shows.1, shows.2)

-- the disk's count of faults after an answer, where it was that of the beginning before
pub counts-after : (held : Held) (at_open old new : ℕ) (packet : List ℕ) (after : Held) (answer : Result Took TakeFault) → old ≡ at_open
    → TakeShows held false 0 old new packet after answer → Counts (broken_after false answer) at_open new
counts-after held at_open old new packet after (Ok (Added have)) first shows = shows.4.2 ∙ first
counts-after held at_open old new packet after (Ok (Skipped have)) first shows = shows.6 ∙ first
counts-after held at_open old new packet after (Err NotAPacket) first shows = shows.2 ∙ first
counts-after held at_open old new packet after (Err (NotNext number)) first shows = shows.4.2 ∙ first
counts-after held at_open old new packet after (Err (Full end need)) first shows = shows.3.2 ∙ first
counts-after held at_open old new packet after (Err (DiskFault from to)) first shows =
    let told = shows.3.2 in
    sym told.after_is ∙ told.rose ∙ ap counted (told.before_is ∙ first)
counts-after held at_open old new packet after (Err (Broken from now)) first shows = absurd (cc (shows.0))
counts-after held at_open old new packet after (Err Memory) first shows = shows.1 ∙ first

-- what is held after an answer that leaves all as it was
pub same-after : (held : Held) (old new : ℕ) (packet : List ℕ) (after : Held) (answer : Result Took TakeFault) → leaves_all answer ≡ true
    → TakeShows held false 0 old new packet after answer → after ≡ held
same-after held old new packet after (Ok (Added have)) leaves shows = absurd (cc leaves)
same-after held old new packet after (Ok (Skipped have)) leaves shows = shows.7
same-after held old new packet after (Err NotAPacket) leaves shows = shows.3
same-after held old new packet after (Err (NotNext number)) leaves shows = shows.4.3
same-after held old new packet after (Err (Full end need)) leaves shows = shows.3.3
same-after held old new packet after (Err (DiskFault from to)) leaves shows = absurd (cc leaves)
same-after held old new packet after (Err (Broken from now)) leaves shows = absurd (cc (shows.0))
same-after held old new packet after (Err Memory) leaves shows = shows.2
