-- A journal with a change more.
use Rattle.std.proofs.Common.{◌≡◌, ℕ, ◌+◌, ◌<◌, ◌≤◌, Bool, List, [], ◌∷◌, ◌++◌, length, length-append, sym, ap, ◌∙◌, subst, arith, inl}
use Rattle.std.specs.Prelude.{◌⊎◌, IfErr, IfOk, IsTrue, Option, None, Some, Result, Ok, Err}
use Rattle.corr_disk.specs.Calls.{AtMostCalls}
use Rattle.corr_disk.specs.Disk.{LeavesOnly, Only}
use Rattle.corr_disk.proofs.laws.Counted.{no_calls}
use Rattle.corr_disk.proofs.laws.Moments.{weaker}
use Rattle.day_model.specs.declared.change.Item.TheVariants.{Changed}
use Rattle.day_model.specs.declared.change.What.{What}
use Rattle.day_model.specs.declared.entry.Entry.{Entry}
use Rattle.day_model.specs.Balance.{balance_of}
use Rattle.day_model.specs.Changes.{most_changes}
use Rattle.day_model.specs.Chart.{Chart, accounts_of, with_change}
use Rattle.day_model.specs.Legal.{IsLegal, balance_named}
use Rattle.day_model.proofs.laws.Refusing.{legal_or_refused}
use Rattle.jrn_file.specs.File.{IsSettled, disk_of}
use Rattle.jrn_file.specs.Journal.{IsBeforeOrAfter, StandsFor, frame_of, journal_bytes, record_in}
use Rattle.jrn_file.specs.Reading.{Reading, size_of, with_length}
use Rattle.jrn_file.specs.declared.file.JFile.{JFile}
use Rattle.jrn_file.proofs.laws.Frames.{record_in-frame}
use Rattle.jrn_file.proofs.laws.Sizes.{length-journal_bytes, length-sized}
use Rattle.jrn_codec.specs.Change.{IsWhat, change_bytes}
use Rattle.jrn_codec.specs.Header.{head_bytes}
use Rattle.jrn_book.specs.declared.version.Version.TheVariants.{Two}
use Rattle.jrn_book.specs.declared.changing.ChangeFault.{ChangeFault}
use Rattle.jrn_book.specs.declared.changing.ChangeFault.TheVariants.{Open, Unknown, Rows, Double, Currency, Limits, Full, DiskFault, Memory}
use Rattle.jrn_book.specs.Changing.{ChangeShows, ChangeTells, LeavesDisk, calls_to_change, change_need, disk_left, fault_in, refused_now}
use Rattle.jrn_book.specs.Journal.{IsBeforeOrChanged, IsJournal, StandsForBook, item_records}
use Rattle.jrn_book.specs.Opening.{IsFound, book}
use Rattle.jrn_book.proofs.Items.{change_is_legal, journal_with}
use Rattle.jrn_book.proofs.laws.Items.{records_changed, records_count}
use Rattle.jrn_book.proofs.Refused.{written_in_form}

-- ---- how many changes a file has

many_bytes : (records : List (List ℕ)) → length records ≤ size_of records
many_bytes [] = omega arith
many_bytes (r ∷ records) = let rest = many_bytes records in omega (arith, rest)

-- fewer than 2^30 changes fit a file that may be appended to
pub few_changes : (chart : Chart) (history : List Entry) (end : ℕ) → IsLegal chart history → end + 1 ≡ length (journal_bytes (head_bytes chart) (item_records chart history))
    → end < most_changes → length chart.changes < most_changes
few_changes chart history end legal place lt =
    let count = records_count chart history legal in
    let size = length-journal_bytes (head_bytes chart) (item_records chart history) in
    let many = many_bytes (item_records chart history) in
    omega (arith, place, lt, count, size, many)

-- ---- the change

-- with a change that is not refused it is a journal still
pub journal_changed : (chart : Chart) (history : List Entry) (what : What) → IsJournal chart history → IsWhat what → refused_now chart history what ≡ None
    → length chart.changes < most_changes → IsJournal (with_change chart (length history) what) history
journal_changed chart history what journal written none few =
    let legal = (legal_or_refused (accounts_of chart) (balance_named (balance_of chart history) what) what journal.book.rows.apart (written_in_form what written)).0 none in
    journal_with Two chart history (Changed what) journal (written, change_is_legal chart history what journal.legal (record { few = few; legal = legal }))

-- the bytes that its frame adds
pub frame_need : (frame : List ℕ) (what : What) → frame ≡ frame_of (change_bytes what) → length frame + 1 ≡ change_need what
frame_need frame what is =
    let sized = length-sized (change_bytes what) in
    let whole : length frame ≡ length (with_length (change_bytes what)) + 1 = ap length is ∙ length-append (with_length (change_bytes what)) (0 ∷ []) in
    omega (arith, sized, whole)

pub record_changed : (chart : Chart) (history : List Entry) (what : What) (frame : List ℕ) → frame ≡ frame_of (change_bytes what)
    → item_records chart history ++ record_in frame ∷ [] ≡ item_records (with_change chart (length history) what) history
record_changed chart history what frame is =
    ap (λ (r : List ℕ). item_records chart history ++ r ∷ []) (record_in-frame (change_bytes what) frame is) ∙ sym (records_changed chart history what)

-- ---- what stands on the disk

module _ {D : Type 0} (honest : D → Bool) (reads : D → List ℕ) (may_leave : D → List ℕ → Type 0) (moment : D → ℕ) (left_since : D → ℕ → List ℕ → Type 0) where
  -- after an append of the change's frame
  pub stands_changed : (chart : Chart) (history : List Entry) (what : What) (frame : List ℕ) (file : JFile D) → frame ≡ frame_of (change_bytes what)
      → IsSettled honest reads may_leave file (head_bytes chart) (item_records chart history ++ record_in frame ∷ []) → IsTrue (honest (disk_of file))
      → StandsForBook (reads (disk_of file)) (with_change chart (length history) what) history × Only (reads (disk_of file)) (may_leave (disk_of file))
  stands_changed chart history what frame file is settled told =
      (subst (λ (rs : List (List ℕ)). StandsFor (reads (disk_of file)) (head_bytes chart) rs) (record_changed chart history what frame is) (settled.stands told), settled.durable told)

  -- at each moment of it
  pub moments_changed : (chart : Chart) (history : List Entry) (what : What) (frame : List ℕ) (old new : D) → frame ≡ frame_of (change_bytes what)
      → LeavesOnly moment left_since old new (IsBeforeOrAfter (head_bytes chart) (item_records chart history) (record_in frame))
      → LeavesOnly moment left_since old new (IsBeforeOrChanged chart history what)
  moments_changed chart history what frame old new is leaves =
      subst (λ (rs : List (List ℕ)). LeavesOnly moment left_since old new (λ image. StandsFor image (head_bytes chart) (item_records chart history) ⊎ StandsFor image (head_bytes chart) rs))
      (record_changed chart history what frame is) leaves

  -- whatever was left before stands for the journal, and so does what is left while nothing is written
  pub still_leaves : (chart : Chart) (history : List Entry) (what : What) (old new : D) → ((image : List ℕ) → may_leave old image → StandsForBook image chart history)
      → LeavesOnly moment left_since old new (may_leave old) → LeavesOnly moment left_since old new (IsBeforeOrChanged chart history what)
  still_leaves chart history what old new stands leaves =
      weaker moment left_since old new (may_leave old) (IsBeforeOrChanged chart history what) (λ c left. inl (stands c left)) leaves

-- ---- a change of what was opened

-- a book is of one chart and one history
pub same_book : (a b : Chart) (h i : List Entry) → book a h ≡ book b i → (a ≡ b) × (h ≡ i)
same_book a b h i same =
    let charts : a ≡ b = cc (same) in
    let histories : h ≡ i = cc (same) in
    (charts, histories)

-- what holds at Ok, and what then holds of an honest disk
pub both_ok : {D : Type 0} (r : Result D (D × ChangeFault)) (J : Type 0) (S O : D → Type 0) (honest : D → Bool) → IfOk r (λ d. J)
    → IfOk r (λ d. IsTrue (honest d) → S d × O d) → IsTrue (honest (disk_left r)) → IfOk r (λ d. J × S d × O d)
both_ok (Ok d) J S O honest j s told = (j, (s told).0, (s told).1)
both_ok (Err e) J S O honest j s told = tt

-- what a change of a book's journal answers tells that there is one
pub tells_book : (reading : Reading) (chart : Chart) (history : List Entry) (what : What) (end old new : ℕ) (answer : Option ChangeFault) → IsFound reading (book chart history)
    → ChangeShows chart history what end old new answer → ChangeTells reading answer
tells_book reading chart history what end old new None found shows = (chart, history, found)
tells_book reading chart history what end old new (Some (Open fault)) found shows = absurd shows
tells_book reading chart history what end old new (Some Unknown) found shows = (chart, history, found)
tells_book reading chart history what end old new (Some Rows) found shows = (chart, history, found)
tells_book reading chart history what end old new (Some (Double row)) found shows = (chart, history, found)
tells_book reading chart history what end old new (Some Currency) found shows = (chart, history, found)
tells_book reading chart history what end old new (Some (Limits account)) found shows = (chart, history, found)
tells_book reading chart history what end old new (Some (Full at need)) found shows = (chart, history, found)
tells_book reading chart history what end old new (Some (DiskFault before after)) found shows = (chart, history, found)
tells_book reading chart history what end old new (Some Memory) found shows = (chart, history, found)

-- ---- how many calls it makes

-- a disk that is the same was not called
same_disk : {D : Type 0} (plan : D → ℕ → Option Bool) (old new : D) → new ≡ old → AtMostCalls 0 (plan old) (plan new)
same_disk plan old new same = subst (λ x. AtMostCalls 0 (plan old) (plan x)) (sym same) (0, omega arith, no_calls (plan old))

calls_by_fault : {D : Type 0} (plan : D → ℕ → Option Bool) (old new : D) (fault : ChangeFault) → AtMostCalls 4 (plan old) (plan new) → LeavesDisk fault (new ≡ old)
    → AtMostCalls (calls_to_change (Some fault)) (plan old) (plan new)
calls_by_fault plan old new (Open fault) most same = same_disk plan old new same
calls_by_fault plan old new Unknown most same = same_disk plan old new same
calls_by_fault plan old new Rows most same = same_disk plan old new same
calls_by_fault plan old new (Double row) most same = same_disk plan old new same
calls_by_fault plan old new Currency most same = same_disk plan old new same
calls_by_fault plan old new (Limits account) most same = same_disk plan old new same
calls_by_fault plan old new (Full end need) most same = same_disk plan old new same
calls_by_fault plan old new (DiskFault before after) most same = most
calls_by_fault plan old new Memory most same = same_disk plan old new same

-- a change calls the disk where it is made and where the disk fails
pub calls_by_answer : {D : Type 0} (plan : D → ℕ → Option Bool) (old : D) (r : Result D (D × ChangeFault)) → AtMostCalls 4 (plan old) (plan (disk_left r))
    → IfErr r (λ e. LeavesDisk e.1 (e.0 ≡ old)) → AtMostCalls (calls_to_change (fault_in r)) (plan old) (plan (disk_left r))
calls_by_answer plan old (Ok new) most same = most
calls_by_answer plan old (Err e) most same = calls_by_fault plan old e.0 e.1 most same
