-- What a change of the accounts of a journal tells, and what it leaves.
use Rattle.std.specs.Prelude.{◌≡◌, ℕ, ◌+◌, ◌-◌, ◌<◌, ◌≤◌, List, length, Option, Some, None, IfSome, Result, Ok, Err}
use Rattle.corr_disk.specs.Disk.{most_disk_bytes}
use Rattle.day_model.specs.declared.change.Refusal.{Refusal}
use Rattle.day_model.specs.declared.change.Refusal.TheVariants as refusal
use Rattle.day_model.specs.declared.change.What.{What}
use Rattle.day_model.specs.declared.entry.Entry.{Entry}
use Rattle.day_model.specs.Balance.{balance_of}
use Rattle.day_model.specs.Chart.{Chart, accounts_of}
use Rattle.day_model.specs.Legal.{balance_named}
use Rattle.day_model.specs.Refusals.{refusal_of}
use Rattle.jrn_file.specs.Faults.{TellsCounts}
use Rattle.jrn_file.specs.Reading.{Reading}
use Rattle.jrn_codec.specs.Change.{change_bytes}
use Rattle.jrn_book.specs.declared.changing.ChangeFault.{ChangeFault}
use Rattle.jrn_book.specs.declared.changing.ChangeFault.TheVariants.{Open, Unknown, Rows, Double, Currency, Limits, Full, DiskFault, Memory}
use Rattle.jrn_book.specs.Journal.{file_of}
use Rattle.jrn_book.specs.Opening.{BookOpenCause, Finding, IsFound, book, no_book, other_version, faulty, found_by}

-- why the accounts of a history refuse a change, none where it is legal
abbrev pub refused_now : Chart → List Entry → What → Option Refusal
refused_now chart history what = refusal_of (accounts_of chart) (balance_named (balance_of chart history) what) what

-- the bytes that a change's record adds to the file, and one for the gate after it
abbrev pub change_need : What → ℕ
change_need what = length (change_bytes what) + 6

-- The answer to a change of these accounts and this history, whose closed gate stands at `end`, with the disk's count of faults before
-- and after: the first refusal, also where memory is out; no room in the file, a fault of the disk, want of memory, or the change is made.
abbrev pub ChangeShows : Chart → List Entry → What → ℕ → ℕ → ℕ → Option ChangeFault → Type 0
ChangeShows chart history what end old new None =
    (refused_now chart history what ≡ None) × (end + change_need what ≤ most_disk_bytes) × (new ≡ old)
ChangeShows chart history what end old new (Some (Open fault)) = ⊥
ChangeShows chart history what end old new (Some Unknown) = (refused_now chart history what ≡ Some refusal.Unknown) × (new ≡ old)
ChangeShows chart history what end old new (Some Rows) = (refused_now chart history what ≡ Some refusal.Rows) × (new ≡ old)
ChangeShows chart history what end old new (Some (Double row)) = (refused_now chart history what ≡ Some (refusal.Double row)) × (new ≡ old)
ChangeShows chart history what end old new (Some Currency) = (refused_now chart history what ≡ Some refusal.Currency) × (new ≡ old)
ChangeShows chart history what end old new (Some (Limits account)) =
    (refused_now chart history what ≡ Some (refusal.Limits account)) × (new ≡ old)
ChangeShows chart history what end old new (Some (Full at need)) =
    (refused_now chart history what ≡ None) × (at ≡ end) × (need ≡ change_need what) × (most_disk_bytes < at + need) × (new ≡ old)
ChangeShows chart history what end old new (Some (DiskFault before after)) =
    (refused_now chart history what ≡ None) × (end + change_need what ≤ most_disk_bytes) × TellsCounts old before after new
ChangeShows chart history what end old new (Some Memory) = (refused_now chart history what ≡ None) × (new ≡ old)

-- the fault that a refusal is
abbrev pub fault_of : Refusal → ChangeFault
fault_of refusal.Unknown = Unknown
fault_of refusal.Rows = Rows
fault_of (refusal.Double row) = Double row
fault_of refusal.Currency = Currency
fault_of (refusal.Limits account) = Limits account

-- the disk is the same, but after a fault of it
abbrev pub LeavesDisk : ChangeFault → Type 0 → Type 0
LeavesDisk (Open fault) same = same
LeavesDisk Unknown same = same
LeavesDisk Rows same = same
LeavesDisk (Double row) same = same
LeavesDisk Currency same = same
LeavesDisk (Limits account) same = same
LeavesDisk (Full end need) same = same
LeavesDisk (DiskFault before after) same = Unit {0}
LeavesDisk Memory same = same

-- the disk after a change
abbrev pub disk_left : {D : Type 0} → Result D (D × ChangeFault) → D
disk_left (Ok disk) = disk
disk_left (Err refused) = refused.0

-- the fault that a change answers, if any
abbrev pub fault_in : {D : Type 0} → Result D (D × ChangeFault) → Option ChangeFault
fault_in (Ok disk) = None
fault_in (Err refused) = Some refused.1

-- the answer to a change of a book's accounts and history, whose closed gate is its file's last byte
abbrev pub IsChangeOf : Finding → What → ℕ → ℕ → Option ChangeFault → Type 0
IsChangeOf (book chart history) what old new answer = ChangeShows chart history what (length (file_of chart history) - 1) old new answer
IsChangeOf no_book what old new answer = ⊥
IsChangeOf (other_version found) what old new answer = ⊥
IsChangeOf (faulty at) what old new answer = ⊥

-- What a change of the journal of a disk answers, where its bytes are this: the refusal that opening gives, or that opening failed by the
-- disk or for memory; and of a book else what its accounts and its history tell.
abbrev pub ChangeAnswers : Finding → What → ℕ → ℕ → Option ChangeFault → Type 0
ChangeAnswers finding what old new None = IsChangeOf finding what old new None
ChangeAnswers finding what old new (Some (Open fault)) = IfSome (found_by fault) (λ found. found ≡ finding) × BookOpenCause old new fault
ChangeAnswers finding what old new (Some fault) = IsChangeOf finding what old new (Some fault)

-- the bytes are the journal of a book
abbrev pub IsOfBook : Reading → Type 0
IsOfBook reading = (chart : Chart) × (history : List Entry) × IsFound reading (book chart history)

-- what each answer says that the bytes are: a refusal of the opening what it is of, and all others the journal of a book
abbrev pub ChangeTells : Reading → Option ChangeFault → Type 0
ChangeTells reading None = IsOfBook reading
ChangeTells reading (Some (Open fault)) = IfSome (found_by fault) (IsFound reading)
ChangeTells reading (Some fault) = IsOfBook reading

-- the calls of the disk that a change makes at most after the opening: where it is made and where the disk fails, else none
abbrev pub calls_to_change : Option ChangeFault → ℕ
calls_to_change None = 4
calls_to_change (Some (DiskFault before after)) = 4
calls_to_change (Some fault) = 0
