-- The journal as it is opened.
use Rattle.std.proofs.Common.{◌≡◌, List, refl, sym, ◌∙◌, subst}
use Rattle.corr_disk.specs.declared.disk.Disk as disks
use Rattle.day_model.specs.declared.entry.Entry.{Entry}
use Rattle.day_model.specs.Chart.{Chart}
use Rattle.jrn_book.specs.Opening.{Finding, IsFound, book, faulty, no_book, other_version}
use Rattle.jrn_book.proofs.laws.Findings.{one_finding}
use Rattle.jrn_file.specs.Reading.{Reading, opened_of}
use Rattle.jrn_file.specs.declared.fault.OpenFault.{OpenFault}
use Rattle.jrn_file.specs.declared.fault.OpenFault.TheVariants as opening
use Rattle.corr_top.specs.declared.status.Status.TheVariants as status
use Rattle.corr_top.specs.Ready.{IsSure}
use Rattle.corr_top.specs.OnDisk.{HoldsJournal, StopsOpening}
use Rattle.corr_top.specs.Passing.{IsReady, Passes}
use Rattle.corr_top.specs.Steps.{Step}
use Rattle.corr_top.specs.Stops.{status_of_opening}
use Rattle.corr_top.proofs.FaultCounts.{tells_rose}
use Rattle.corr_top.proofs.steps.Laws.{IsStop, SameJournal, Setting, StepLaws}

-- a journal is no damage, and not nothing
other_finding : (reading : Reading) (chart : Chart) (history : List Entry) (f : Finding) → IsFound reading (book chart history) → IsFound reading f → (book chart history ≡ f → ⊥) → ⊥
other_finding reading chart history f is also differs = differs (one_finding reading (book chart history) f is also)

pub opening_memory : {D : Type 0} (d : disks.Ghosts D) (old new : D) (chart : Chart) (history : List Entry) (stop : OpenFault) → IsSure d old new → HoldsJournal d old chart history → StopsOpening d old new stop
    → status_of_opening stop ≡ status.Memory
opening_memory d old new chart history opening.NotAJournal sure holds stops =
    absurd (other_finding (opened_of (d.reads old)) chart history no_book (holds.journal, holds.stands sure.told) (stops.told sure.told) (λ same. cc))
opening_memory d old new chart history (opening.Version found) sure holds stops =
    absurd (other_finding (opened_of (d.reads old)) chart history (other_version found) (holds.journal, holds.stands sure.told) (stops.told sure.told) (λ same. cc))
opening_memory d old new chart history (opening.Damaged at) sure holds stops =
    absurd (other_finding (opened_of (d.reads old)) chart history (faulty at) (holds.journal, holds.stands sure.told) (stops.told sure.told) (λ same. cc))
opening_memory d old new chart history (opening.DiskFault b a) sure holds stops = absurd (sure.sound (tells_rose (d.faults old) b a (d.faults new) stops.cause))
opening_memory d old new chart history opening.Memory sure holds stops = refl

pub opening_line : (stop : OpenFault) → IsStop (status_of_opening stop)
opening_line opening.NotAJournal = record { line = tt; silent = refl }
opening_line (opening.Version found) = record { line = tt; silent = refl }
opening_line (opening.Damaged at) = record { line = tt; silent = refl }
opening_line (opening.DiskFault before after) = record { line = tt; silent = refl }
opening_line opening.Memory = record { line = tt; silent = refl }

journal_agrees : (x : Setting) → IsReady x.source x.disk x.old x.new x.told Step.open_journal → Passes x.source x.disk x.old x.new x.read Step.open_journal → SameJournal x.read x.told
journal_agrees x ready passes =
    let same = one_finding (opened_of (x.disk.reads x.old.disk)) (book x.read.chart x.read.history) (book x.told.chart x.told.history)
    (passes.journal, passes.stands ready.0.told) (ready.1.journal, ready.1.stands ready.0.told) in
    record { chart = cc (same); history = cc (same); by_now = ready.1.journal.legal.changes.by_now }

pub of_open_journal : StepLaws Step.open_journal
of_open_journal = record {
  agrees = journal_agrees;
  memory = λ x s done after all ready stops. stops.1 ∙ opening_memory x.disk x.old.disk x.new.disk x.told.chart x.told.history stops.0 ready.0 ready.1 stops.2;
  line = λ x s stops. subst IsStop (sym stops.1) (opening_line stops.0);
}
