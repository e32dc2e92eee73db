-- A journal of version 1 as it is opened.
use Rattle.std.proofs.Common.{◌≡◌, List, refl, sym, ◌∙◌, subst}
use Rattle.std.specs.Prelude.{IfSome, IsTrue}
use Rattle.corr_disk.specs.declared.disk.Disk as disks
use Rattle.day_model.specs.declared.entry.Entry.{Entry}
use Rattle.day_model.specs.Chart.{Chart}
use Rattle.jrn_book.specs.declared.version.Version.TheVariants.{One}
use Rattle.jrn_book.specs.Opening.{BookOpenCause, Finding, IsFoundIn, found_by, book, faulty, no_book, other_version}
use Rattle.jrn_book.proofs.laws.Findings.{one_finding_in}
use Rattle.jrn_file.specs.Reading.{opened_of}
use Rattle.jrn_file.specs.declared.fault.OpenFault.{OpenFault}
use Rattle.jrn_file.specs.declared.fault.OpenFault.TheVariants as opening
use Rattle.corr_top.specs.declared.status.Status.TheVariants as status
use Rattle.corr_top.specs.Ready.{IsSure}
use Rattle.corr_top.specs.Copied.{HoldsOld, StopsOpeningOld}
use Rattle.corr_top.specs.Passing.{IsReady, Passes}
use Rattle.corr_top.specs.Steps.{Step}
use Rattle.corr_top.specs.Stops.{status_of_opening}
use Rattle.corr_top.proofs.FaultCounts.{tells_rose}
use Rattle.corr_top.proofs.steps.Laws.{IsStop, SameJournal, Setting, StepLaws}
use Rattle.corr_top.proofs.steps.OpenJournal.{opening_line}

old_memory : {D : Type 0} (d : disks.Ghosts D) (old new : D) (chart : Chart) (history : List Entry) (stop : OpenFault) → IsSure d old new → HoldsOld d old chart history → StopsOpeningOld d old new stop
    → status_of_opening stop ≡ status.Memory
old_memory {D} d old new chart history stop sure holds stops = by_fault stop stops.cause stops.told
  where
    other : (f : Finding) → IsFoundIn One (opened_of (d.reads old)) f → book chart history ≡ f
    other f found = one_finding_in One (opened_of (d.reads old)) (book chart history) f (holds.journal, holds.stands sure.told) found

    by_fault : (stop : OpenFault) → BookOpenCause (d.faults old) (d.faults new) stop → (IsTrue (d.honest old) → IfSome (found_by stop) (IsFoundIn One (opened_of (d.reads old)))) → status_of_opening stop ≡ status.Memory
    by_fault opening.NotAJournal cause told = let same = other no_book (told sure.told) in absurd (cc (same))
    by_fault (opening.Version found) cause told = let same = other (other_version found) (told sure.told) in absurd (cc (same))
    by_fault (opening.Damaged at) cause told = let same = other (faulty at) (told sure.told) in absurd (cc (same))
    by_fault (opening.DiskFault b a) cause told = absurd (sure.sound (tells_rose (d.faults old) b a (d.faults new) cause))
    by_fault opening.Memory cause told = refl

old_agrees : (x : Setting) → IsReady x.source x.disk x.old x.new x.told Step.old_journal → Passes x.source x.disk x.old x.new x.read Step.old_journal → SameJournal x.read x.told
old_agrees x ready passes =
    let same = one_finding_in One (opened_of (x.disk.reads x.old.disk)) (book x.read.chart x.read.history) (book x.told.chart x.told.history)
    (passes.journal, passes.stands ready.0.told) (ready.1.journal, ready.1.stands ready.0.told) in
    record { chart = cc (same); history = cc (same); by_now = ready.1.journal.legal.changes.by_now }

pub of_old_journal : StepLaws Step.old_journal
of_old_journal = record {
  agrees = old_agrees;
  memory = λ x s done after all ready stops. stops.1 ∙ old_memory x.disk x.old.disk x.new.disk x.told.chart x.told.history stops.0 ready.0 ready.1 stops.2;
  line = λ x s stops. subst IsStop (sym stops.1) (opening_line stops.0);
}
