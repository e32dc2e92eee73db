-- How a command ends, from what its texts are and how they were written.
use Rattle.std.proofs.Common.{◌≡◌, inl, inr, ℕ, List, [], ◌∷◌, Ok, Err, sym, subst}
use Rattle.corr_disk.specs.declared.disk.Disk as disks
use Rattle.corr_io.specs.declared.sink.Sink as sinks
use Rattle.corr_io.specs.declared.source.Source as sources
use Rattle.corr_top.specs.declared.room.Room.{Room}
use Rattle.corr_top.specs.declared.status.Status.{Status}
use Rattle.corr_top.specs.declared.writing.Texts.{Texts}
use Rattle.corr_top.specs.Ends.{Ends}
use Rattle.corr_top.specs.inner.Ends.{HasTexts}
use Rattle.corr_top.specs.Inputs.{Inputs}
use Rattle.corr_top.specs.Meaning.{KeepsRest, Meaning}
use Rattle.corr_top.specs.Passing.{Passes}
use Rattle.corr_top.specs.Status.{HasLine}
use Rattle.corr_top.specs.Steps.{Step, Walks}
use Rattle.corr_top.specs.Writing.{FailsWriting, Received}
use Rattle.corr_top.specs.inner.Writing.{IsWritten}
use Rattle.corr_top.proofs.Stopping.{stopped}

-- ---- a line can tell each status

pub ends_line : {S K D : Type 0} (source : sources.Ghosts S) (disk : disks.Ghosts D) (m : Meaning) (old new : Room S K D) (sink : sinks.Ghosts K) (s : Status) → Ends source disk m old new sink s → HasLine s
ends_line source disk m old new sink s e = elim e.ends [
  | inl done ↦ subst HasLine (sym done.status_is) tt
  | inr rest ↦ elim rest [
    | inl writing ↦ subst HasLine (sym writing.status_is) tt
    | inr ends ↦ (stopped source disk old new e.inputs s m ends.stopped).line
  ]
]

-- ---- the texts were written, or there were none

module _ {S K D : Type 0} (source : sources.Ghosts S) (disk : disks.Ghosts D) (sink : sinks.Ghosts K) (m : Meaning) (old room : Room S K D) where
  -- a sink received a text, from what it was before the command
  as_before : (before from to : K) (text meant : List ℕ) → from ≡ before → text ≡ meant → Received sink.held sink.faults from to text → Received sink.held sink.faults before to meant
  as_before before from to text meant same is got =
      subst (λ (k : K). Received sink.held sink.faults k to meant) same (subst (λ (t : List ℕ). Received sink.held sink.faults from to t) is got)

  fails_before : (from to sink_from sink_to : K) (report sent meant leaving : List ℕ) (then now : ℕ) → room.report ≡ from → room.out ≡ sink_from → report ≡ meant → sent ≡ leaving
      → FailsWriting sink.held sink.faults room.report to report room.out sink_to sent then now → FailsWriting sink.held sink.faults from to meant sink_from sink_to leaving then now
  fails_before from to sink_from sink_to report sent meant leaving then now same also is are fails =
      subst (λ (k : K). FailsWriting sink.held sink.faults k to meant sink_from sink_to leaving then now) same
      (subst (λ (k : K). FailsWriting sink.held sink.faults room.report to meant k sink_to leaving then now) also
      (subst (λ (t : List ℕ). FailsWriting sink.held sink.faults room.report to t room.out sink_to leaving then now) is
      (subst (λ (t : List ℕ). FailsWriting sink.held sink.faults room.report to report room.out sink_to t then now) are fails)))

  -- the sinks are none of what a command keeps
  rest_again : (report out : K) → KeepsRest m.steps old room → KeepsRest m.steps old (record room { report = report; out = out })
  rest_again report out rest = record { tables = rest.tables; messages = rest.messages; received = rest.received; sent = rest.sent; disk2 = rest.disk2 }

  -- nor of what a step reads
  passes_again : (report out : K) (i : Inputs) (step : Step) → Passes source disk old room i step → Passes source disk old (record room { report = report; out = out }) i step
  passes_again report out i (Step.table name) passes = passes
  passes_again report out i _ passes = passes

  all_again : (report out : K) (i : Inputs) (steps : List Step) → Walks (Passes source disk old room i) steps → Walks (Passes source disk old (record room { report = report; out = out }) i) steps
  all_again report out i [] all = tt
  all_again report out i (step ∷ steps) all = (passes_again report out i step all.0, all_again report out i steps all.1)

  pub ends_ok : (report out : K) (texts : Texts) (s : Status) → HasTexts source disk m old room (Ok texts) → IsWritten sink room.report report texts.report room.out out texts.out s
      → Ends source disk m old (record room { report = report; out = out }) sink s
  ends_ok report out texts s has (inl done) =
      let p = has.gives.0 in
      record {
        inputs = has.inputs;
        are_for = has.are_for;
        ends = inl (record {
          status_is = done.0;
          passed = record { passed = all_again report out has.inputs m.steps p.passed; leaves = p.leaves };
          valid = has.gives.3;
          report = as_before old.report room.report report texts.report (m.report has.inputs) has.report has.gives.1 done.1;
          out = as_before old.out room.out out texts.out (m.out has.inputs) has.out has.gives.2 done.2;
        });
        rest = rest_again report out has.rest;
      }
  ends_ok report out texts s has (inr failed) =
      let p = has.gives.0 in
      record {
        inputs = has.inputs;
        are_for = has.are_for;
        ends = inr (inl (record {
          then = failed.0;
          now = failed.1;
          status_is = failed.2;
          passed = record { passed = all_again report out has.inputs m.steps p.passed; leaves = p.leaves };
          valid = has.gives.3;
          failed = fails_before old.report report old.out out texts.report texts.out (m.report has.inputs) (m.out has.inputs) failed.0 failed.1 has.report has.out has.gives.1 has.gives.2 failed.3;
        }));
        rest = rest_again report out has.rest;
      }

  pub ends_err : (s : Status) → HasTexts source disk m old room (Err s) → Ends source disk m old room sink s
  ends_err s has = record { inputs = has.inputs; are_for = has.are_for; ends = inr (inr (record { stopped = has.gives; report = has.report; out = has.out })); rest = has.rest }
