-- The message file, served while it is read.
use Rattle.std.proofs.Common.{◌≡◌, ℕ, inl, inr, List, length, sym, ap, ◌∙◌, subst}
use Rattle.corr_disk.specs.declared.disk.Disk as disks
use Rattle.day_model.specs.declared.entry.Entry.{Entry}
use Rattle.day_model.specs.declared.pay.Pay.{Pay}
use Rattle.day_model.specs.Chart.{AreBy, Chart}
use Rattle.ref_tables.specs.declared.fault.TableName.TheVariants as names
use Rattle.corr_top.specs.declared.answers.BookStop.{BookStop}
use Rattle.corr_top.specs.declared.directory.Directory.{Directory}
use Rattle.corr_top.specs.declared.status.Status.{Status}
use Rattle.corr_top.specs.declared.status.Status.TheVariants as status
use Rattle.corr_top.specs.Booking.{StopsBooking}
use Rattle.corr_top.specs.Ready.{HasRoomForAll, IsSure}
use Rattle.corr_top.specs.Inputs.{Inputs, directory_in, pays_of}
use Rattle.corr_top.specs.Message.{pays_in, readings_of}
use Rattle.corr_top.specs.Passing.{IsReady, StopsServing}
use Rattle.corr_top.specs.Steps.{Step, Walks}
use Rattle.corr_top.specs.Stops.{status_of_booking}
use Rattle.corr_top.proofs.Told.{same_directory}
use Rattle.corr_top.proofs.Walking.{walked}
use Rattle.corr_top.proofs.steps.Entering.{booking_line, entering_memory}
use Rattle.corr_top.proofs.steps.Laws.{Agrees, HasBooked, IsStop, SameJournal, Setting, StepLaws, memory_stop, same_three}
use Rattle.corr_top.proofs.steps.Messages.{cut_agrees, file_line, messages_memory}

-- the same messages ask for the same pays
same_pays : (j i : Inputs) (done : List Step) → HasBooked done → Walks (Agrees j i) done → j.cut ≡ i.cut → pays_of j ≡ pays_of i
same_pays j i done has all cut =
    ap (λ (x : Directory). pays_in (readings_of x j.chart j.cut)) (same_directory j i (same_three j i done has.three all) (walked (Agrees j i) done (Step.table names.Ssi) all has.ssi)
    (walked (Agrees j i) done (Step.table names.Charges) all has.charges))
    ∙ ap (λ (c : Chart). pays_in (readings_of (directory_in i) c j.cut)) (walked (Agrees j i) done Step.open_journal all has.journal).chart
    ∙ ap (λ (ms : List (List ℕ)). pays_in (readings_of (directory_in i) i.chart ms)) cut

booking_memory : {D : Type 0} (d : disks.Ghosts D) (old new : D) (j i : Inputs) (stop : BookStop) → IsSure d old new → HasRoomForAll i.chart i.history (pays_of i) → SameJournal j i → pays_of j ≡ pays_of i
    → StopsBooking d old new j stop → status_of_booking stop ≡ status.Memory
booking_memory d old new j i stop sure room same pays stops =
    let by : AreBy (length j.history) j.chart = subst (λ (x : List Entry × Chart). AreBy (length x.0) x.1) (λ k. (sym same.history k, sym same.chart k)) same.by_now in
    entering_memory d old new j.chart j.history (pays_of j) j.day j.workers j.entries stop sure by
    (subst (λ (c : Chart). HasRoomForAll c j.history (pays_of j)) (sym same.chart) (subst (λ (h : List Entry). HasRoomForAll i.chart h (pays_of j)) (sym same.history) (subst (λ (ps : List Pay). HasRoomForAll i.chart i.history ps) (sym pays) room)))
    stops

serving_memory : (x : Setting) (s : Status) (done : List Step) → HasBooked done → Walks (Agrees x.read x.told) done → IsReady x.source x.disk x.old x.new x.told Step.serve → StopsServing x.source x.disk x.old x.new x.read s → s ≡ status.Memory
serving_memory x s done after all ready (inl none) = none.status_is
serving_memory x s done after all ready (inr (inl in_file)) =
    in_file.status_is ∙ messages_memory x.source x.old.messages x.new.messages x.read.messages x.told.messages x.told.cut in_file.stop ready.0.0 ready.0.1 in_file.stops
serving_memory x s done after all ready (inr (inr in_pays)) =
    let journal = walked (Agrees x.read x.told) done Step.open_journal all after.journal in
    let cut = cut_agrees x.source x.old.messages x.new.messages x.read.messages x.told.messages x.read.cut x.told.cut ready.0.0 ready.0.1 in_pays.file in
    in_pays.status_is ∙ booking_memory x.disk x.old.disk x.new.disk x.read x.told in_pays.stop ready.1.0 ready.1.1 journal (same_pays x.read x.told done after all cut) in_pays.left

serving_line : (x : Setting) (s : Status) → StopsServing x.source x.disk x.old x.new x.read s → IsStop s
serving_line x s (inl none) = subst IsStop (sym none.status_is) memory_stop
serving_line x s (inr (inl in_file)) = subst IsStop (sym in_file.status_is) (file_line in_file.stop)
serving_line x s (inr (inr in_pays)) = subst IsStop (sym in_pays.status_is) (booking_line in_pays.stop)

pub of_serve : StepLaws Step.serve
of_serve = record { agrees = λ x ready passes. tt; memory = serving_memory; line = serving_line }
