-- The entering of the pay that takes a payment back.
use Rattle.std.proofs.Common.{◌≡◌, List, [], ◌∷◌, length, sym, ◌∙◌, subst}
use Rattle.day_model.specs.declared.entry.Entry.{Entry}
use Rattle.day_model.specs.Chart.{AreBy, Chart}
use Rattle.corr_top.specs.declared.status.Status.{Status}
use Rattle.corr_top.specs.declared.status.Status.TheVariants as status
use Rattle.corr_top.specs.Ready.{HasRoomForAll}
use Rattle.corr_top.specs.Passing.{IsReady, StopsAt}
use Rattle.corr_top.specs.Steps.{Step, Walks}
use Rattle.corr_top.proofs.Walking.{walked}
use Rattle.corr_top.proofs.steps.Entering.{booking_line, entering_memory}
use Rattle.corr_top.proofs.steps.Laws.{Agrees, IsAfter, IsStop, Setting, StepLaws}
use Rattle.corr_top.proofs.steps.MakeReturn.{as_told}

book_memory : (x : Setting) (s : Status) (done : List Step) → IsAfter x.told.change done Step.book_return → Walks (Agrees x.read x.told) done → IsReady x.source x.disk x.old x.new x.told Step.book_return
    → StopsAt x.source x.disk x.old x.new x.read s Step.book_return → s ≡ status.Memory
book_memory x s done after all ready stops =
    let j = x.read in
    let journal = walked (Agrees x.read x.told) done Step.open_journal all after in
    let by : AreBy (length j.history) j.chart = subst (λ (v : List Entry × Chart). AreBy (length v.0) v.1) (λ k. (sym journal.history k, sym journal.chart k)) journal.by_now in
    let back = stops.2 in
    let may = as_told x journal back.0 back.1 in
    let room = subst (λ (v : List Entry × Chart). HasRoomForAll v.1 v.0 (back.0 ∷ [])) (λ k. (sym journal.history k, sym journal.chart k)) (ready.1 back.0 may) in
    stops.1 ∙ entering_memory x.disk x.old.disk x.new.disk j.chart j.history (back.0 ∷ []) j.day 1 1 stops.0 ready.0 by room back.2

pub of_book_return : StepLaws Step.book_return
of_book_return = record { agrees = λ x ready passes. tt; memory = book_memory; line = λ x s stops. subst IsStop (sym stops.1) (booking_line stops.0) }
