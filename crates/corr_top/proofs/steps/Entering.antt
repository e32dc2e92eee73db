-- Pays that are entered: where each has room and nothing fails, a stop wants memory.
use Rattle.std.proofs.Common.{◌≡◌, ℕ, All, List, ◌++◌, [], ◌∷◌, length, length-append, refl, subst, arith}
use Rattle.corr_disk.specs.declared.disk.Disk as disks
use Rattle.corr_ids.specs.declared.day.Day.{Day}
use Rattle.day_model.specs.declared.entry.Entry.{Entry}
use Rattle.day_model.specs.declared.pay.Pay.{Pay}
use Rattle.day_model.specs.Chart.{AreBy, Chart}
use Rattle.day_model.specs.Legal.{IsLegal}
use Rattle.day_model.proofs.laws.Fronts.{legal_front}
use Rattle.jrn_book.proofs.laws.Items.{by_later}
use Rattle.corr_top.specs.declared.answers.BookStop.{BookStop}
use Rattle.corr_top.specs.declared.answers.BookStop.TheVariants as booking
use Rattle.corr_top.specs.declared.status.Status.TheVariants as status
use Rattle.corr_top.specs.Booking.{HadNoRoom, IsEnteredOn, StopsEntering}
use Rattle.corr_top.specs.Ready.{HasRoomForAll, IsSure}
use Rattle.corr_top.specs.Stops.{status_of_booking}
use Rattle.corr_top.proofs.FaultCounts.{tells_rose}
use Rattle.corr_top.proofs.Fronts.{All-front}
use Rattle.corr_top.proofs.Rooms.{has_room}
use Rattle.corr_top.proofs.steps.Laws.{IsStop}

-- what was entered then is a beginning of what was added
added_is : (history added front later : List Entry) → history ++ added ≡ (history ++ front) ++ later → added ≡ front ++ later
added_is [] added front later is = is
added_is (e ∷ history) added front later is = added_is history added front later (cc (is))

module _ (chart : Chart) (history : List Entry) (pays : List Pay) (day : Day) (added : List Entry) (pay : Pay) (entries end need : ℕ) (had : HadNoRoom chart history day (history ++ added) pay entries end need) where
  front_legal : AreBy (length history) chart → IsLegal chart (history ++ added) → IsLegal chart (history ++ had.front)
  front_legal by legal =
      legal_front chart (history ++ had.front) had.later (by_later chart (length history) (length (history ++ had.front)) (omega (arith, length-append history had.front)) by) (subst (IsLegal chart) had.left_is legal)

  front_added : All (IsEnteredOn day pays) added → All (IsEnteredOn day pays) had.front
  front_added each = All-front (IsEnteredOn day pays) had.front had.later (subst (λ (es : List Entry). All (IsEnteredOn day pays) es) (added_is history added had.front had.later had.left_is) each)

pub entering_memory : {D : Type 0} (d : disks.Ghosts D) (old new : D) (chart : Chart) (history : List Entry) (pays : List Pay) (day : Day) (workers most : ℕ) (stop : BookStop) → IsSure d old new → AreBy (length history) chart → HasRoomForAll chart history pays
    → StopsEntering d old new chart history pays day workers most stop → status_of_booking stop ≡ status.Memory
entering_memory d old new chart history pays day workers most (booking.DiskFault b a) sure by room stops = absurd (sure.sound (tells_rose (d.faults old) b a (d.faults new) stops.cause))
entering_memory d old new chart history pays day workers most (booking.Full entries end need) sure by room stops =
    let lacks = stops.cause.1 in
    absurd (has_room chart history pays day (history ++ stops.added) entries end need by room lacks
    (front_legal chart history pays day stops.added lacks.pay entries end need lacks.had by stops.journal.legal)
    (front_added chart history pays day stops.added lacks.pay entries end need lacks.had stops.each))
entering_memory d old new chart history pays day workers most booking.Memory sure by room stops = refl

pub booking_line : (stop : BookStop) → IsStop (status_of_booking stop)
booking_line (booking.DiskFault before after) = record { line = tt; silent = refl }
booking_line (booking.Full entries end need) = record { line = tt; silent = refl }
booking_line booking.Memory = record { line = tt; silent = refl }
