use Rattle.std.proofs.Common.{◌+◌, ◌/◌, ◌<◌, ◌∷◌, [], IsTrue, min, length, sym, ◌∙◌, ap, subst, arith, length-append}
use Rattle.std.specs.Int.{div_ceil}
use Rattle.std.proofs.lemmas.Result.{on_ok_weaker}
use Rattle.corr_disk.specs.Calls.{AtMostCalls, CallsMade}
use Rattle.corr_disk.proofs.laws.Counted.{at_most_weaker, calls_in_turn, calls_then}
use Rattle.jrn_file.specs.Journal.{frames_of}
use Rattle.jrn_file.specs.inner.Sending.{SendsBy, open_frames}
use Rattle.jrn_file.proofs.Filled.{frames-closed}
use Rattle.jrn_file.proofs.Pieces.{pieces-fewer}
use Rattle.jrn_file.proofs.Sent.{sent-then, sent-size, calls-more, all-written, all-pieces}
use Rattle.jrn_file.proofs.Shut.{shut-then}
use Rattle.jrn_file.proofs.filling.send.Goals as goal

pub give_records-requires-clause-room : goal.give_records-requires-clause-room
give_records-requires-clause-room g c =
    let head = c.args.head.now in
    let records = c.args.records.now in
    omega (
      arith,
      c.requires.sender.place,
      c.requires.sender.none,
      c.requires.room,
      ap length (frames-closed head records),
      length-append (open_frames head records) (0 ∷ []),
    )

pub give-requires-clause-room : goal.give-requires-clause-room
give-requires-clause-room g c =
    let head = c.args.head.now in
    let records = c.args.records.now in
    omega (
      arith,
      sent-size _ _ _ _ _ _ _ _ _ c.in_ok-give_records.ensures.sent c.requires.sender.by,
      c.requires.sender.place,
      c.requires.sender.none,
      c.requires.room,
      ap length (frames-closed head records),
      length-append (open_frames head records) (0 ∷ []),
    )

pub finish-requires-clause-room : goal.finish-requires-clause-room
finish-requires-clause-room g c =
    let head = c.args.head.now in
    let records = c.args.records.now in
    let given = c.in_ok-give_records.ensures.sent in
    omega (
      arith,
      sent-size _ _ _ _ _ _ _ _ _ given c.requires.sender.by,
      sent-size _ _ _ _ _ _ _ _ _ c.in_ok-give.ensures.sent (subst (λ n. SendsBy n c.give_records.new.sender) (sym given.by.size) given.by),
      c.requires.sender.place,
      c.requires.sender.none,
      c.requires.room,
      ap length (frames-closed head records),
      length-append (open_frames head records) (0 ∷ []),
    )

pub returns-in_err-give_records-clause-no_more_calls : goal.returns-in_err-give_records-clause-no_more_calls
returns-in_err-give_records-clause-no_more_calls g c =
    let plan = g.D.Disk.plan in
    let head = c.args.head.now in
    let records = c.args.records.now in
    let size = length c.args.sender.now.buffer.items in
    let n = c.args.sender.now.filled + length (open_frames head records) in
    at_most_weaker (n / size) (div_ceil (length (frames_of head records)) size) (plan c.args.disk.now) (plan c.give_records.new.disk) c.give_records.ensures.no_more_calls
    (pieces-fewer n (length (frames_of head records)) size (omega (arith, c.requires.sender.by.few))
    (omega (arith, c.requires.sender.none, ap length (frames-closed head records), length-append (open_frames head records) (0 ∷ []))))

pub returns-in_err-give-clause-no_more_calls : goal.returns-in_err-give-clause-no_more_calls
returns-in_err-give-clause-no_more_calls g c =
    let plan = g.D.Disk.plan in
    let head = c.args.head.now in
    let records = c.args.records.now in
    let size = length c.args.sender.now.buffer.items in
    let total = length (frames_of head records) in
    let some : 0 < size = omega (arith, c.requires.sender.by.few) in
    at_most_weaker (total / size) (div_ceil total size) (plan c.args.disk.now) (plan c.give.new.disk)
    (calls-more _ _ _ _ _ _ _ _ _ c.in_ok-give_records.ensures.sent _ total _ some c.requires.sender.by
    (omega (arith, c.requires.sender.none, ap length (frames-closed head records), length-append (open_frames head records) (0 ∷ [])))
    c.give.ensures.no_more_calls)
    (pieces-fewer total total size some (omega arith))

pub returns-in_err-give_records-clause-shut : goal.returns-in_err-give_records-clause-shut
returns-in_err-give_records-clause-shut g c shut = c.give_records.ensures.shut (omega (arith, c.requires.sender.place)) shut

pub returns-in_err-give-clause-shut : goal.returns-in_err-give-clause-shut
returns-in_err-give-clause-shut g c shut =
    let D = g.D.Disk in
    let first = c.give_records.ensures.shut (omega (arith, c.requires.sender.place)) shut in
    shut-then D.may_leave D.moment D.left_since g.met.D.Disk.only_now _ _ _ first
    (c.give.ensures.shut (omega (arith, c.requires.sender.place, c.in_ok-give_records.ensures.sent.place)) first.now)

pub returns-clause-shut : goal.returns-clause-shut
returns-clause-shut g c shut =
    let D = g.D.Disk in
    let first = c.give_records.ensures.shut (omega (arith, c.requires.sender.place)) shut in
    let second = c.give.ensures.shut (omega (arith, c.requires.sender.place, c.in_ok-give_records.ensures.sent.place)) first.now in
    shut-then D.may_leave D.moment D.left_since g.met.D.Disk.only_now _ _ _
    (shut-then D.may_leave D.moment D.left_since g.met.D.Disk.only_now _ _ _ first second)
    (c.finish.ensures.shut (omega (arith, c.requires.sender.place, c.in_ok-give_records.ensures.sent.place, c.in_ok-give.ensures.sent.place)) second.now)

pub returns-clause-written : goal.returns-clause-written
returns-clause-written g c told =
    let some = c.requires.some in
    let here = c.requires.sender.place in
    let sent = sent-then _ _ _ _ (open_frames c.args.head.now c.args.records.now) (0 ∷ []) (frames_of c.args.head.now c.args.records.now) _ _ _ _ _ _ _ _
    (frames-closed c.args.head.now c.args.records.now) c.give_records.ensures.honest (λ was. omega (arith, here, some was))
    c.in_ok-give_records.ensures.sent c.in_ok-give.ensures.sent in
    on_ok_weaker c.finish.result
    (λ is. all-written _ _ _ _ _ _ _ _ _ sent c.requires.sender _ (some told) told is)
    (c.finish.ensures.written (subst IsTrue (sym (c.give.ensures.honest ∙ c.give_records.ensures.honest)) told))

pub returns-clause-calls : goal.returns-clause-calls
returns-clause-calls g c =
    let plan = g.D.Disk.plan in
    let some = c.requires.some in
    let here = c.requires.sender.place in
    let sent = sent-then _ _ _ _ (open_frames c.args.head.now c.args.records.now) (0 ∷ []) (frames_of c.args.head.now c.args.records.now) _ _ _ _ _ _ _ _
    (frames-closed c.args.head.now c.args.records.now) c.give_records.ensures.honest (λ was. omega (arith, here, some was))
    c.in_ok-give_records.ensures.sent c.in_ok-give.ensures.sent in
    on_ok_weaker c.finish.result
    (λ made. subst (λ n. CallsMade n (plan c.args.disk.now) (plan c.finish.new.disk)) (sym (all-pieces _ _ _ _ _ _ _ _ _ sent c.requires.sender))
    (calls_in_turn sent.pieces (min 1 c.give.new.self.filled) (plan c.args.disk.now) (plan c.give.new.disk) (plan c.finish.new.disk) sent.calls made))
    c.finish.ensures.calls

pub returns-clause-no_more_calls : goal.returns-clause-no_more_calls
returns-clause-no_more_calls g c =
    let some = c.requires.some in
    let here = c.requires.sender.place in
    let sent = sent-then _ _ _ _ (open_frames c.args.head.now c.args.records.now) (0 ∷ []) (frames_of c.args.head.now c.args.records.now) _ _ _ _ _ _ _ _
    (frames-closed c.args.head.now c.args.records.now) c.give_records.ensures.honest (λ was. omega (arith, here, some was))
    c.in_ok-give_records.ensures.sent c.in_ok-give.ensures.sent in
    let plan = g.D.Disk.plan in
    let waits = min 1 c.give.new.self.filled in
    subst (λ n. AtMostCalls n (plan c.args.disk.now) (plan c.finish.new.disk)) (sym (all-pieces _ _ _ _ _ _ _ _ _ sent c.requires.sender))
    (calls_then sent.pieces waits (sent.pieces + waits) (plan c.args.disk.now) (plan c.give.new.disk) (plan c.finish.new.disk) sent.calls c.finish.ensures.no_more_calls (omega arith))
