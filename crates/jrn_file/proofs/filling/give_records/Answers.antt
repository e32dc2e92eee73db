use Rattle.std.proofs.Common.{◌≡◌, ◌+◌, ◌++◌, ◌∷◌, [], List, ℕ, length, get_or, take, ◌∙◌, ap, arith}
use Rattle.jrn_file.specs.inner.Sending.{open_frames}
use Rattle.jrn_file.specs.Reading.{with_length}
use Rattle.jrn_file.proofs.Filled.{frames-next, frames-step, frames-within}
use Rattle.jrn_file.proofs.Sent.{sent-then, sent-size, calls-so-far, calls-more}
use Rattle.jrn_file.proofs.Shut.{shut-then}
use Rattle.jrn_file.proofs.filling.give_records.Goals as goal

pub overflow_cast-record : goal.overflow_cast-record
overflow_cast-record g c =
    let next = frames-next c.args.head.now c.args.records.now c.loop-record.record-index c.record-item.result c.loop-record-test.true c.record-item.is in
    omega (arith, ap length c.bytes-record.ensures, next, c.requires.room)

pub give_both-requires-in-loop-record-clause-room : goal.give_both-requires-in-loop-record-clause-room
give_both-requires-in-loop-record-clause-room g c =
    let next = frames-next c.args.head.now c.args.records.now c.loop-record.record-index c.record-item.result c.loop-record-test.true c.record-item.is in
    omega (arith, ap length c.bytes-record.ensures, next, c.requires.room, sent-size _ _ _ _ _ _ _ _ _ c.loop-record.invariant.sent c.requires.by)

pub returns-in_err-give_both-2-clause-no_more_calls : goal.returns-in_err-give_both-2-clause-no_more_calls
returns-in_err-give_both-2-clause-no_more_calls g c =
    let next = frames-next c.args.head.now c.args.records.now c.loop-record.record-index c.record-item.result c.loop-record-test.true c.record-item.is in
    calls-more _ _ _ _ _ _ _ _ _ c.loop-record.invariant.sent _ (c.args.sender.now.filled + length (open_frames c.args.head.now c.args.records.now)) _
    (omega (arith, c.requires.by.few)) c.requires.by (omega (arith, ap length c.bytes-record.ensures, next)) c.give_both-in-loop-record.ensures.no_more_calls

pub returns-clause-no_more_calls : goal.returns-clause-no_more_calls
returns-clause-no_more_calls g c =
    calls-so-far _ _ _ _ _ _ _ _ _ c.loop-record.invariant.sent (c.args.sender.now.filled + length (open_frames c.args.head.now c.args.records.now))
    (omega (arith, c.requires.by.few)) c.requires.by (omega (arith, frames-within c.args.head.now c.args.records.now c.loop-record.record-index))

pub loop-record-preserved : goal.loop-record-preserved
loop-record-preserved g c =
    let D = g.D.Disk in
    let head = c.args.head.now in
    let records = c.args.records.now in
    let i = c.loop-record.record-index in
    let r = c.record-item.result in
    let b = c.bytes-record.result.now in
    let so_far = c.loop-record.invariant in
    let front : List ℕ → List ℕ = λ l. 1 ∷ get_or l 0 0 ∷ get_or l 1 0 ∷ get_or l 2 0 ∷ get_or l 3 0 ∷ [] in
    let given : front c.to_be_bytes-in-loop-record.result ++ b ≡ 1 ∷ with_length r =
    ap (λ l. front l ++ b) c.to_be_bytes-in-loop-record.ensures ∙ ap (λ (x : List ℕ). 1 ∷ with_length x) c.bytes-record.ensures in
    record {
      sent = sent-then _ _ _ _ (open_frames head (take i records)) (front c.to_be_bytes-in-loop-record.result ++ b) _ _ _ _ _ _ _ _ _
          (frames-step head records i r (front c.to_be_bytes-in-loop-record.result ++ b) c.loop-record-test.true c.record-item.is given)
          so_far.honest c.requires.no_gap so_far.sent c.in_ok-give_both-2.ensures.sent;
      shut = λ after shut.
          let before = so_far.shut after shut in
          shut-then D.may_leave D.moment D.left_since g.met.D.Disk.only_now _ _ _ before
          (c.give_both-in-loop-record.ensures.shut (omega (arith, after, so_far.sent.place)) before.now);
      honest = c.give_both-in-loop-record.ensures.honest ∙ so_far.honest;
      kept = c.in_ok-give_both-2.ensures.cause.kept ∙ so_far.kept;
    }
