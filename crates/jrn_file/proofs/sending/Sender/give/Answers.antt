use Rattle.std.proofs.Common.{◌≡◌, ◌+◌, ◌-◌, ◌++◌, length, take, drop, refl, sym, ◌∙◌, ap, arith, length-drop}
use Rattle.std.proofs.lemmas.List.{length-take-le, take_rest}
use Rattle.std.proofs.Math.Seq.{take-add}
use Rattle.jrn_file.proofs.Sent.{sent-start, sent-then, sent-size, calls-so-far, calls-more}
use Rattle.jrn_file.proofs.Shut.{shut-start, shut-then}
use Rattle.jrn_file.proofs.sending.Sender.give.Goals as goal

pub loop-given-init : goal.loop-given-init
loop-given-init g c =
    let D = g.D.Disk in
    let old = c.args.disk.now in
    record {
      within = omega arith;
      sent = sent-start _ c.args.self.now (D.honest old) (D.reads old) (D.plan old) c.requires.by;
      shut = λ after shut. shut-start D.may_leave D.moment D.left_since g.met.D.Disk.only_now old shut;
      honest = refl;
      kept = refl;
    }

pub give_some-requires-clause-room : goal.give_some-requires-clause-room
give_some-requires-clause-room g c =
    let bytes = c.args.bytes.now in
    let given = c.loop-given.given in
    let within = c.loop-given.invariant.within in
    omega (
      arith,
      sent-size _ _ _ _ _ _ _ _ _ c.loop-given.invariant.sent c.requires.by,
      c.requires.room,
      within,
      length-take-le given bytes within,
      ap length (take_rest bytes given),
      length-drop given bytes,
    )

pub returns-in_err-given-clause-no_more_calls : goal.returns-in_err-given-clause-no_more_calls
returns-in_err-given-clause-no_more_calls g c =
    let bytes = c.args.bytes.now in
    let given = c.loop-given.given in
    let within = c.loop-given.invariant.within in
    let total = c.args.self.now.filled + length bytes in
    calls-more _ _ _ _ _ _ _ _ _ c.loop-given.invariant.sent _ total _ (omega (arith, c.requires.by.few)) c.requires.by
    (omega (arith, within, length-take-le given bytes within, ap length (take_rest bytes given), length-drop given bytes)) c.give_some.ensures.no_more_calls

pub returns-clause-no_more_calls : goal.returns-clause-no_more_calls
returns-clause-no_more_calls g c =
    let bytes = c.args.bytes.now in
    let given = c.loop-given.given in
    let within = c.loop-given.invariant.within in
    calls-so-far _ _ _ _ _ _ _ _ _ c.loop-given.invariant.sent (c.args.self.now.filled + length bytes) (omega (arith, c.requires.by.few)) c.requires.by
    (omega (arith, within, length-take-le given bytes within))

pub loop-given-preserved : goal.loop-given-preserved
loop-given-preserved g c =
    let D = g.D.Disk in
    let bytes = c.args.bytes.now in
    let given = c.loop-given.given in
    let n = c.in_ok-given.field-0 in
    let so_far = c.loop-given.invariant in
    let rest = take (length bytes - given) (drop given bytes) in
    let joined : take given bytes ++ take n rest ≡ take (given + n) bytes =
    ap (λ l. take given bytes ++ take n l) (take_rest bytes given) ∙ sym (take-add given n bytes) in
    record {
      within = omega (arith, so_far.within, c.in_ok-given.ensures.count, ap length (take_rest bytes given), length-drop given bytes);
      sent = sent-then _ _ _ _ (take given bytes) (take n rest) _ _ _ _ _ _ _ _ _ joined so_far.honest c.requires.no_gap so_far.sent c.in_ok-given.ensures.sent;
      shut = λ after shut.
          let before = so_far.shut after shut in
          shut-then D.may_leave D.moment D.left_since g.met.D.Disk.only_now _ _ _ before
          (c.give_some.ensures.shut (omega (arith, after, so_far.sent.place)) before.now);
      honest = c.give_some.ensures.honest ∙ so_far.honest;
      kept = c.in_ok-given.ensures.cause.kept ∙ so_far.kept;
    }
