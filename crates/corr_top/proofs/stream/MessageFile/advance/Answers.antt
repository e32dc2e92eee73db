use Rattle.std.proofs.Common.{◌∙◌, ◌++◌, ℕ, List, [], ap, append-nil, arith, length, sym}
use Rattle.corr_top.specs.inner.Stream.{IsReadOn}
use Rattle.corr_top.proofs.StreamSteps.{found_more, found_now, going_of, messages_same, places_same, stopped_with, stream_more}
use Rattle.corr_top.proofs.stream.MessageFile.advance.Goals as goal

pub returns-in-Err-clause-stream : goal.returns-in-Err-clause-stream
returns-in-Err-clause-stream g c = λ left faults is.
    let f = c.args.self.now in
    let e = c.in-Err.ensures in
    let going = going_of g.S.Source left faults f is c.requires.going in
    let on : IsReadOn g.S.Source left faults c.args.self.now = record { read = going.read; kept = going.kept } in
    stopped_with g.S.Source left faults f c.fill.new.self e.grown.0 e.same.0 e.grown.1 c.in-Err.stop (found_now g.S.Source left faults f is c.requires.going) (e.stopped left faults on) (e.text left faults on)

pub returns-in-Err-clause-more : goal.returns-in-Err-clause-more
returns-in-Err-clause-more g c =
    let f = c.args.self.now in
    let e = c.in-Err.ensures in
    ([], messages_same f c.fill.new.self e.grown.0 e.same.0 e.grown.1 c.requires.stream.2.places ∙ sym (append-nil _))

pub returns-then-bytes-gt-FILE_LIMIT-clause-stream : goal.returns-then-bytes-gt-FILE_LIMIT-clause-stream
returns-then-bytes-gt-FILE_LIMIT-clause-stream g c = λ left faults is.
    let f = c.args.self.now in
    let e = c.in-Ok.ensures in
    let going = going_of g.S.Source left faults f is c.requires.going in
    c.refuse.ensures.stream left faults (found_more g.S.Source left faults f c.fill.new.self e.grown.0 e.same.0 e.grown.1 (found_now g.S.Source left faults f is c.requires.going)
    (e.read left faults (record { read = going.read; kept = going.kept })))

pub returns-then-bytes-gt-FILE_LIMIT-clause-more : goal.returns-then-bytes-gt-FILE_LIMIT-clause-more
returns-then-bytes-gt-FILE_LIMIT-clause-more g c =
    let f = c.args.self.now in
    let e = c.in-Ok.ensures in
    let all = c.requires.stream.2.places in
    ([], c.refuse.ensures.more (places_same f c.fill.new.self e.grown.0 e.same.0 e.grown.1 all) ∙ messages_same f c.fill.new.self e.grown.0 e.same.0 e.grown.1 all ∙ sym (append-nil _))

pub cut-requires-clause-stream : goal.cut-requires-clause-stream
cut-requires-clause-stream g c =
    let f = c.args.self.now in
    let e = c.in-Ok.ensures in
    let stream = c.requires.stream in
    let going = going_of g.S.Source stream.0 stream.1 f stream.2 c.requires.going in
    let short = c.if-bytes-gt-FILE_LIMIT.false in let bytes = ap length c.bytes-2.ensures in (
      stream.0,
      stream.1,
      stream_more g.S.Source stream.0 stream.1 f c.fill.new.self e.grown.0 e.same.0 e.grown.1 stream.2 c.requires.going (e.same.1 ∙ c.requires.going)
          (e.read stream.0 stream.1 (record { read = going.read; kept = going.kept })) (omega (arith, short, bytes)),
    )

pub returns-clause-stream : goal.returns-clause-stream
returns-clause-stream g c = λ left faults is.
    let f = c.args.self.now in
    let e = c.in-Ok.ensures in
    let going = going_of g.S.Source left faults f is c.requires.going in
    let short = c.if-bytes-gt-FILE_LIMIT.false in let bytes = ap length c.bytes-2.ensures in
    c.cut.ensures.stream left faults (stream_more g.S.Source left faults f c.fill.new.self e.grown.0 e.same.0 e.grown.1 is c.requires.going (e.same.1 ∙ c.requires.going)
    (e.read left faults (record { read = going.read; kept = going.kept })) (omega (arith, short, bytes)))

pub returns-clause-more : goal.returns-clause-more
returns-clause-more g c =
    let f = c.args.self.now in
    let e = c.in-Ok.ensures in
    let more = c.cut.ensures.more in
    (more.0, more.1 ∙ ap (λ (ms : List (List ℕ)). ms ++ more.0) (messages_same f c.fill.new.self e.grown.0 e.same.0 e.grown.1 c.requires.stream.2.places))
