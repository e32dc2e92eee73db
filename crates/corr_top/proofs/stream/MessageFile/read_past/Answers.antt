use Rattle.std.proofs.Common.{◌∙◌, ◌++◌, ℕ, List, ap, append_assoc}
use Rattle.corr_top.specs.inner.Stream.{messages_so_far}
use Rattle.corr_top.proofs.StreamSteps.{fewer_left, going_of}
use Rattle.corr_top.proofs.stream.MessageFile.read_past.Goals as goal

pub advance-requires-clause-stream : goal.advance-requires-clause-stream
advance-requires-clause-stream g c = let stream = c.requires.stream in (stream.0, stream.1, c.loop-self.invariant.stream stream.0 stream.1 stream.2)

pub loop-self-smaller : goal.loop-self-smaller
loop-self-smaller g c =
    let stream = c.requires.stream in
    let f = c.loop-self.self in
    let going = c.is_going.ensures.yes c.if-is_going.true in
    let is = c.loop-self.invariant.stream stream.0 stream.1 stream.2 in
    fewer_left f.stage c.advance.new.self.stage f.text c.advance.new.self.text going (going_of g.S.Source stream.0 stream.1 f is going).short c.advance.ensures.on

pub loop-self-preserved : goal.loop-self-preserved
loop-self-preserved g c =
    let before = c.loop-self.invariant.more in
    let now = c.advance.ensures.more in
    record {
      stream = λ left faults is. c.advance.ensures.stream left faults (c.loop-self.invariant.stream left faults is);
      more = (before.0 ++ now.0, now.1 ∙ ap (λ (ms : List (List ℕ)). ms ++ now.0) before.1 ∙ append_assoc (messages_so_far c.args.self.now) before.0 now.0);
    }
