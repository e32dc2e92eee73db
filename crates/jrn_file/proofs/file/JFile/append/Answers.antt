use Rattle.std.proofs.Common.{[]}
use Rattle.std.proofs.lemmas.Result.{on_ok_weaker}
use Rattle.jrn_file.specs.Journal.{record_in}
use Rattle.jrn_file.proofs.Records.{one-framed}
use Rattle.jrn_file.proofs.file.JFile.append.Goals as goal

pub append_all-requires-clause-frames : goal.append_all-requires-clause-frames
append_all-requires-clause-frames g c =
    let frame = c.args.frame.now in
    (record_in frame, [], one-framed frame c.requires.frame)

pub returns-clause-ok : goal.returns-clause-ok
returns-clause-ok g c =
    let frame = c.args.frame.now in
    on_ok_weaker c.append_all.result (λ all head records settled. all head records (record_in frame) [] settled (one-framed frame c.requires.frame)) c.append_all.ensures.ok

pub returns-clause-any_moment : goal.returns-clause-any_moment
returns-clause-any_moment g c head records settled honest =
    let frame = c.args.frame.now in
    c.append_all.ensures.any_moment head records (record_in frame) [] settled (one-framed frame c.requires.frame) honest
