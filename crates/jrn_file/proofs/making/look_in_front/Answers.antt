use Rattle.std.proofs.Common.{arith}
use Rattle.corr_disk.proofs.laws.Counted.{call_more, calls_within}
use Rattle.jrn_file.proofs.making.look_in_front.Goals as goal

pub returns-in_err-read_at-clause-no_more_calls : goal.returns-in_err-read_at-clause-no_more_calls
returns-in_err-read_at-clause-no_more_calls g c =
    let plan = g.D.Disk.plan in
    let measured = c.len.ensures.next in
    let seen = call_more 1 (plan c.args.disk.now) (plan c.len.new.self) (plan c.read_at.new.self) measured c.read_at.ensures.next in
    calls_within 2 2 (plan c.args.disk.now) (plan c.read_at.new.self) seen (omega arith)

pub returns-in-0-clause-no_more_calls : goal.returns-in-0-clause-no_more_calls
returns-in-0-clause-no_more_calls g c =
    let plan = g.D.Disk.plan in
    let measured = c.len.ensures.next in
    let seen = call_more 1 (plan c.args.disk.now) (plan c.len.new.self) (plan c.read_at.new.self) measured c.read_at.ensures.next in
    calls_within 2 2 (plan c.args.disk.now) (plan c.read_at.new.self) seen (omega arith)

pub returns-in_default-clause-no_more_calls : goal.returns-in_default-clause-no_more_calls
returns-in_default-clause-no_more_calls g c =
    let plan = g.D.Disk.plan in
    let measured = c.len.ensures.next in
    let seen = call_more 1 (plan c.args.disk.now) (plan c.len.new.self) (plan c.read_at.new.self) measured c.read_at.ensures.next in
    calls_within 2 2 (plan c.args.disk.now) (plan c.read_at.new.self) seen (omega arith)
