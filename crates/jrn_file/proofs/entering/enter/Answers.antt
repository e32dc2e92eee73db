use Rattle.corr_disk.proofs.laws.Moments.{started, goes_on}
use Rattle.jrn_file.specs.inner.Making.{IsEntering}
use Rattle.jrn_file.proofs.EntryImages.{entering-only, entering-frame, entering-gate}
use Rattle.std.proofs.Common.{arith}
use Rattle.corr_disk.proofs.laws.Counted.{call_more, calls_within}
use Rattle.jrn_file.proofs.entering.enter.Goals as goal

pub returns-in_err-sync-clause-any_moment : goal.returns-in_err-sync-clause-any_moment
returns-in_err-sync-clause-any_moment g c honest only =
    let D = g.D.Disk in
    let old = c.args.disk.now in
    let bytes = D.reads old in
    let P = IsEntering c.args.gate c.args.frame.now bytes in
    let at_start = started D.moment D.left_since old P (λ b left. entering-only _ _ _ _ only b (g.met.D.Disk.only_now old b left)) in
    let after = entering-frame _ _ _ _ _ only c.write_at.ensures.crash in
    let framed = goes_on D.moment D.left_since old old c.write_at.new.self P _ at_start c.write_at.ensures.time after in
    goes_on D.moment D.left_since old c.write_at.new.self c.sync.new.self P _ framed c.sync.ensures.time (λ b now. after b (c.sync.ensures.crash b now))

pub returns-in_err-write_at-2-clause-any_moment : goal.returns-in_err-write_at-2-clause-any_moment
returns-in_err-write_at-2-clause-any_moment g c honest only =
    let D = g.D.Disk in
    let old = c.args.disk.now in
    let bytes = D.reads old in
    let P = IsEntering c.args.gate c.args.frame.now bytes in
    let at_start = started D.moment D.left_since old P (λ b left. entering-only _ _ _ _ only b (g.met.D.Disk.only_now old b left)) in
    let after = entering-frame _ _ _ _ _ only c.write_at.ensures.crash in
    let framed = goes_on D.moment D.left_since old old c.write_at.new.self P _ at_start c.write_at.ensures.time after in
    let kept = goes_on D.moment D.left_since old c.write_at.new.self c.sync.new.self P _ framed c.sync.ensures.time (λ b now. after b (c.sync.ensures.crash b now)) in
    let between = c.in_ok-write_at.ensures.answer honest in
    let opened = entering-gate _ _ _ _ between _ _ c.in_ok-sync.ensures.durable c.write_at-2.ensures.crash in
    goes_on D.moment D.left_since old c.sync.new.self c.write_at-2.new.self P _ kept c.write_at-2.ensures.time opened

pub returns-clause-any_moment : goal.returns-clause-any_moment
returns-clause-any_moment g c honest only =
    let D = g.D.Disk in
    let old = c.args.disk.now in
    let bytes = D.reads old in
    let P = IsEntering c.args.gate c.args.frame.now bytes in
    let at_start = started D.moment D.left_since old P (λ b left. entering-only _ _ _ _ only b (g.met.D.Disk.only_now old b left)) in
    let after = entering-frame _ _ _ _ _ only c.write_at.ensures.crash in
    let framed = goes_on D.moment D.left_since old old c.write_at.new.self P _ at_start c.write_at.ensures.time after in
    let kept = goes_on D.moment D.left_since old c.write_at.new.self c.sync.new.self P _ framed c.sync.ensures.time (λ b now. after b (c.sync.ensures.crash b now)) in
    let between = c.in_ok-write_at.ensures.answer honest in
    let opened = entering-gate _ _ _ _ between _ _ c.in_ok-sync.ensures.durable c.write_at-2.ensures.crash in
    let done = goes_on D.moment D.left_since old c.sync.new.self c.write_at-2.new.self P _ kept c.write_at-2.ensures.time opened in
    goes_on D.moment D.left_since old c.write_at-2.new.self c.sync-2.new.self P _ done c.sync-2.ensures.time (λ b now. opened b (c.sync-2.ensures.crash b now))

pub returns-in_err-sync-clause-no_more_calls : goal.returns-in_err-sync-clause-no_more_calls
returns-in_err-sync-clause-no_more_calls g c =
    let plan = g.D.Disk.plan in
    let framed = c.write_at.ensures.next in
    let synced = call_more 1 (plan c.args.disk.now) (plan c.write_at.new.self) (plan c.sync.new.self) framed c.sync.ensures.next in
    calls_within 2 4 (plan c.args.disk.now) (plan c.sync.new.self) synced (omega arith)

pub returns-in_err-write_at-2-clause-no_more_calls : goal.returns-in_err-write_at-2-clause-no_more_calls
returns-in_err-write_at-2-clause-no_more_calls g c =
    let plan = g.D.Disk.plan in
    let framed = c.write_at.ensures.next in
    let synced = call_more 1 (plan c.args.disk.now) (plan c.write_at.new.self) (plan c.sync.new.self) framed c.sync.ensures.next in
    let opened = call_more 2 (plan c.args.disk.now) (plan c.sync.new.self) (plan c.write_at-2.new.self) synced c.write_at-2.ensures.next in
    calls_within 3 4 (plan c.args.disk.now) (plan c.write_at-2.new.self) opened (omega arith)

pub returns-clause-no_more_calls : goal.returns-clause-no_more_calls
returns-clause-no_more_calls g c =
    let plan = g.D.Disk.plan in
    let framed = c.write_at.ensures.next in
    let synced = call_more 1 (plan c.args.disk.now) (plan c.write_at.new.self) (plan c.sync.new.self) framed c.sync.ensures.next in
    let opened = call_more 2 (plan c.args.disk.now) (plan c.sync.new.self) (plan c.write_at-2.new.self) synced c.write_at-2.ensures.next in
    let settled = call_more 3 (plan c.args.disk.now) (plan c.write_at-2.new.self) (plan c.sync-2.new.self) opened c.sync-2.ensures.next in
    calls_within 4 4 (plan c.args.disk.now) (plan c.sync-2.new.self) settled (omega arith)
