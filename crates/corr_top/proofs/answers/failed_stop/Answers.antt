use Rattle.std.proofs.Common.{◌∙◌, sym}
use Rattle.corr_top.proofs.Gathering.{failed_here, failed_next, none_failed}
use Rattle.corr_top.proofs.answers.failed_stop.Goals as goal

pub loop-one-init : goal.loop-one-init
loop-one-init c = none_failed c.args.served.now

pub loop-one-preserved : goal.loop-one-preserved
loop-one-preserved c = failed_next c.args.served.now c.loop-one.one-index _ c.loop-one-test.true (sym c.disk_fault.ensures ∙ c.in_default.is) c.loop-one.invariant

pub returns-in-Some : goal.returns-in-Some
returns-in-Some c =
    failed_here c.args.served.now c.loop-one.one-index _ c.in-Some.stop c.args.count c.args.now c.requires c.loop-one-test.true (sym c.disk_fault.ensures ∙ c.in-Some.is) c.loop-one.invariant
