use Rattle.std.proofs.Common.{IsTrue, arith, sym, ◌∙◌, ap, subst}
use Rattle.corr_disk.proofs.laws.Counted.{calls_then, at_most_weaker}
use Rattle.jrn_file.specs.Journal.{record_in}
use Rattle.jrn_file.specs.Making.{made_over}
use Rattle.jrn_file.specs.inner.Making.{IsFront}
use Rattle.jrn_file.proofs.Fronts.{closed-within, short-within}
use Rattle.jrn_file.proofs.Head.{over-short}
use Rattle.jrn_file.proofs.making.make.Goals as goal

pub returns-in_err-enter_head-in-Closed-clause-no_more_calls : goal.returns-in_err-enter_head-in-Closed-clause-no_more_calls
returns-in_err-enter_head-in-Closed-clause-no_more_calls g c honest =
    let plan = g.D.Disk.plan in
    closed-within (g.D.Disk.reads c.args.disk.now) c.in_ok-first.field-0 (c.in_ok-first.ensures.front honest)
    (plan c.args.disk.now) (plan c.look_in_front.new.disk) (plan c.enter_head.new.disk) c.in_ok-first.ensures.calls c.in-Closed.is c.enter_head.ensures.no_more_calls

pub returns-in_ok-enter_head-in-Closed-clause-no_more_calls : goal.returns-in_ok-enter_head-in-Closed-clause-no_more_calls
returns-in_ok-enter_head-in-Closed-clause-no_more_calls g c honest =
    let plan = g.D.Disk.plan in
    closed-within (g.D.Disk.reads c.args.disk.now) c.in_ok-first.field-0 (c.in_ok-first.ensures.front honest)
    (plan c.args.disk.now) (plan c.look_in_front.new.disk) (plan c.enter_head.new.disk) c.in_ok-first.ensures.calls c.in-Closed.is c.enter_head.ensures.no_more_calls

pub returns-in_err-blank-in-Short-clause-no_more_calls : goal.returns-in_err-blank-in-Short-clause-no_more_calls
returns-in_err-blank-in-Short-clause-no_more_calls g c honest =
    let plan = g.D.Disk.plan in
    short-within (g.D.Disk.reads c.args.disk.now) c.in_ok-first.field-0 (c.in_ok-first.ensures.front honest)
    (plan c.args.disk.now) (plan c.look_in_front.new.disk) (plan c.blank.new.disk) c.in_ok-first.ensures.calls c.in-Short.is
    (at_most_weaker 2 6 (plan c.look_in_front.new.disk) (plan c.blank.new.disk) c.blank.ensures.no_more_calls (omega arith))

pub returns-in_err-enter_head-in-Short-clause-no_more_calls : goal.returns-in_err-enter_head-in-Short-clause-no_more_calls
returns-in_err-enter_head-in-Short-clause-no_more_calls g c honest =
    let plan = g.D.Disk.plan in
    short-within (g.D.Disk.reads c.args.disk.now) c.in_ok-first.field-0 (c.in_ok-first.ensures.front honest)
    (plan c.args.disk.now) (plan c.look_in_front.new.disk) (plan c.enter_head-in-Short.new.disk) c.in_ok-first.ensures.calls c.in-Short.is
    (calls_then 2 4 6 (plan c.look_in_front.new.disk) (plan c.blank.new.disk) (plan c.enter_head-in-Short.new.disk) c.in_ok-blank-in-Short.ensures.calls c.enter_head-in-Short.ensures.no_more_calls (omega arith))

pub returns-in_ok-enter_head-in-Short-clause-no_more_calls : goal.returns-in_ok-enter_head-in-Short-clause-no_more_calls
returns-in_ok-enter_head-in-Short-clause-no_more_calls g c honest =
    let plan = g.D.Disk.plan in
    short-within (g.D.Disk.reads c.args.disk.now) c.in_ok-first.field-0 (c.in_ok-first.ensures.front honest)
    (plan c.args.disk.now) (plan c.look_in_front.new.disk) (plan c.enter_head-in-Short.new.disk) c.in_ok-first.ensures.calls c.in-Short.is
    (calls_then 2 4 6 (plan c.look_in_front.new.disk) (plan c.blank.new.disk) (plan c.enter_head-in-Short.new.disk) c.in_ok-blank-in-Short.ensures.calls c.enter_head-in-Short.ensures.no_more_calls (omega arith))

pub returns-in_ok-enter_head-in-Closed-clause-bytes : goal.returns-in_ok-enter_head-in-Closed-clause-bytes
returns-in_ok-enter_head-in-Closed-clause-bytes g c honest =
    let now = subst IsTrue (sym c.in_ok-first.ensures.honest) honest in
    c.in_ok-enter_head-in-Closed.ensures.bytes now ∙ ap (made_over (record_in c.args.frame.now)) c.in_ok-first.ensures.untouched.same

pub returns-in_ok-enter_head-in-Short-clause-bytes : goal.returns-in_ok-enter_head-in-Short-clause-bytes
returns-in_ok-enter_head-in-Short-clause-bytes g c honest =
    let D = g.D.Disk in
    let looked = subst IsTrue (sym c.in_ok-first.ensures.honest) honest in
    let blank = subst IsTrue (sym c.in_ok-blank-in-Short.ensures.honest) looked in
    let short = subst (λ f. IsFront f (D.reads c.args.disk.now)) c.in-Short.is (c.in_ok-first.ensures.front honest) in
    c.in_ok-enter_head-in-Short.ensures.bytes blank
    ∙ ap (made_over (record_in c.args.frame.now)) (c.in_ok-blank-in-Short.ensures.closed looked)
    ∙ over-short (record_in c.args.frame.now) (D.reads c.args.disk.now) short
