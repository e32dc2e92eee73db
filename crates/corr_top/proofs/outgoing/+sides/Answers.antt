use Rattle.std.proofs.Common.{◌+◌, ◌≤◌, arith}
use Rattle.std.proofs.lemmas.Result.{IfOk-at_ok}
use Rattle.corr_top.specs.inner.Sides.{IsSentOf}
use Rattle.corr_top.proofs.SideBySide.{sent_both}
use Rattle.corr_top.proofs.outgoing.+sides.Goals as goal

pub returns : goal.returns
returns g t c =
    let chart = c.args.a.now in
    let entries = c.args.h.now.entries in
    let share = c.part_of.result in
    let within = c.part_of.ensures in
    let until = c.if-until-from.false in
    let high : c.args.from + share ≤ c.args.until + 1 = omega (arith, within, until) in
    sent_both chart entries c.args.from (c.args.from + share) c.args.until c.in_ok-front.field-0 c.in_ok-back.field-0 c.joined.result c.requires.from (omega arith) high
    (IfOk-at_ok (IsSentOf chart entries _ _) c.in_ok-front.was c.join-front.ensures.first)
    (IfOk-at_ok (IsSentOf chart entries _ _) c.in_ok-back.was c.join-front.ensures.second)
    c.joined.ensures
