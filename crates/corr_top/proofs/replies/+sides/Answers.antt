use Rattle.std.proofs.Common.{rules, ◌+◌, ◌≤◌, length, arith}
use Rattle.std.proofs.lemmas.Result.{IfOk-at_ok}
use Rattle.corr_top.specs.inner.Sides.{AreLinesOf, HaveReplies}
use Rattle.corr_top.proofs.Reporting.{lines_both, replies_after, replies_ahead}
use Rattle.corr_top.proofs.replies.+sides.Goals as goal

pub join-front-requires-after_bounds : goal.join-front-requires-after_bounds
join-front-requires-after_bounds g t c κs within =
    let cut = c.split_at in
    let part = c.part_of-part.result in
    let made = c.args.served.now in
    let entries = c.args.h.now.entries in
    let few = c.requires.few in
    let less = c.part_of-part.ensures in
    let ahead_len = cut.ensures.front_len in
    let after_len = cut.ensures.back_len in
    let ahead : HaveReplies entries cut.result.0.now = replies_ahead entries made part cut.result.0.now cut.ensures.front c.requires.served in
    let after : HaveReplies entries cut.result.1.now = replies_after entries made part cut.result.1.now cut.ensures.back c.requires.served in
    let few_ahead : c.args.first + length cut.result.0.now ≤ 50001 = omega (arith, few, less, ahead_len) in
    let few_after : c.args.first + part + length cut.result.1.now ≤ 50001 = omega (arith, few, less, after_len) in
    search rules

pub returns : goal.returns
returns g t c =
    let chart = c.args.a.now in
    let entries = c.args.h.now.entries in
    let made = c.args.served.now in
    let cut = c.split_at in
    let less = c.part_of-part.ensures in
    let within : c.part_of-part.result ≤ length made = omega (arith, less) in
    lines_both chart entries made cut.result.0.now cut.result.1.now c.args.first c.part_of-part.result c.in_ok-front.field-0 c.in_ok-back.field-0 c.joined.result within cut.ensures.front cut.ensures.back
    (IfOk-at_ok (AreLinesOf chart entries _ _) c.in_ok-front.was c.join-front.ensures.first)
    (IfOk-at_ok (AreLinesOf chart entries _ _) c.in_ok-back.was c.join-front.ensures.second)
    c.joined.ensures
