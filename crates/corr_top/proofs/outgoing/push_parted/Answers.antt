use Rattle.std.proofs.Common.{◌+◌, refl, drop}
use Rattle.std.proofs.lemmas.List.{drop_all}
use Rattle.std.proofs.lemmas.Option.{slice_get_read}
use Rattle.corr_report.proofs.laws.Rests.{drop_at}
use Rattle.corr_top.proofs.Adding.{parted_done, parted_more}
use Rattle.corr_top.proofs.outgoing.push_parted.Goals as goal

pub loop-message-preserved : goal.loop-message-preserved
loop-message-preserved c =
    let messages = c.args.messages.now in
    let index = c.loop-message.message-index in
    let at = slice_get_read messages _ index c.message-item.result refl c.loop-message-test.true c.message-item.is in
    parted_more _ c.loop-message.out c.message-item.result _ (drop index messages) (drop (index + 1) messages) (drop_at messages index c.message-item.result at) c.loop-message.invariant c.in_ok-push_message.ensures

pub returns : goal.returns
returns c =
    let messages = c.args.messages.now in
    parted_done _ c.loop-message.out _ (drop_all c.loop-message.message-index messages c.loop-message-test.false) c.loop-message.invariant
