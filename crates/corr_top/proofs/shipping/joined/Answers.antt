use Rattle.std.proofs.Common.{◌∙◌, ◌+◌, ◌++◌, ℕ, List, ap, refl, drop}
use Rattle.std.proofs.lemmas.List.{drop_all}
use Rattle.std.proofs.lemmas.Option.{slice_get_read}
use Rattle.corr_report.proofs.laws.Rests.{drop_at}
use Rattle.corr_top.proofs.JournalRecords.{joined_done, joined_more}
use Rattle.corr_top.proofs.shipping.joined.Goals as goal

pub loop-text-preserved : goal.loop-text-preserved
loop-text-preserved c =
    let texts = c.args.texts.now in
    let index = c.loop-text.text-index in
    let at = slice_get_read texts _ index c.text-item.result refl c.loop-text-test.true c.text-item.is in
    joined_more _ c.loop-text.out c.text-item.result _ (drop index texts) (drop (index + 1) texts) (drop_at texts index c.text-item.result at) c.loop-text.invariant (c.in_ok-push.ensures.ok ∙ ap (λ (t : List ℕ). c.loop-text.out ++ t) c.bytes.ensures)

pub returns : goal.returns
returns c =
    let texts = c.args.texts.now in
    joined_done _ c.loop-text.out _ (drop_all c.loop-text.text-index texts c.loop-text-test.false) c.loop-text.invariant
