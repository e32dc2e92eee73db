use Rattle.std.proofs.Common.{◌≡◌, ◌-◌, ◌++◌, [], ℕ, List, length, ap, arith, refl, sym, subst, ◌∙◌, append_assoc, length-append}
use Rattle.std.proofs.lemmas.Grind.{common_steps}
use Rattle.std.proofs.lemmas.Result.{err_from_is_err_and}
use Rattle.corr_top.specs.inner.Feeding.{StopsFeeding}
use Rattle.corr_top.specs.MessageFile.{IsMessageFile}
use Rattle.corr_top.proofs.MessageFiles.{counted, cut-at-end, have-begun, parted, starts, stops-here}
use Rattle.corr_top.proofs.cutting.cut_in_pieces.Goals as goal

pub loop-rest-init : goal.loop-rest-init
loop-rest-init c = ([], refl, starts c.new-cutter.result c.new-messages.result c.new-cutter.ensures.made c.new-cutter.ensures.sound c.new-messages.ensures)

pub returns-in_err-feed_piece-clause-stopped : goal.returns-in_err-feed_piece-clause-stopped
returns-in_err-feed_piece-clause-stopped c =
    let p = err_from_is_err_and c.from_residual.result c.from_residual.ensures.1 in
    let so_far = c.loop-rest.invariant in
    let file = c.args.file.now in
    let rest = c.loop-rest.rest.now in
    let n = c.piece_len-len.result in
    let begun = c.begun.result in
    let parts = parted n rest c.split_at.result.0.now c.split_at.result.1.now c.split_at.ensures.front c.split_at.ensures.back in
    let stopped = c.in_err-feed_piece.ensures.stopped so_far.0 so_far.2 (counted so_far.0 c.split_at.result.0.now c.split_at.result.1.now rest file parts so_far.1) in
    let have = have-begun c.loop-rest.cutter so_far.0 c.loop-rest.messages begun so_far.2 (c.begun.ensures so_far.0 c.loop-rest.messages so_far.2.was) in
    let fed : length file - length rest ≡ length so_far.0 = omega (arith, ap length so_far.1, length-append so_far.0 rest) in
    rw (p.1, p.2) (stops-here c.loop-rest.cutter file so_far.0 rest n begun c.loop-rest.messages c.in_err-feed_piece.field-0.0 so_far.2 so_far.1 have
    c.piece_len-len.ensures.some (omega (arith, c.piece_len-len.ensures.fits))
    (λ long. (omega (arith, fed, c.piece_len-len.ensures.short long), c.piece_len-len.ensures.few long, c.piece_len-len.ensures.quiet long))
    (subst (λ (x : List ℕ). StopsFeeding (so_far.0 ++ x) c.in_err-feed_piece.field-0.0) c.split_at.ensures.front stopped))

pub loop-rest-preserved : goal.loop-rest-preserved
loop-rest-preserved c =
    let so_far = c.loop-rest.invariant in
    let rest = c.loop-rest.rest.now in
    let parts = parted c.piece_len-len.result rest c.split_at.result.0.now c.split_at.result.1.now c.split_at.ensures.front c.split_at.ensures.back in (
      so_far.0 ++ c.split_at.result.0.now,
      append_assoc so_far.0 c.split_at.result.0.now c.split_at.result.1.now ∙ ap (λ (x : List ℕ). so_far.0 ++ x) parts ∙ so_far.1,
      c.in_ok-feed_piece.ensures.ok so_far.0 so_far.2 (counted so_far.0 c.split_at.result.0.now c.split_at.result.1.now rest c.args.file.now parts so_far.1),
    )

pub returns-clause-ok : goal.returns-clause-ok
returns-clause-ok c =
    let so_far = c.loop-rest.invariant in
    let ended = c.in_ok-finish.ensures.ends so_far.0 c.loop-rest.messages so_far.2.was in
    let none : length c.loop-rest.rest.now ≡ 0 = grind (arith, common_steps) in
    subst (λ ms. IsMessageFile c.args.file.now ms) (sym ended.1)
    (cut-at-end c.loop-rest.cutter c.args.file.now so_far.0 c.loop-rest.rest.now c.loop-rest.messages (c.loop-rest.messages ++ ended.0) so_far.2 so_far.1 none ended.2)
