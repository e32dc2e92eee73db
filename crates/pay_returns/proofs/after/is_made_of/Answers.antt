use Rattle.std.proofs.Common.{sym}
use Rattle.std.proofs.lemmas.Option.{get_or_from_slice_get}
use Rattle.pay_returns.proofs.Pieces.{piece-differs, piece-fits}
use Rattle.pay_returns.proofs.after.is_made_of.Goals as goal

pub loop-k-preserved : goal.loop-k-preserved
loop-k-preserved c =
    let pieces = c.args.pieces.now in
    let piece = c.piece_at.result in
    piece-fits pieces c.loop-k.k piece c.loop-k-test.true (sym (get_or_from_slice_get pieces c.loop-k.k piece piece c.piece_at.ensures)) c.args.text.now c.loop-k.rest.now c.loop-k.invariant c.in-Some.more.now (sym c.in-Some.ensures)

pub returns-in-None : goal.returns-in-None
returns-in-None c =
    let pieces = c.args.pieces.now in
    let piece = c.piece_at.result in
    sym (piece-differs pieces c.loop-k.k piece c.loop-k-test.true (sym (get_or_from_slice_get pieces c.loop-k.k piece piece c.piece_at.ensures)) c.args.text.now c.loop-k.rest.now c.loop-k.invariant (sym c.in-None.ensures))
