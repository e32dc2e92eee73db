use Rattle.std.proofs.Common.{◌+◌, ◌-◌, length, ap, ◌∙◌, replicate}
use Rattle.std.proofs.Math.ListN.{set}
use borrow.Rule.Slice.PartMut.{put_mid}
use Rattle.reconcile.proofs.Keyed.{short-made}
use Rattle.reconcile.proofs.key.short.Goals as goal

pub returns : goal.returns
returns c c2 =
    let text = c2.args.text.now in
    ap (put_mid 1 (length text + 1 - 1) (set (replicate c.row.N 0) 0 (length text))) c2.copy_from_slice.ensures.after ∙ short-made c.row.N text c2.requires.short
