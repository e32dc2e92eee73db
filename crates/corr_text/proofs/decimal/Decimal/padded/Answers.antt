use Rattle.std.proofs.Common.{arith}
use Rattle.corr_text.proofs.Padding.{last, short}
use Rattle.corr_text.proofs.decimal.Decimal.padded.Goals as goal

pub write_digits-start-requires : goal.write_digits-start-requires
write_digits-start-requires c = (short c.args.n c.ranges.n.fits, omega arith)

pub returns : goal.returns
returns c =
    let w = c.write_digits-start in
    last c.args.n c.args.width w.result c.min.result w.new.buf (omega (arith, c.ranges.width.fits)) w.ensures.start c.min.ensures w.ensures.written w.ensures.before
