use Rattle.std.proofs.Common.{sym}
use Rattle.pay_returns.proofs.Mirs.{pieces_long}
use Rattle.pay_returns.proofs.opposite.return_mir.Goals as goal

pub copy_from_slice-requires : goal.copy_from_slice-requires
copy_from_slice-requires c = rw (c.bytes.ensures, c.in_ok-push_all.ensures.ok, c.in_ok-text.ensures, c.padded.ensures) (sym (pieces_long c.args.home.now c.args.place c.requires.bank c.requires.place))
