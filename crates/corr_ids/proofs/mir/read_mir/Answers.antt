use Rattle.std.proofs.Common.{◌≡◌, true}
use Rattle.corr_ids.proofs.laws.Spelling.{lt-again, mir-sender}
use Rattle.corr_ids.specs.Mir.{is_mir, sender_text}
use Rattle.corr_ids.proofs.mir.read_mir.Goals as goal

pub returns-clause-sender : goal.returns-clause-sender
returns-clause-sender c =
    let form : is_mir c.args.b.now ≡ true = cc in
    rw c.copy_from_slice.ensures.after (lt-again (sender_text c.args.b.now) (mir-sender c.args.b.now form))
