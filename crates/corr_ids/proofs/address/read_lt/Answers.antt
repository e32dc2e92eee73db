use Rattle.std.proofs.Common.{◌≡◌, true}
use Rattle.corr_ids.specs.Address.{is_lt}
use Rattle.corr_ids.proofs.laws.Spelling.{lt-bank}
use Rattle.corr_ids.proofs.address.read_lt.Goals as goal

pub returns-clause-bank : goal.returns-clause-bank
returns-clause-bank c =
    let form : is_lt c.args.b.now ≡ true = cc in
    rw c.address.ensures (lt-bank c.args.b.now form)
