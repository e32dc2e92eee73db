use Rattle.std.proofs.Common.{◌≡◌, true}
use Rattle.corr_ids.specs.Bic.{is_bic}
use Rattle.corr_ids.proofs.laws.Spelling.{bic-again}
use Rattle.corr_ids.proofs.bic.read_bic.Goals as goal

pub returns-clause-form : goal.returns-clause-form
returns-clause-form c =
    let form : is_bic c.args.b.now ≡ true = cc in
    rw (c.head.ensures, c.branch-b.ensures) (bic-again c.args.b.now form)
