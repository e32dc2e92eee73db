use Rattle.corr_top.proofs.Routes.{read_on}
use Rattle.corr_top.proofs.message.read_message.Goals as goal

pub returns-clause-read : goal.returns-clause-read
returns-clause-read c =
    read_on c.args.directory.now c.args.accounts.now c.home.result.now c.args.b.now c.verdict_into.new.out c.home.ensures c.in_ok-verdict_into.ensures.value
