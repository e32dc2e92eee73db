use Rattle.corr_money.proofs.laws.Written.{reads_written}
use Rattle.corr_money.proofs.writing.put_15d.Goals as goal

pub returns-clause-read_back : goal.returns-clause-read_back
returns-clause-read_back c = reads_written c.args.decimals c.args.m.0 c.requires.decimals c.requires.bound
