use Rattle.std.proofs.Common.{length}
use Rattle.jrn_codec.proofs.header_writing.+put_accounts.Given as goal

abbrev pub decreases-put_accounts : goal.decreases-put_accounts
decreases-put_accounts l = length l.accounts.now
