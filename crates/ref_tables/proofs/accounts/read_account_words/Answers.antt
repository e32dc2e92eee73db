use Rattle.std.proofs.Common.{[]}
use Rattle.ref_tables.specs.Rows.{cells_of}
use Rattle.ref_tables.proofs.Standing.{row-is-account}
use Rattle.ref_tables.proofs.accounts.read_account_words.Goals as goal

pub returns-in-Ok-clause-account : goal.returns-in-Ok-clause-account
returns-in-Ok-clause-account c =
    let is = c.in-Ok.ensures.value in
    rw is (row-is-account c.args.home.now.head c.args.t.now [] (cells_of c.args.words.now) c.in-Ok.ensures.sound (rw is at c.in-Ok.ensures.few))
