use Rattle.ref_tables.specs.Accounts.{account_fault, account_of}
use Rattle.ref_tables.specs.Refusals.{against}
use Rattle.ref_tables.proofs.laws.Entered.{first_fault-some}
use Rattle.ref_tables.proofs.Standing.{read-are-accounts}
use Rattle.ref_tables.proofs.accounts.read_accounts.Goals as goal

pub returns-in-Some-clause-accounts : goal.returns-in-Some-clause-accounts
returns-in-Some-clause-accounts c =
    let read = rw c.in-Some.is at c.in_ok-rows.ensures in
    read-are-accounts (λ v. v.items) c.args.home.now.head c.args.t.now c.args.file.now _ c.enter_rows.result (rw (← c.as_slice.ensures.value) at read) c.enter_rows.ensures.ok

pub returns-in-Some-clause-bad : goal.returns-in-Some-clause-bad
returns-in-Some-clause-bad c =
    let read = rw c.in-Some.is at c.in_ok-rows.ensures in
    let same = first_fault-some 1000 (against (account_of c.args.t.now) (account_fault c.args.home.now.head c.args.t.now)) c.args.file.now _ read in
    rw (same, ← c.as_slice.ensures.value) c.enter_rows.ensures.bad
