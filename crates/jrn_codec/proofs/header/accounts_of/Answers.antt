use Rattle.std.proofs.lemmas.Result.{err_from_is_err_and}
use Rattle.jrn_codec.specs.inner.Reading.{items_at}
use Rattle.jrn_codec.specs.inner.HeaderReading.{account_read}
use Rattle.jrn_codec.proofs.Loop.{goes_on, ends, is_done}
use Rattle.jrn_codec.proofs.header.accounts_of.Goals as goal

pub returns-in_err-account : goal.returns-in_err-account
returns-in_err-account c =
    let p = err_from_is_err_and c.from_residual.result c.from_residual.ensures.1 in
    rw (p.1, p.2) (ends account_read c.in_err-account.field-0.0 c.loop.accounts c.args.count c.loop.counter c.loop.rest.now (items_at account_read c.args.count c.args.bytes.now) c.loop-test.true c.in_err-account.ensures c.loop.invariant)

pub loop-preserved : goal.loop-preserved
loop-preserved c =
    let account = c.in_ok-account.account in
    rw c.in_ok-push.ensures.ok (goes_on account_read c.loop.accounts c.args.count c.loop.counter c.loop.rest.now account c.in_ok-account.after.now (items_at account_read c.args.count c.args.bytes.now) c.loop-test.true c.in_ok-account.ensures c.loop.invariant)

pub returns : goal.returns
returns c = is_done account_read c.loop.accounts c.args.count c.loop.counter c.loop.rest.now (items_at account_read c.args.count c.args.bytes.now) c.loop-test.false c.loop.invariant
