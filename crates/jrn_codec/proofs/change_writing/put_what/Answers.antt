use Rattle.jrn_codec.proofs.ChangeWriting.{is_new}
use Rattle.jrn_codec.proofs.Fronts.{adds, goes_on}
use Rattle.jrn_codec.proofs.change_writing.put_what.Goals as goal

pub returns-in_ok-push-in-Opened-clause-what : goal.returns-in_ok-push-in-Opened-clause-what
returns-in_ok-push-in-Opened-clause-what c =
    is_new c.args.c.now c.in-Opened.account c.put_account.result c.in-Opened.is c.requires.form c.put_account.ensures.code c.put_account.ensures.fits

pub returns-in_ok-push-in-Limits-clause-front : goal.returns-in_ok-push-in-Limits-clause-front
returns-in_ok-push-in-Limits-clause-front c =
    goes_on c.args.out.now c.push-in-Limits.new.self c.put_ends.new.out (adds c.args.out.now c.push-in-Limits.new.self _ c.in_ok-push-in-Limits.ensures.ok) c.put_ends.ensures.front
