use Rattle.corr_top.proofs.Initial.{made, unmade}
use Rattle.corr_top.proofs.init.make.Goals as goal

pub returns-in-Ok-clause-made : goal.returns-in-Ok-clause-made
returns-in-Ok-clause-made g c = λ chart none is.
    let e = c.in-Ok.ensures in
    made g.D.Disk c.args.disk c.in-Ok.disk c.args.head.now c.bytes.result.now chart c.bytes.ensures is none e.honest e.made e.durable e.kept (λ h first other. absurd (cc (e.exists first h other).1)) e.any_moment

pub returns-in-Err-clause-made : goal.returns-in-Err-clause-made
returns-in-Err-clause-made g c = λ chart is.
    let e = c.in-Err.ensures in
    unmade g.D.Disk c.args.disk c.in-Err.disk c.args.head.now c.bytes.result.now chart c.bytes.ensures is c.in-Err.fault e.cause e.untouched e.any_moment
