use Rattle.std.proofs.Common.{inl, refl}
use Rattle.corr_top.proofs.CarriedOver.{carried}
use Rattle.corr_top.proofs.migrating.carry.Goals as goal

pub returns-in-Ok-clause-gives : goal.returns-in-Ok-clause-gives
returns-in-Ok-clause-gives g c =
    let e = c.in-Ok.ensures in
    carried g.D.Disk c.args.disk c.in-Ok.disk c.args.second c.copy-second.result.0 c.in-Ok.accounts c.in-Ok.history.entries
    (record { journal = e.journal; stands = λ told. (e.told told).1 }) e.kept e.untouched c.copy-second.result.1 c.copy-second.ensures.gives

pub returns-in-Err-clause-gives : goal.returns-in-Err-clause-gives
returns-in-Err-clause-gives g c =
    let e = c.in-Err.ensures in
    inl (c.in-Err.fault, c.from.ensures, record { cause = e.cause; told = e.told; untouched = e.untouched }, refl)
