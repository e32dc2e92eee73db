use Rattle.std.proofs.Common.{refl}
use Rattle.corr_top.proofs.AccountChanges.{limit_texts}
use Rattle.corr_top.proofs.changing.limit_with.Goals as goal

pub returns-clause-texts : goal.returns-clause-texts
returns-clause-texts g c =
    let new = record c.args.room { disk = c.limit_in-disk.result.0 } in
    limit_texts g.S.Source g.D.Disk c.args.room new c.args.id.now c.args.ends.now refl (record { messages = refl; received = refl; sent = refl; disk2 = refl; report = refl; out = refl }) c.limit_in-disk.result.1
    c.limit_in-disk.ensures.gives
