use Rattle.std.proofs.Common.{None, Some, refl, sym}
use Rattle.corr_top.proofs.CarriedOver.{migrate_texts, no_second}
use Rattle.corr_top.proofs.migrating.migrate.Goals.{in-Some, in-None}
use Rattle.corr_top.proofs.migrating.migrate.Goals as goal

pub returns-clause-texts : goal.returns-clause-texts
returns-clause-texts g c = elim c.match-disk2.branch [
  | in-Some w ↦
      let new = record c.args.room { disk = w.carry-disk.result.0; disk2 = Some w.carry-disk.result.1 } in
      rw w.disk-is (migrate_texts g.S.Source g.D.Disk c.args.room new (record { tables = refl; messages = refl; received = refl; sent = refl; report = refl; out = refl }) w.in-Some.second w.carry-disk.result.1 w.in-Some.is refl
      w.carry-disk.result.2 w.carry-disk.ensures.gives)
  | in-None w ↦
      let new = record c.args.room { disk2 = None } in
      rw w.disk-is (no_second g.S.Source g.D.Disk c.args.room new (record { tables = refl; messages = refl; received = refl; sent = refl; report = refl; out = refl }) refl w.in-None.is (sym w.in-None.is))
]
