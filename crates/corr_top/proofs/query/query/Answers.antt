use Rattle.std.proofs.Common.{refl}
use Rattle.corr_top.proofs.Asking.{query_texts}
use Rattle.corr_top.proofs.query.query.Goals as goal

pub returns-clause-texts : goal.returns-clause-texts
returns-clause-texts g c = query_texts g.S.Source g.D.Disk c.args.asked c.args.room _ _ c.ask-disk.ensures.gives refl
