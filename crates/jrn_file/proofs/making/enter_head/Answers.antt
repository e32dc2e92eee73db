use Rattle.std.proofs.lemmas.Result.{on_ok_weaker}
use Rattle.corr_disk.proofs.laws.Moments.{weaker}
use Rattle.jrn_file.specs.Making.{IsUnmadeOrMade}
use Rattle.jrn_file.specs.Journal.{record_in}
use Rattle.jrn_file.proofs.Head.{entering-head, entered-head, written-head}
use Rattle.jrn_file.proofs.making.enter_head.Goals as goal

pub returns-clause-made : goal.returns-clause-made
returns-clause-made g c honest =
    on_ok_weaker c.enter.result (entered-head _ (c.requires.closed honest) _ c.requires.frame _) (c.enter.ensures.entered honest)

pub returns-clause-bytes : goal.returns-clause-bytes
returns-clause-bytes g c honest =
    on_ok_weaker c.enter.result (written-head _ (c.requires.closed honest) _ c.requires.frame _) (c.enter.ensures.entered honest)

pub returns-clause-any_moment : goal.returns-clause-any_moment
returns-clause-any_moment g c honest only =
    let D = g.D.Disk in
    weaker D.moment D.left_since _ _ _ (IsUnmadeOrMade (record_in c.args.frame.now))
    (entering-head _ (c.requires.closed honest) _ c.requires.frame)
    (c.enter.ensures.any_moment honest only)
