use Rattle.std.proofs.Common.{subst}
use Rattle.corr_disk.specs.Calls.{AtMostCalls}
use Rattle.jrn_file.specs.Making.{calls_to_make_with, most_piece_bytes}
use Rattle.jrn_file.proofs.making_with.create_with.Goals as goal

pub returns-in-Ok-Some-Other-clause-no_more_calls : goal.returns-in-Ok-Some-Other-clause-no_more_calls
returns-in-Ok-Some-Other-clause-no_more_calls g c honest =
    let D = g.D.Disk in
    subst (λ n. AtMostCalls (calls_to_make_with most_piece_bytes n (D.reads c.args.disk)) (D.plan c.args.disk) (D.plan c.make_with.new.disk))
    c.size_of_journal-size.ensures (c.make_with.ensures.no_more_calls honest)

pub returns-clause-no_more_calls : goal.returns-clause-no_more_calls
returns-clause-no_more_calls g c honest =
    let D = g.D.Disk in
    subst (λ n. AtMostCalls (calls_to_make_with most_piece_bytes n (D.reads c.args.disk)) (D.plan c.args.disk) (D.plan c.make_with.new.disk))
    c.size_of_journal-size.ensures (c.make_with.ensures.no_more_calls honest)
