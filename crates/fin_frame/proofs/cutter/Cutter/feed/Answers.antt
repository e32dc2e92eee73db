use Rattle.std.proofs.Common.{refl, ◌∙◌}
use Rattle.fin_frame.proofs.Feeding.{fed-ok, fed-err, fed-again}
use Rattle.fin_frame.proofs.cutter.Cutter.feed.Goals as goal

pub returns-in-Some-clause-fed : goal.returns-in-Some-clause-fed
returns-in-Some-clause-fed c fed given was = fed-again c.in-Some.fault c.args.self.now c.args.out.now fed given c.args.piece.now was c.in-Some.is

pub returns-in-Ok-clause-fed : goal.returns-in-Ok-clause-fed
returns-in-Ok-clause-fed c fed given was =
    fed-ok c.args.self.now c.take_all.new.self c.args.out.now c.take_all.new.out fed given c.args.piece.now was c.in_default.is
    (c.in-Ok.ensures.failed ∙ c.in_default.is) c.in-Ok.ensures.took

pub returns-in-Err-clause-fed : goal.returns-in-Err-clause-fed
returns-in-Err-clause-fed c fed given was =
    fed-err c.in-Err.fault c.args.self.now c.take_all.new.self _ c.args.out.now c.take_all.new.out fed given c.args.piece.now was c.in_default.is
    (λ x. refl) c.in-Err.ensures.took
