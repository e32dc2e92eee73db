use Rattle.std.proofs.Common.{sym}
use Rattle.corr_books.proofs.Taken.{none_taken, last_left, one_taken}
use Rattle.corr_books.proofs.taking.take_all.Goals as goal

pub loop-pass-init : goal.loop-pass-init
loop-pass-init c = none_taken c.args.writer.now c.args.passes.items c.requires.back

pub join-requires-clause-pass : goal.join-requires-clause-pass
join-requires-clause-pass c =
    sym (c.requires.passes _ c.in-Some.pass (last_left c.args.writer.now c.loop-pass.writer c.args.passes.items c.loop-pass.passes.items c.pop.new.self.items c.in-Some.pass c.loop-pass.invariant c.in-Some.ensures.items))

pub loop-pass-preserved : goal.loop-pass-preserved
loop-pass-preserved c =
    let j = c.join.ensures in
    one_taken c.args.writer.now c.loop-pass.writer c.join.new.self c.args.passes.items c.loop-pass.passes.items c.pop.new.self.items c.in-Some.pass c.loop-pass.invariant c.in-Some.ensures.items c.requires.owed
    j.same j.known j.owed j.back j.mark j.places
