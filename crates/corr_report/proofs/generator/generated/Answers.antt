use Rattle.corr_report.proofs.Days.{day_more, number_more}
use Rattle.corr_report.proofs.generator.generated.Goals as goal

pub loop-i-preserved : goal.loop-i-preserved
loop-i-preserved c =
    let l = c.loop-i in
    let number = number_more c.args.seed l.i l.x _ l.auto.i l.invariant.number c.next_number-x.ensures in
    record {
      written = day_more c.args.seed l.i _ _ l.out _ l.auto.i number c.minor_of.ensures.value l.invariant.written c.in_ok-put_message.ensures;
      number = number;
    }
