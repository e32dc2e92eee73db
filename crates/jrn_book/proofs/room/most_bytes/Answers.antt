use Rattle.std.proofs.Common.{pos, ap, arith, length}
use Rattle.day_model.specs.declared.entry.Outcome.TheVariants.{Unfunded}
use Rattle.jrn_codec.proofs.laws.Records.{record_within}
use Rattle.jrn_book.proofs.room.most_bytes.Goals as goal

pub returns-clause-room : goal.returns-clause-room
returns-clause-room c =
    omega (
      arith,
      record_within (record { pay = c.args.p.now; day = record { 0 = pos 3652 }; outcome = Unfunded 1 (pos 0) }) c.requires,
      ap length c.bytes.ensures,
      ap length c.as_slice.ensures,
    )
