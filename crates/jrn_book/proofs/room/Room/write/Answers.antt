use Rattle.std.proofs.Common.{arith}
use Rattle.day_model.specs.declared.entry.Entry.{Entry}
use Rattle.jrn_book.proofs.laws.Sizes.{no_longer}
use Rattle.jrn_book.proofs.room.Room.write.Goals as goal

pub put_record-requires-clause-room : goal.put_record-requires-clause-room
put_record-requires-clause-room c =
    let e : Entry = record { pay = c.self.inside.pay; day = c.args.day; outcome = c.args.outcome } in
    omega (arith, no_longer e, c.self.invariant.2, c.record_len-len.ensures.len)

pub unwrap-requires : goal.unwrap-requires
unwrap-requires c =
    let e : Entry = record { pay = c.self.inside.pay; day = c.args.day; outcome = c.args.outcome } in
    c.push.ensures.succeeds (omega (arith, no_longer e, c.self.invariant.2, c.record_len-len.ensures.len, c.put_record.ensures.left))
