use Rattle.std.proofs.Common.{◌<◌, ◌^◌, arith}
use Rattle.jrn_book.proofs.Found.{few_bytes, refused_whole}
use Rattle.jrn_book.proofs.opening.open_whole.Goals as goal

pub returns-in-Err-clause-told : goal.returns-in-Err-clause-told
returns-in-Err-clause-told g c =
    let opened = c.requires.open in
    let small : c.args.file.end < 2 ^ 64 = omega (arith, c.end.ensures, c.end.type_inv) in
    refused_whole c.args.version c.args.records.now c.in-Err.fault (few_bytes opened.head opened.records c.args.records.now c.args.file.end opened.all_is opened.settled.place small) c.in-Err.ensures.fault
