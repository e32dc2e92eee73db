use Rattle.std.proofs.lemmas.List.{take_rest}
use Rattle.fin_blocks.proofs.Braces.{plain-cut}
use Rattle.fin_blocks.proofs.groups.next_group_of.Goals as goal

pub returns-then-is_plain_to-clause-cut : goal.returns-then-is_plain_to-clause-cut
returns-then-is_plain_to-clause-cut c =
    let plain = c.is_plain_to.ensures c.if-is_plain_to.true in
    rw (take_rest c.args.bytes.now c.args.mostly)
    (plain-cut c.args.bytes.now c.args.mostly c.requires.two plain.0 plain.1 plain.2 plain.3)
