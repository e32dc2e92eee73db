use Rattle.std.proofs.Common.{◌+◌, arith}
use Rattle.std.proofs.lemmas.List.{take_rest}
use Rattle.corr_text.proofs.Cutting.{cut-found, cut-missing}
use Rattle.corr_text.proofs.lines.first_line.Goals as goal

pub returns-in-Some-clause-cut : goal.returns-in-Some-clause-cut
returns-in-Some-clause-cut c =
    let cut = cut-found c.args.text.now c.in-Some.at c.in-Some.ensures in
    rw (take_rest c.args.text.now (c.in-Some.at + 1), c.without_return.ensures) cut

pub returns-in-None-clause-cut : goal.returns-in-None-clause-cut
returns-in-None-clause-cut c =
    let cut = cut-missing c.args.text.now c.requires c.in-None.ensures in
    search (arith, cut)
