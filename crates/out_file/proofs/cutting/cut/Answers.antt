use Rattle.std.proofs.Common.{◌∙◌, sym}
use Rattle.out_file.proofs.Pieces.{cut_first, cut_none}
use Rattle.out_file.proofs.cutting.cut.Goals as goal

pub returns-in_err-at-clause-none : goal.returns-in_err-at-clause-none
returns-in_err-at-clause-none c = λ none. cut_none c.args.bytes.now (sym c.dollar.ensures ∙ c.in_err-at.was)

pub returns-clause-first : goal.returns-clause-first
returns-clause-first c =
    let first = cut_first c.args.bytes.now c.in_ok-at.at (sym c.dollar.ensures ∙ c.in_ok-at.was) in
    rw (c.split_at.ensures.front, c.split_at.ensures.back) first
