use Rattle.std.proofs.Common.{◌++◌, ◌∙◌, ap}
use Rattle.std.proofs.lemmas.Result.{on_ok_weaker}
use Rattle.corr_top.specs.Out.{parted_all}
use Rattle.corr_top.proofs.Printing.{shows}
use Rattle.corr_top.proofs.statements.push_pages.Goals as goal

pub pages_for-requires : goal.pages_for-requires
pages_for-requires c =
    let may = c.requires.index in
    record { has = record { is = may.is; listed = c.requires.listed }; shaped = may.shaped; home = may.home; century = may.century }

pub returns : goal.returns
returns c = on_ok_weaker c.push_parted.result (λ added.
    shows c.args.owners c.args.a.now c.args.h.now.entries c.args.day c.args.n.0 c.get.result.now c.get.ensures.value _ _ (c.if-get-letter.false ∙ c.letter.ensures)
    (added ∙ ap (λ texts. c.args.out.now ++ parted_all texts) (c.as_slice-2.ensures ∙ c.in_ok-pages_for.ensures.value))
    c.in_ok-pages_for.ensures.valid) c.push_parted.ensures
