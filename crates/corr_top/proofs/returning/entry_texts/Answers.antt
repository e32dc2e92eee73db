use Rattle.std.proofs.Common.{◌-◌, ◌∙◌, ap, sym}
use Rattle.std.proofs.lemmas.Option.{same_Some}
use Rattle.day_model.proofs.laws.Fronts.{fits_now}
use Rattle.corr_top.specs.Out.{parted_all}
use Rattle.corr_top.specs.inner.Serving.{HasPayShape}
use Rattle.corr_top.proofs.Replying.{get_all}
use Rattle.corr_top.proofs.Returned.{gives_last}
use Rattle.corr_top.proofs.returning.entry_texts.Goals as goal

pub orders-requires-clause-fits : goal.orders-requires-clause-fits
orders-requires-clause-fits c = fits_now c.args.a.now c.args.h.now.entries (c.args.place - 1) c.get.result.now c.requires.legal c.get.ensures

pub orders-requires-clause-shape : goal.orders-requires-clause-shape
orders-requires-clause-shape c = get_all HasPayShape c.args.h.now.entries (c.args.place - 1) c.get.result.now c.requires.shapes c.get.ensures

pub returns : goal.returns
returns c = λ entry at.
    gives_last c.args.a.now c.args.place c.get.result.now entry _ _ _ (same_Some c.get.result.now entry (sym c.get.ensures ∙ at)) (c.in_ok-report.ensures entry at)
    (c.in_ok-out.ensures ∙ ap parted_all c.as_slice.ensures) c.in_ok-messages.ensures.value c.in_ok-messages.ensures.notices
