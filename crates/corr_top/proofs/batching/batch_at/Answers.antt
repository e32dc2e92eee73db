use Rattle.std.proofs.Common.{◌∙◌, length}
use Rattle.corr_top.proofs.OwnedBatches.{stretch_in, stretch_same}
use Rattle.corr_top.proofs.batching.batch_at.Goals as goal

pub new-requires-clause-within : goal.new-requires-clause-within
new-requires-clause-within g c =
    let stretch = c.stretch_of-begin in
    let past = stretch.ensures.within (length c.args.file.now) c.requires.within in
    stretch_in c.args.file.now c.in_ok-text.text c.args.at.now c.put_places.new.places.items stretch.result.0 stretch.result.1 c.in_ok-text.ensures past c.put_places.ensures
    stretch.ensures.each c.requires.short

pub returns : goal.returns
returns g c =
    let stretch = c.stretch_of-begin in
    let past = stretch.ensures.within (length c.args.file.now) c.requires.within in
    c.new.ensures ∙ stretch_same c.args.file.now c.in_ok-text.text c.args.at.now c.put_places.new.places.items stretch.result.0 stretch.result.1 c.in_ok-text.ensures past c.put_places.ensures
    stretch.ensures.each
