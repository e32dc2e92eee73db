use Rattle.std.proofs.Common.{ap, ◌∙◌}
use Rattle.mt940_out.specs.Notes.{transfer_fields}
use Rattle.mt940_out.proofs.Told.{told-ok}
use Rattle.mt940_out.proofs.note.note_of.Goals as goal

pub returns-clause-fit : goal.returns-clause-fit
returns-clause-fit c =
    let mt = c.args.pay.now.mt in
    told-ok mt c.in_ok-fields.fields c.transfer_fields.result.now c.note_in.result c.in_ok-fields.ensures.fit
    (c.transfer_fields.ensures ∙ ap (transfer_fields mt) c.as_slice.ensures) c.note_in.ensures
