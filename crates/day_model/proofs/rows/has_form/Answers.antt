use Rattle.std.proofs.Common.{sym, ◌∙◌}
use Rattle.day_model.proofs.Testing.{formed, formed_passes}
use Rattle.day_model.proofs.rows.has_form.Goals as goal

pub returns-clause-sound : goal.returns-clause-sound
returns-clause-sound c = λ e. formed c.args.a.now (sym c.has_columns.ensures ∙ e)

pub returns-clause-complete : goal.returns-clause-complete
returns-clause-complete c = λ form. c.has_columns.ensures ∙ formed_passes c.args.a.now form
