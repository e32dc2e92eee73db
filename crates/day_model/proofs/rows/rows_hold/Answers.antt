use Rattle.std.proofs.Common.{sym, ◌∙◌}
use Rattle.day_model.proofs.Testing.{rows_sound, rows_complete}
use Rattle.day_model.proofs.rows.rows_hold.Goals as goal

pub returns-clause-sound : goal.returns-clause-sound
returns-clause-sound c = λ e. rows_sound c.args.rows.now (sym c.are_fit.ensures ∙ e)

pub returns-clause-complete : goal.returns-clause-complete
returns-clause-complete c = λ rows. c.are_fit.ensures ∙ rows_complete c.args.rows.now rows
