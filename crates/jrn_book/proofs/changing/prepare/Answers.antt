use Rattle.std.proofs.Common.{◌≡◌, ◌∙◌, None, rules, sym}
use Rattle.jrn_book.proofs.Refused.{number_fits}
use Rattle.jrn_book.proofs.changing.prepare.Goals as goal

pub frame_with-requires-clause-number : goal.frame_with-requires-clause-number
frame_with-requires-clause-number c =
    let none : c.refusal.result ≡ None = search rules in
    number_fits c.args.past.now.accounts c.args.past.now.history c.args.what.now c.accounts.ensures.sound.rows.apart c.requires.form (sym c.refusal.ensures ∙ none)
