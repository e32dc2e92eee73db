use Rattle.std.proofs.Common.{ℕ, List, sym, ap, ◌∙◌, subst}
use Rattle.std.specs.Prelude.{All}
use Rattle.std.proofs.lemmas.Result.{IfOk-weaker}
use Rattle.mt950.specs.Writing.{fields_950}
use Rattle.mt940_out.specs.Page.{mt940_of}
use Rattle.mt940_out.specs.Writing.{with_notes}
use Rattle.mt940_out.specs.inner.Writing.{IsNote}
use Rattle.mt940_out.proofs.Rounds.{fields-without, notes-are, page-kept, read-again}
use Rattle.mt940_out.proofs.writing.put_mt940.Goals as goal

pub put_noted-requires-clause-readable : goal.put_noted-requires-clause-readable
put_noted-requires-clause-readable c = page-kept c.args.p.now c.requires

pub put_noted-requires-clause-notes : goal.put_noted-requires-clause-notes
put_noted-requires-clause-notes c = subst (All IsNote) (sym c.as_slice.ensures) (notes-are c.args.p.now c.requires)

pub returns-clause-beside : goal.returns-clause-beside
returns-clause-beside c = fields-without c.args.p.now

pub returns-clause-again : goal.returns-clause-again
returns-clause-again c =
    let p = c.args.p.now in
    IfOk-weaker c.put_noted.result _ _ (λ text back. λ t fs e.
    ap (mt940_of t) (back ∙ ap (λ (notes : List (List (List ℕ))). with_notes notes (fields_950 p.page)) c.as_slice.ensures) ∙ read-again p c.requires t fs e) c.put_noted.ensures.back
