use Rattle.std.proofs.Common.{refl, sym, ◌∙◌, subst}
use Rattle.std.specs.Prelude.{All}
use Rattle.fin_blocks.specs.Sending.{IsText, are_subblocks}
use Rattle.mt950.specs.Writing.{fields_950}
use Rattle.advices.proofs.laws.Sendable.{fields-are-text}
use Rattle.mt940_out.specs.Writing.{with_notes}
use Rattle.mt940_out.specs.inner.Writing.{IsNote}
use Rattle.mt940_out.proofs.Rounds.{page-fit}
use Rattle.mt940_out.proofs.message.customer_message.Goals as goal

pub put_blocks-requires-clause-user : goal.put_blocks-requires-clause-user
unfolding are_subblocks
put_blocks-requires-clause-user c = refl

pub put_blocks-requires-clause-text : goal.put_blocks-requires-clause-text
put_blocks-requires-clause-text c =
    let page = c.args.placed.now.page in
    let notes = c.as_slice-2.result.now in
    subst IsText (sym (c.bytes.ensures ∙ c.in_ok-text.ensures.text))
    (fields-are-text (with_notes notes (fields_950 page)) (page-fit page notes c.requires.readable (subst (All IsNote) (sym c.as_slice-2.ensures) c.in_ok-notes.ensures.fit)))
