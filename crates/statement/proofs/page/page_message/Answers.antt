use Rattle.std.proofs.Common.{refl, sym, ◌∙◌, subst}
use Rattle.fin_blocks.specs.Sending.{IsText, are_subblocks}
use Rattle.mt950.specs.Writing.{fields_950}
use Rattle.mt950.proofs.laws.Pages.{fields-fit-950}
use Rattle.advices.proofs.laws.Sendable.{fields-are-text}
use Rattle.statement.proofs.page.page_message.Goals as goal

pub put_blocks-requires-clause-user : goal.put_blocks-requires-clause-user
unfolding are_subblocks
put_blocks-requires-clause-user c = refl

pub put_blocks-requires-clause-text : goal.put_blocks-requires-clause-text
put_blocks-requires-clause-text c =
    subst IsText (sym (c.bytes.ensures ∙ c.in_ok-text.ensures.text)) (fields-are-text (fields_950 c.args.page.now) (fields-fit-950 c.args.page.now c.requires.readable))
