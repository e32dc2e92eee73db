use Rattle.advices.proofs.laws.Sendable.{fields-are-text}
use Rattle.advices.proofs.sending.put_message.Goals as goal

pub put_blocks-requires-clause-text : goal.put_blocks-requires-clause-text
put_blocks-requires-clause-text c = rw (c.bytes.ensures, c.in_ok-text.ensures.text) (fields-are-text c.args.fields.now c.requires.fit)
