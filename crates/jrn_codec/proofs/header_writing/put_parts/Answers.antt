use Rattle.jrn_codec.proofs.HeadWriting.{all_formed}
use Rattle.jrn_codec.proofs.header_writing.put_parts.Goals as goal

pub put_accounts-requires : goal.put_accounts-requires
put_accounts-requires c = all_formed c.args.a.now c.first-accounts.result.now c.first-accounts.ensures.value c.first-accounts.ensures.sound
