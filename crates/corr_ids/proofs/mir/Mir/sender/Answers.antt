use Rattle.corr_ids.proofs.laws.Spelling.{lt-again, lt-bank, mir-form, mir-sender}
use Rattle.corr_ids.specs.Mir.{sender_text}
use Rattle.corr_ids.proofs.mir.Mir.sender.Goals as goal

pub returns-clause-form : goal.returns-clause-form
returns-clause-form c = λ m. let form = mir-form c.args.self.now m in rw c.address.ensures (lt-again (sender_text c.args.self.now.0) (mir-sender c.args.self.now.0 form))

pub returns-clause-bank : goal.returns-clause-bank
returns-clause-bank c = λ m. let form = mir-form c.args.self.now m in rw c.address.ensures (lt-bank (sender_text c.args.self.now.0) (mir-sender c.args.self.now.0 form))
