use Rattle.std.proofs.Common.{◌≡◌, rules}
use Rattle.std.specs.Prelude.{is_none}
use Rattle.jrn_book.proofs.Refused.{legal_where_none, none_where_legal}
use Rattle.jrn_book.proofs.past.Past.is_not_refused.Goals as goal

pub returns-clause-legal : goal.returns-clause-legal
returns-clause-legal c =
    let is : c.is_none.result ≡ is_none c.refusal.result = search rules in
    legal_where_none c.args.self.now.accounts c.args.self.now.history c.args.what.now c.refusal.result c.is_none.result c.accounts.ensures.sound.rows.apart c.requires.form c.refusal.ensures is

pub returns-clause-all : goal.returns-clause-all
returns-clause-all c = λ legal.
    let is : c.is_none.result ≡ is_none c.refusal.result = search rules in
    none_where_legal c.args.self.now.accounts c.args.self.now.history c.args.what.now c.refusal.result c.is_none.result c.accounts.ensures.sound.rows.apart c.requires.form c.refusal.ensures is legal
