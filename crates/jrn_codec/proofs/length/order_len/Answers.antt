use Rattle.std.proofs.Common.{ℕ, ◌+◌, ◌∙◌, ap, sym}
use Rattle.jrn_codec.proofs.Lengths.{order_length, order_long}
use Rattle.jrn_codec.proofs.length.order_len.Goals as goal

pub returns-in-Transfer-clause-len : goal.returns-in-Transfer-clause-len
returns-in-Transfer-clause-len c =
    ap (λ (n : ℕ). 13 + n) c.via_len.ensures.len ∙ sym (order_long c.requires.0 c.args.order.now c.requires.1 ∙ ap order_length c.in-Transfer.is)

pub returns-in-Cover-clause-len : goal.returns-in-Cover-clause-len
returns-in-Cover-clause-len c = sym (order_long c.requires.0 c.args.order.now c.requires.1 ∙ ap order_length c.in-Cover.is)

pub returns-in-Pass-clause-len : goal.returns-in-Pass-clause-len
returns-in-Pass-clause-len c = sym (order_long c.requires.0 c.args.order.now c.requires.1 ∙ ap order_length c.in-Pass.is)

pub returns-in-Debit-clause-len : goal.returns-in-Debit-clause-len
returns-in-Debit-clause-len c = sym (order_long c.requires.0 c.args.order.now c.requires.1 ∙ ap order_length c.in-Debit.is)

pub returns-in-Credit-clause-len : goal.returns-in-Credit-clause-len
returns-in-Credit-clause-len c = sym (order_long c.requires.0 c.args.order.now c.requires.1 ∙ ap order_length c.in-Credit.is)
