use Rattle.std.proofs.Common.{ℕ, ◌+◌, ◌∙◌, ap, sym}
use Rattle.jrn_codec.proofs.Lengths.{leg_long}
use Rattle.jrn_codec.proofs.length.leg_len.Goals as goal

pub returns-clause-len : goal.returns-clause-len
returns-clause-len c = ap (λ (n : ℕ). 11 + n) c.quote_len.ensures.len ∙ sym (leg_long c.args.leg.now)
