use Rattle.mt950.proofs.Slashes.{within}
use Rattle.mt950.proofs.parts.double_slash_in.Goals as goal

pub returns-clause-within : goal.returns-clause-within
returns-clause-within c = within c.args.rest.now c.first_double_slash.result c.first_double_slash.ensures
