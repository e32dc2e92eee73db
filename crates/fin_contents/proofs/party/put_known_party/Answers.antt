use Rattle.std.proofs.Common.{refl}
use Rattle.fin_parties.proofs.laws.Again.{letter-kept, party-fit}
use Rattle.fin_contents.proofs.laws.Again.{known_party-again, party-of-known}
use Rattle.fin_contents.proofs.laws.Steps.{field-written}
use Rattle.fin_contents.proofs.party.put_known_party.Goals as goal

pub returns-clause-again : goal.returns-clause-again
returns-clause-again c = field-written c.put_party.result _ _ _ c.put_party.ensures.field refl (λ t read tag e. rw (← tag) (known_party-again t read c.args.p.now e))

pub returns-clause-letter : goal.returns-clause-letter
returns-clause-letter c =
    field-written c.put_party.result _ _ _ c.put_party.ensures.field refl (λ t read tag e. rw (← tag) (letter-kept read c.args.p.now (party-of-known t read c.args.p.now e).0))

pub returns-clause-fit : goal.returns-clause-fit
returns-clause-fit c =
    field-written c.put_party.result _ _ _ c.put_party.ensures.field refl (λ t read tag e is. rw (← tag) (party-fit read c.args.p.now (party-of-known t read c.args.p.now e).0 is))
