use Rattle.fin_parties.proofs.laws.Again.{party-again, letter-kept, party-fit}
use Rattle.fin_parties.proofs.writing.put_party.Goals as goal

pub returns-clause-again : goal.returns-clause-again
returns-clause-again c = λ f t e. rw (c.in_ok-party_lines.ensures, c.party_letter.ensures, ← t) (party-again f c.args.p.now e)

pub returns-clause-letter : goal.returns-clause-letter
returns-clause-letter c = λ f t e. rw (c.party_letter.ensures, ← t) (letter-kept f c.args.p.now e)

pub returns-clause-fit : goal.returns-clause-fit
returns-clause-fit c = λ f t e is. rw (c.in_ok-party_lines.ensures, c.party_letter.ensures, ← t) (party-fit f c.args.p.now e is)
