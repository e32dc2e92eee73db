use Rattle.fin_contents.proofs.laws.Again.{texts-again, texts-kept}
use Rattle.fin_contents.proofs.laws.Fit.{kept-fit}
use Rattle.fin_contents.proofs.texts.put_texts.Goals as goal

pub returns-clause-again : goal.returns-clause-again
returns-clause-again c = λ most read e. rw (c.in_ok-copy_texts.ensures) (texts-again most c.args.tag c.args.letter read c.args.lines.now e)

pub returns-clause-fit : goal.returns-clause-fit
returns-clause-fit c = λ most read e is h. rw (c.in_ok-copy_texts.ensures) (kept-fit c.args.tag c.args.letter read c.args.lines.now h (texts-kept most read c.args.lines.now e) is)
