use Rattle.std.proofs.Common.{Some, refl, ap}
use Rattle.fin_frame.proofs.Resuming.{gap-resumed, lead-resumed}
use Rattle.fin_frame.proofs.cutter.Cutter.resumed.Goals as goal

pub returns-then-pieces-clause-fed : goal.returns-then-pieces-clause-fed
returns-then-pieces-clause-fed c = λ file messages t. gap-resumed c.args.pieces.now _ file messages t c.if-pieces.true refl refl refl refl refl

pub returns-clause-fed : goal.returns-clause-fed
returns-clause-fed c = λ file messages t.
    lead-resumed c.args.pieces.now _ file c.args.piece.now messages t (c.requires.led c.if-pieces.false) refl
    (ap (λ x. Some x) c.in_ok-first.ensures) refl refl refl
