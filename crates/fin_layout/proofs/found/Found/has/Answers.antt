use Rattle.fin_layout.proofs.found.Found.has.Goals as goal

pub returns-then-place-lt-NOTED : goal.returns-then-place-lt-NOTED
returns-then-place-lt-NOTED c = rw (← c.self.view_is) (c.self.invariant.noted c.args.place c.if-place-lt-NOTED.true)
