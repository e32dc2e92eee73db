use Rattle.fin_layout.proofs.found.takes_any.Goals as goal

pub returns-then-last-lt-NOTED : goal.returns-then-last-lt-NOTED
returns-then-last-lt-NOTED c = rw (← c.found.view_is) (c.any_noted.ensures c.found.inside.places.items c.found.invariant)
