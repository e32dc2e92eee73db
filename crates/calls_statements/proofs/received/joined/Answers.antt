use Rattle.calls_statements.proofs.received.joined.Goals as goal

pub returns-in-Ok : goal.returns-in-Ok
returns-in-Ok c = record { pages = c.args.pages.now; read = c.requires.given; joined = c.in-Ok.ensures.joined; sound = c.in-Ok.ensures.sound }
