use Rattle.calls_files.proofs.files.open.Goals as goal

pub returns-in-Ok : goal.returns-in-Ok
returns-in-Ok g c =
    let opened = c.in-Ok.ensures.opened in
    (opened.head, opened.records, opened.settled)
