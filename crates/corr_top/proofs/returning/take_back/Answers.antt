use Rattle.std.proofs.Common.{◌∙◌, Err, refl, subst, sym}
use Rattle.corr_top.specs.Commands.{meaning_of}
use Rattle.corr_top.specs.inner.Ends.{HasTexts}
use Rattle.corr_top.specs.declared.status.Status.{Status}
use Rattle.corr_top.specs.declared.words.Command.TheVariants.{Return}
use Rattle.corr_top.proofs.ReturnEnds.{books_stop, return_ends, return_honest}
use Rattle.corr_top.proofs.returning.take_back.Goals as goal

pub returns-in-Err-clause-texts : goal.returns-in-Err-clause-texts
returns-in-Err-clause-texts g c =
    let e = c.in-Err.ensures in
    let new = record c.args.room { disk = c.in-Err.disk } in
    subst (λ (s : Status). HasTexts g.S.Source g.D.Disk (meaning_of (Return c.args.place c.args.day)) c.args.room new (Err s)) (sym c.from.ensures)
    (books_stop g.S.Source g.D.Disk c.args.place c.args.day c.args.room new (record { tables = refl; messages = refl; received = refl; sent = refl; disk2 = refl; report = refl; out = refl })
    c.in-Err.fault e.cause e.told e.back e.untouched)

pub returns-clause-texts : goal.returns-clause-texts
returns-clause-texts g c =
    let opened = c.in-Ok.opened in
    let e = c.in-Ok.ensures in
    let new = record c.args.room { disk = c.return_in-disk.result.0 } in
    return_ends g.S.Source g.D.Disk c.args.place c.args.day c.args.room new (record { tables = refl; messages = refl; received = refl; sent = refl; disk2 = refl; report = refl; out = refl })
    opened e.journal e.told e.latest e.opened.1 e.kept e.honest e.opened.0 e.untouched c.return_in-disk.result.1 c.return_in-disk.ensures

pub returns-clause-honest : goal.returns-clause-honest
returns-clause-honest g c =
    return_honest g.D.Disk c.in-Ok.opened c.return_in-disk.result.0 c.args.place c.args.day c.return_in-disk.result.1 c.return_in-disk.ensures ∙ c.in-Ok.ensures.honest
