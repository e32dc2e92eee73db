use Rattle.std.proofs.Common.{Err, refl, subst, sym}
use Rattle.corr_top.specs.declared.account_words.AccountChange.TheVariants.{Open}
use Rattle.corr_top.specs.declared.status.Status.{Status}
use Rattle.corr_top.specs.declared.words.Command.TheVariants.{Plain}
use Rattle.corr_top.specs.declared.words.Plain.TheVariants.{Change}
use Rattle.corr_top.specs.Commands.{meaning_of}
use Rattle.corr_top.specs.inner.Ends.{HasTexts}
use Rattle.corr_top.proofs.AccountChanges.{lent_stop, open_texts}
use Rattle.corr_top.proofs.changing.open_with.Goals as goal

pub returns-in-Err-clause-texts : goal.returns-in-Err-clause-texts
returns-in-Err-clause-texts g c =
    let new = record c.args.room { tables = c.read_lent.new.files } in
    subst (λ (s : Status). HasTexts g.S.Source g.D.Disk (meaning_of (Plain (Change (Open c.args.words.now)))) c.args.room new (Err s)) (sym c.from.ensures)
    (lent_stop g.S.Source g.D.Disk c.args.room new g.met.D.Disk.only_now c.args.words.now c.in-Err.stop c.in-Err.ensures.stopped (record { messages = refl; received = refl; sent = refl; disk2 = refl; report = refl; out = refl }) refl)

pub returns-clause-texts : goal.returns-clause-texts
returns-clause-texts g c =
    let new = record c.args.room { tables = c.read_lent.new.files; disk = c.open_in-disk.result.0 } in
    open_texts g.S.Source g.D.Disk c.args.room new c.args.words.now c.in-Ok.known c.in-Ok.ensures.fine (record { messages = refl; received = refl; sent = refl; disk2 = refl; report = refl; out = refl }) c.open_in-disk.result.1 c.open_in-disk.ensures.gives
