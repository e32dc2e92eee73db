use Rattle.std.proofs.Common.{◌≡◌, ◌∙◌, None, ap, subst, sym}
use Rattle.day_model.specs.Chart.{Chart}
use Rattle.jrn_file.specs.File.{disk_of}
use Rattle.corr_top.specs.declared.account_words.AccountChange.TheVariants.{Open}
use Rattle.corr_top.specs.Changed.{row_fault}
use Rattle.corr_top.specs.inner.Changed.{IsRowRefused}
use Rattle.corr_top.proofs.AccountChanges.{opened_form, opened_texts, opened_what, opening_stops, refused_texts, row_home}
use Rattle.corr_top.proofs.changing.open_in.Goals as goal

pub returns-in-Err-clause-gives : goal.returns-in-Err-clause-gives
returns-in-Err-clause-gives g c =
    let e = c.in-Err.ensures in
    opening_stops g.D.Disk c.args.disk c.in-Err.disk c.args.known.now (Open c.args.words.now) c.in-Err.fault _ c.from.ensures e.cause e.told e.untouched

pub enter-requires-clause-form : goal.enter-requires-clause-form
enter-requires-clause-form g c = opened_form _ c.args.known.now c.in-Ok-read_row.row _ c.in-Ok-read_row.ensures.account c.open_account.ensures

pub returns-in-Ok-read_row-clause-gives : goal.returns-in-Ok-read_row-clause-gives
returns-in-Ok-read_row-clause-gives g c =
    let e = c.in-Ok.ensures in
    let past = c.in-Ok.opened.0 in
    let words = c.args.words.now in
    let known = c.args.known.now in
    let row = c.in-Ok-read_row in
    let home = c.home.ensures ∙ ap (λ (x : Chart). x.home) c.accounts.ensures.value in
    let fine : row_fault past.accounts known (Open words) ≡ None = sym (row_home past.accounts c.home.result.now known words home) ∙ row.ensures.sound in
    opened_texts g.D.Disk c.args.disk (disk_of c.in-Ok.opened.1) known past.accounts past.history e.journal e.told e.untouched e.kept e.honest c.enter.result.0 (Open words) _ c.enter.result.1 fine
    (opened_what known words row.row _ row.ensures.value c.open_account.ensures) c.enter.ensures.gives

pub returns-clause-gives : goal.returns-clause-gives
returns-clause-gives g c =
    let e = c.in-Ok.ensures in
    let past = c.in-Ok.opened.0 in
    let words = c.args.words.now in
    let known = c.args.known.now in
    let home = c.home.ensures ∙ ap (λ (x : Chart). x.home) c.accounts.ensures.value in
    refused_texts g.D.Disk c.args.disk (disk_of c.in-Ok.opened.1) known past.accounts past.history e.journal e.told e.untouched e.kept e.honest c.into_disk.result (Open words) c.in-Err-read_row.status c.into_disk.ensures
    (subst (λ told. IsRowRefused told c.in-Err-read_row.status) (row_home past.accounts c.home.result.now known words home) c.in-Err-read_row.ensures.refused)
