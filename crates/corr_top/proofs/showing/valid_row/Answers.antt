use Rattle.std.proofs.Common.{subst}
use Rattle.fin_fields.specs.Fields.{fields_of}
use Rattle.fin_message.specs.declared.message.Message.{Message}
use Rattle.fin_message.specs.Sound.{TextSays}
use Rattle.corr_top.proofs.ShownValues.{cover-value, transfer-value}
use Rattle.corr_top.proofs.showing.valid_row.Goals as goal

pub transfer_shown-requires-clause-value : goal.transfer_shown-requires-clause-value
transfer_shown-requires-clause-value g c =
    let t = c.args.directory.now.tables in
    let read = subst (λ (m : Message). TextSays t m) c.in-Transfer.is c.requires.read in
    let is = transfer-value t c.requires.decimals (fields_of c.in-Transfer.text) c.in-Transfer.transfer read in
    (is.day, is.amount)

pub cover_shown-requires-clause-value : goal.cover_shown-requires-clause-value
cover_shown-requires-clause-value g c =
    let t = c.args.directory.now.tables in
    let read = subst (λ (m : Message). TextSays t m) c.in-Cover.is c.requires.read in
    let is = cover-value t c.requires.decimals (fields_of c.in-Cover.text) c.in-Cover.cover read in
    (is.day, is.amount)
