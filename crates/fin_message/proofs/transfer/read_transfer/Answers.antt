use Rattle.std.proofs.Common.{List, sym, subst}
use Rattle.corr_ids.specs.declared.envelope.Envelope.{Envelope}
use Rattle.fin_fields.specs.Fields.{fields_of}
use Rattle.fin_fields.specs.declared.field.Field.{Field}
use Rattle.fin_layout.specs.Reading.{Fills}
use Rattle.fin_message.specs.Verdict.{transfer_in}
use Rattle.fin_message.specs.inner.Verdict.{ruled_of}
use Rattle.fin_message.specs.declared.message.Message.TheVariants.{Transfer}
use Rattle.fin_message.proofs.Ruled.{carries}
use Rattle.fin_message.proofs.transfer.read_transfer.Goals as goal

pub returns : goal.returns
returns c =
    let t = c.args.t.now in
    let b = c.args.blocks.now in
    let result = c.fill_transfer.result in
    let m = c.fill_transfer.new.transfer in
    let of_fields = subst (λ (fs : List Field). Fills result m (ruled_of t c.fill_envelope.new.envelope fs)) c.requires.same c.fill_transfer.ensures.value in
    let ruled = subst (λ (envelope : Envelope). Fills result m (ruled_of t envelope (fields_of b.text))) c.fill_envelope.ensures of_fields in
    subst (λ (envelope : Envelope). Fills result (Transfer envelope b.text m) (transfer_in t b)) (sym c.fill_envelope.ensures) (carries t b result m ruled)
