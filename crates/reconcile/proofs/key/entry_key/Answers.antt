use Rattle.std.proofs.Common.{◌≡◌, FitsSigned, sym, ap, ◌∙◌, to_z, of_z, w32, w64, rules}
use Rattle.std.proofs.lemmas.Int.{to_z-of_z}
use Rattle.mt950.specs.Entry.{effect_of}
use Rattle.statement.specs.Running.{line_by}
use Rattle.reconcile.specs.inner.Keys.{short_of}
use Rattle.reconcile.proofs.Sides.{as-marked}
use Rattle.reconcile.proofs.key.entry_key.Goals as goal

pub returns : goal.returns
returns c =
    let entry = c.args.entry.now in
    let amount_fits : FitsSigned w64 c.signed.result = search rules in
    let value_fits : FitsSigned w32 entry.value.0 = search rules in
    let amount : to_z w64 (of_z w64 c.signed.result) ≡ effect_of (line_by entry) = to_z-of_z w64 c.signed.result amount_fits ∙ c.signed.ensures ∙ sym (as-marked entry.side entry.returned entry.amount.0) in
    let value : to_z w32 (of_z w32 entry.value.0) ≡ entry.value.0 = to_z-of_z w32 entry.value.0 value_fits in
    let reference : c.short.result ≡ short_of 17 entry.reference = c.short.ensures ∙ ap (short_of 17) c.bytes.ensures in
    λ i. record { amount = amount i; value = value i; reference = reference i }
