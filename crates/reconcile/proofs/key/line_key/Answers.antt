use Rattle.std.proofs.Common.{◌≡◌, FitsSigned, ap, ◌∙◌, to_z, of_z, w32, w64, rules, pos, ◌-ℤ◌}
use Rattle.std.specs.Prelude.{neg_ℤ}
use Rattle.std.proofs.lemmas.Int.{to_z-of_z}
use Rattle.mt950.specs.Entry.{effect_of}
use Rattle.reconcile.specs.inner.Keys.{short_of}
use Rattle.reconcile.proofs.Bounded.{effect-turns, turned}
use Rattle.reconcile.proofs.key.line_key.Goals as goal

pub returns : goal.returns
returns c =
    let line = c.args.line.now in
    let effect_fits : FitsSigned w64 c.effect.result = search rules in
    let value_fits : FitsSigned w32 line.value.0 = search rules in
    let turned_fits : FitsSigned w64 (pos 0 -ℤ effect_of line) = effect-turns line c.requires.amount in
    let effect : to_z w64 (of_z w64 c.effect.result) ≡ effect_of line = to_z-of_z w64 c.effect.result effect_fits ∙ c.effect.ensures in
    let amount : to_z w64 (of_z w64 (pos 0 -ℤ to_z w64 (of_z w64 c.effect.result))) ≡ neg_ℤ (effect_of line) =
    ap (λ z. to_z w64 (of_z w64 (pos 0 -ℤ z))) effect ∙ to_z-of_z w64 (pos 0 -ℤ effect_of line) turned_fits ∙ turned (effect_of line) in
    let value : to_z w32 (of_z w32 line.value.0) ≡ line.value.0 = to_z-of_z w32 line.value.0 value_fits in
    let reference : c.short.result ≡ short_of 17 line.reference = c.short.ensures ∙ ap (short_of 17) c.bytes.ensures in
    λ i. record { amount = amount i; value = value i; reference = reference i }
