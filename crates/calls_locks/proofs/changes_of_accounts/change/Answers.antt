use Rattle.std.proofs.Common.{◌≡◌, ◌≤◌, ◌∙◌, ℤ, List, length, of_z, subst, sym, to_z, w64}
use Rattle.std.specs.Prelude.{◌↔◌, IsNone}
use Rattle.std.proofs.lemmas.Int.{to_z-of_z}
use Rattle.day_model.specs.declared.change.Change.{Change}
use Rattle.day_model.specs.Chart.{Chart, accounts_of, with_change}
use Rattle.day_model.specs.Legal.{IsLegal, IsLegalChange}
use Rattle.calls_locks.proofs.Entering.{may_change}
use Rattle.calls_locks.proofs.changes_of_accounts.change.Goals as goal

pub change-requires : goal.change-requires
change-requires c =
    let chart : Chart = c.args.a.now in
    let held : to_z w64 (of_z w64 c.args.balance) ≡ c.args.balance = to_z-of_z w64 c.args.balance (record { sfits = c.ranges.balance.sfits }) in
    let few : length chart.changes ≤ 9 = subst (λ (cs : List Change). length cs ≤ 9) c.changes.ensures c.if-changes-gt9.false in
    let only : IsNone c.refuses.result ↔ IsLegalChange (accounts_of chart) c.args.balance c.args.what =
    subst (λ (z : ℤ). IsNone c.refuses.result ↔ IsLegalChange (accounts_of chart) z c.args.what) held (c.refuses.ensures.legal c.requires.form) in
    may_change chart c.args.h.now.entries c.args.what c.args.balance c.refuses.result c.requires.legal few c.requires.named only
    (sym c.is_some.ensures ∙ c.if-is_some.false)

pub returns : goal.returns
returns c =
    let chart : Chart = c.args.a.now in
    let held : to_z w64 (of_z w64 c.args.balance) ≡ c.args.balance = to_z-of_z w64 c.args.balance (record { sfits = c.ranges.balance.sfits }) in
    let few : length chart.changes ≤ 9 = subst (λ (cs : List Change). length cs ≤ 9) c.changes.ensures c.if-changes-gt9.false in
    let only : IsNone c.refuses.result ↔ IsLegalChange (accounts_of chart) c.args.balance c.args.what =
    subst (λ (z : ℤ). IsNone c.refuses.result ↔ IsLegalChange (accounts_of chart) z c.args.what) held (c.refuses.ensures.legal c.requires.form) in
    let legal : IsLegal (with_change chart (length c.args.h.now.entries) c.args.what) c.args.h.now.entries =
    may_change chart c.args.h.now.entries c.args.what c.args.balance c.refuses.result c.requires.legal few c.requires.named only
    (sym c.is_some.ensures ∙ c.if-is_some.false) in
    subst (λ (x : Chart). IsLegal x c.args.h.now.entries) (sym c.in_ok-change.ensures.ok) legal
