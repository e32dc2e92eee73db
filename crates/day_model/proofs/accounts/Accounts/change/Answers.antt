use Rattle.std.proofs.Common.{◌≡◌, ℕ, List, [], ◌∷◌, ◌++◌, ap, ◌∙◌, length, subst, sym}
use Rattle.day_model.specs.declared.account.Account.{Account}
use Rattle.day_model.specs.declared.change.Change.{Change}
use Rattle.day_model.specs.Chart.{Chart, accounts_of, with_change}
use Rattle.day_model.specs.Legal.{IsLegal}
use Rattle.day_model.specs.inner.Legal.{CanMake}
use Rattle.day_model.proofs.laws.Changing.{can_make, keeps_with_change, last_change}
use Rattle.day_model.proofs.accounts.Accounts.change.Goals as goal

pub change-requires : goal.change-requires
change-requires c =
    let chart : Chart = record { home = c.self.inside.home; first = c.self.inside.first; changes = c.self.inside.changes.items } in
    let entries = c.args.h.now.entries in
    let what = c.args.what in
    let legal : IsLegal (with_change chart (length entries) what) entries =
    subst (λ (x : Chart). IsLegal (with_change x (length entries) what) entries) (sym c.self.view_is) c.requires in
    subst (λ (rows : List Account). CanMake rows what) (sym c.self.invariant.rows_are)
    (can_make (accounts_of chart) _ what (last_change chart entries (length entries) what legal))

pub invariant_of-self-2 : goal.invariant_of-self-2
invariant_of-self-2 c =
    let chart : Chart = record { home = c.self.inside.home; first = c.self.inside.first; changes = c.self.inside.changes.items } in
    let entries = c.args.h.now.entries in
    let what = c.args.what in
    let legal : IsLegal (with_change chart (length entries) what) entries =
    subst (λ (x : Chart). IsLegal (with_change x (length entries) what) entries) (sym c.self.view_is) c.requires in
    let changes : c.push_reserved.new.self.items ≡ chart.changes ++ record { after = length entries; what = what } ∷ [] =
    c.push_reserved.ensures.items
    ∙ ap (λ (cs : List Change). cs ++ record { after = c.len-after.result; what = what } ∷ []) c.reserve.ensures.items
    ∙ ap (λ (n : ℕ). chart.changes ++ record { after = n; what = what } ∷ []) c.len-after.ensures.count in
    keeps_with_change chart entries (length entries) what c.self.inside.rows c.change.new.self c.push_reserved.new.self.items c.self.invariant legal
    c.in_ok-change.ensures.ok changes
