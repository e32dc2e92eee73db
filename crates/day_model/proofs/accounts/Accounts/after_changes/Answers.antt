use Rattle.std.proofs.Common.{◌≤◌, ◌∙◌, List, ap, length, subst, sym}
use Rattle.day_model.specs.declared.account.Account.{Account}
use Rattle.day_model.specs.Chart.{IsChart, accounts_of}
use Rattle.day_model.proofs.accounts.Accounts.after_changes.Goals as goal

pub returns-clause-value : goal.returns-clause-value
returns-clause-value c = c.as_slice.ensures ∙ c.self.invariant.rows_are ∙ ap accounts_of c.self.view_is

pub returns-clause-few : goal.returns-clause-few
returns-clause-few c =
    subst (λ (accounts : List Account). length accounts ≤ 1000) (sym (c.as_slice.ensures ∙ c.self.invariant.rows_are)) c.self.invariant.sound.rows.apart.few

pub returns-clause-sound : goal.returns-clause-sound
returns-clause-sound c = subst IsChart c.self.view_is c.self.invariant.sound
