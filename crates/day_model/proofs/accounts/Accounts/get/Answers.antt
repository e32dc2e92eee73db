use Rattle.std.proofs.Common.{◌≡◌, ℕ, ◌-◌, ◌≤◌, List, get_or, length, Some, refl, ap, ◌∙◌, arith}
use Rattle.std.specs.Prelude.{slice_get}
use Rattle.std.proofs.lemmas.Option.{slice_get_read}
use Rattle.day_model.specs.declared.account.Account.{Account}
use Rattle.day_model.proofs.accounts.Accounts.get.Goals as goal

-- the item that is read stands in the list
there : (rows accounts : List Account) (n : ℕ) (item : Account) → rows ≡ accounts → (1 ≤ n) × (n ≤ length accounts) → item ≡ get_or rows (n - 1) item
    → slice_get accounts (n - 1) ≡ Some item
there rows accounts n item same within is =
    slice_get_read accounts _ (n - 1) item refl (omega (arith, within.0, within.1)) (is ∙ ap (λ xs. get_or xs (n - 1) item) same)

pub returns-clause-owner : goal.returns-clause-owner
returns-clause-owner c =
    let item = c.index-after_changes-a.result in
    let at = there c.after_changes.result.now _ c.args.a.0 item c.after_changes.ensures.value c.requires c.index-after_changes-a.is in
    (c.after_changes.ensures.sound.rows.apart.formed (c.args.a.0 - 1) item at).owner

pub returns-clause-value : goal.returns-clause-value
returns-clause-value c = there c.after_changes.result.now _ c.args.a.0 c.index-after_changes-a.result c.after_changes.ensures.value c.requires c.index-after_changes-a.is
