use Rattle.std.proofs.Common.{◌≡◌, ◌∙◌, subst}
use Rattle.std.specs.Prelude.{All, filter}
use Rattle.std.specs.Option.{option_copied}
use Rattle.ssi_versions.specs.Instruction.{is_in_force, naming}
use Rattle.ssi_versions.specs.InstructionList.{IsInForm}
use Rattle.ssi_versions.proofs.Found.{found-in-form}
use Rattle.ssi_versions.proofs.Entering.{asked_in_order}
use Rattle.ssi_versions.proofs.ssi.Ssi.naming.Goals as goal

row : (c : goal.After-row_at) → option_copied c.row_at.result ≡ naming c.args.bank.now (filter (is_in_force c.args.ccy c.args.day) c.args.self.now)
row c =
    let rows : c.as_slice-rows.result.now ≡ c.args.self.now = c.as_slice-rows.ensures.value ∙ c.self.view_is in
    let place = rw rows at c.first_in_force-at.ensures in
    let row = rw (rows, place) at c.row_at.ensures in
    row ∙ asked_in_order c.args.ccy c.args.bank.now c.args.day c.args.self.now c.places.result.now c.places.ensures.order c.places.ensures.all

pub returns-clause-row : goal.returns-clause-row
returns-clause-row c = row c

pub returns-clause-form : goal.returns-clause-form
returns-clause-form c =
    let form : All IsInForm c.args.self.now = subst (All IsInForm) c.self.view_is c.self.invariant.form in
    found-in-form c.args.ccy c.args.bank.now c.args.day c.args.self.now c.row_at.result form (row c)
