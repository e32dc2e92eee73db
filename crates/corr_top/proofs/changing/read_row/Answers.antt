use Rattle.std.proofs.Common.{◌≡◌, ◌∷◌, [], List, ℕ, subst, sym}
use Rattle.std.specs.Prelude.{codes, option_map}
use Rattle.ref_tables.specs.declared.fault.TableName.TheVariants as names
use Rattle.ref_tables.specs.Accounts.{account_fault}
use Rattle.ref_tables.specs.Refusals.{Tells, named}
use Rattle.corr_top.specs.declared.status.Status.{Status}
use Rattle.corr_top.specs.Changed.{cells_in}
use Rattle.corr_top.specs.inner.Changed.{IsRowRefused}
use Rattle.corr_top.proofs.AccountChanges.{row_told}
use Rattle.corr_top.proofs.changing.read_row.Goals as goal

pub returns-in-Err-clause-refused : goal.returns-in-Err-clause-refused
returns-in-Err-clause-refused c =
    let home = c.args.home.now.head in
    let known = c.args.known.now in
    let words = c.args.words.now in
    let zero : List ℕ = codes "0" in
    let cells : c.bytes.result.now ∷ c.bytes-2.result.now ∷ c.bytes-3.result.now ∷ c.bytes-4.result.now ∷ c.bytes-5.result.now ∷ c.bytes-6.result.now ∷ zero ∷ [] ≡ cells_in words =
    λ k. c.bytes.ensures k ∷ c.bytes-2.ensures k ∷ c.bytes-3.ensures k ∷ c.bytes-4.ensures k ∷ c.bytes-5.ensures k ∷ c.bytes-6.ensures k ∷ zero ∷ [] in
    let told = subst (λ (row : List (List ℕ)). Tells (named names.Accounts (option_map (λ w. (1, w)) (account_fault home known [] row))) c.in-Err.fault) cells c.in-Err.ensures.bad in
    let fault = account_fault home known [] (cells_in words) in
    subst (λ (s : Status). IsRowRefused fault s) (sym c.row_status.ensures) (row_told fault c.in-Err.fault told)
