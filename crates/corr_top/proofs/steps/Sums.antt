-- The sums of the openings.
use Rattle.std.proofs.Common.{◌≡◌, refl, sym, ap, ◌∙◌, subst}
use Rattle.day_model.specs.declared.fault.AccountsFault.{AccountsFault}
use Rattle.day_model.specs.declared.fault.AccountsFault.TheVariants as accounts
use Rattle.day_model.specs.Chart.{opening_sum}
use Rattle.ref_tables.specs.declared.fault.TableName.TheVariants as names
use Rattle.corr_top.specs.declared.status.Status.TheVariants as status
use Rattle.corr_top.specs.Inputs.{Inputs, accounts_in}
use Rattle.corr_top.specs.Passing.{Balances, StopsAtSums}
use Rattle.corr_top.specs.Steps.{Step}
use Rattle.corr_top.specs.Stops.{status_of_sums}
use Rattle.corr_top.proofs.Told.{same_accounts}
use Rattle.corr_top.proofs.Walking.{walked}
use Rattle.corr_top.proofs.steps.Laws.{Agrees, IsStop, StepLaws, same_three}

sums_memory : (j i : Inputs) (stop : AccountsFault) → accounts_in j ≡ accounts_in i → Balances i → StopsAtSums j stop → status_of_sums stop ≡ status.Memory
sums_memory j i (accounts.Unbalanced ccy d n) same balanced stops = let gap = stops.0.is_gap in absurd (gap.off (sym gap.sum_is ∙ ap (opening_sum ccy) same ∙ balanced ccy))
sums_memory j i accounts.Memory same balanced stops = refl

sums_line : (i : Inputs) (stop : AccountsFault) → StopsAtSums i stop → IsStop (status_of_sums stop)
sums_line i (accounts.Unbalanced ccy decimals sum) stops = record { line = stops.1; silent = refl }
sums_line i accounts.Memory stops = record { line = tt; silent = refl }

pub of_sums : StepLaws Step.sums
of_sums = record {
  agrees = λ x ready passes. tt;
  memory = λ x s done after all ready stops.
      stops.1 ∙ sums_memory x.read x.told stops.0
      (same_accounts x.read x.told (same_three x.read x.told done after.0 all) (walked (Agrees x.read x.told) done (Step.table names.Accounts) all after.1)) ready stops.2;
  line = λ x s stops. subst IsStop (sym stops.1) (sums_line x.read stops.0 stops.2);
}
