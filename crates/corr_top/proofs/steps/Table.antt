-- A table that is read.
use Rattle.std.proofs.Common.{◌≡◌, ℕ, ◌≤◌, List, length, Option, None, refl, sym, ap, ◌∙◌, subst}
use Rattle.std.proofs.lemmas.Option.{none-some}
use Rattle.corr_io.specs.declared.source.Source as sources
use Rattle.corr_ids.specs.declared.bic.Bic.{Bic}
use Rattle.ref_tables.specs.Charges.{charges_fault}
use Rattle.ref_tables.specs.Accounts.{accounts_fault}
use Rattle.ref_tables.specs.Refusals.{named}
use Rattle.ref_tables.specs.Seen.{Tables}
use Rattle.ref_tables.specs.Tables.{bics_fault, ccys_fault, countries_fault}
use Rattle.ref_tables.specs.declared.fault.TableName.{TableName}
use Rattle.ref_tables.specs.declared.fault.TableName.TheVariants as names
use Rattle.ssi_versions.specs.Rows.{ssi_fault}
use Rattle.corr_top.specs.declared.status.Status.TheVariants as status
use Rattle.corr_top.specs.declared.tables.TableStop.{TableStop}
use Rattle.corr_top.specs.declared.tables.TableStop.TheVariants as table
use Rattle.corr_top.specs.Ready.{TellsAll}
use Rattle.corr_top.specs.Inputs.{Inputs, tables_in}
use Rattle.corr_top.specs.Passing.{Bad, StopsAtTable, table_fault, table_file}
use Rattle.corr_top.specs.Steps.{Step, Walks}
use Rattle.corr_top.specs.Stops.{status_of_table}
use Rattle.corr_top.proofs.FaultCounts.{same_rose}
use Rattle.corr_top.proofs.Told.{small_table, took_whole}
use Rattle.corr_top.proofs.steps.Laws.{Agrees, IsAfter, IsStop, StepLaws, same_three}

-- a file that is told has the fault that was told, under the tables ahead of it
same_fault : (j i : Inputs) (done : List Step) (name : TableName) → j.home ≡ i.home → IsAfter i.change done (Step.table name) → Walks (Agrees j i) done → table_file name j ≡ table_file name i → table_fault name j ≡ table_fault name i
same_fault j i done names.Bics home after all own = ap (λ (f : List ℕ). named names.Bics (bics_fault f)) own
same_fault j i done names.Ccys home after all own = ap (λ (f : List ℕ). named names.Ccys (ccys_fault f)) own
same_fault j i done names.Countries home after all own = ap (λ (f : List ℕ). named names.Countries (countries_fault f)) own
same_fault j i done names.Accounts home after all own =
    ap (λ (b : Bic). named names.Accounts (accounts_fault b.head (tables_in j) j.accounts)) home
    ∙ ap (λ (t : Tables). named names.Accounts (accounts_fault i.home.head t j.accounts)) (same_three j i done after all)
    ∙ ap (λ (f : List ℕ). named names.Accounts (accounts_fault i.home.head (tables_in i) f)) own
same_fault j i done names.Ssi home after all own =
    ap (λ (t : Tables). named names.Ssi (ssi_fault t j.ssi)) (same_three j i done after all) ∙ ap (λ (f : List ℕ). named names.Ssi (ssi_fault (tables_in i) f)) own
same_fault j i done names.Charges home after all own =
    ap (λ (t : Tables). named names.Charges (charges_fault t j.charges)) (same_three j i done after all)
    ∙ ap (λ (f : List ℕ). named names.Charges (charges_fault (tables_in i) f)) own

pub table_memory : {S : Type 0} (source : sources.Ghosts S) (old new : S) (bytes meant_bytes : List ℕ) (fault meant : Option Bad) (stop : TableStop) → TellsAll source old new meant_bytes → meant ≡ None → length meant_bytes ≤ 8388608
    → (bytes ≡ meant_bytes → fault ≡ meant) → StopsAtTable source old new bytes fault stop → status_of_table stop ≡ status.Memory
table_memory source old new bytes meant_bytes fault meant (table.Fault b a) told none short same stops = absurd (told.sound (same_rose source.faults old new b a stops))
table_memory source old new bytes meant_bytes fault meant (table.Bad t r w) told none short same stops =
    absurd (none-some _ (sym (same (took_whole source.left source.faults 8388608 old new bytes meant_bytes told.told short stops.0) ∙ none) ∙ stops.1))
table_memory source old new bytes meant_bytes fault meant table.Memory told none short same stops = refl

table_line : (stop : TableStop) → IsStop (status_of_table stop)
table_line (table.Fault before after) = record { line = tt; silent = refl }
table_line (table.Bad name row why) = record { line = tt; silent = refl }
table_line table.Memory = record { line = tt; silent = refl }

pub of_table : (name : TableName) → StepLaws (Step.table name)
of_table name = record {
  agrees = λ x ready passes. took_whole x.source.left x.source.faults 8388608 _ _ (table_file name x.read) (table_file name x.told) ready.0.told (small_table name x.told ready.1) passes.took;
  memory = λ x s done after all ready stops.
      stops.1 ∙ table_memory x.source _ _ (table_file name x.read) (table_file name x.told) (table_fault name x.read) (table_fault name x.told) stops.0 ready.0 ready.1 (small_table name x.told ready.1)
      (same_fault x.read x.told done name x.home after all) stops.2;
  line = λ x s stops. subst IsStop (sym stops.1) (table_line stops.0);
}
