-- The command `trial`: a generated day, run over a journal in memory.
use Rattle.std.specs.Prelude.{◌≡◌, ℕ, List, [], All, length, map}
use Rattle.corr_report.specs.Generated.{generated_texts}
use Rattle.corr_report.specs.Summary.{summary_of}
use Rattle.day_model.specs.declared.entry.Entry.{Entry}
use Rattle.day_model.specs.declared.entry.Outcome.TheVariants.{Booked}
use Rattle.day_model.specs.declared.pay.Pay.{Pay}
use Rattle.day_model.specs.Chart.{Chart}
use Rattle.day_model.specs.Next.{fold_of}
use Rattle.ref_tables.specs.Accounts.{account_of}
use Rattle.ref_tables.specs.Rows.{rows_of}
use Rattle.ref_tables.specs.Seen.{Tables}
use Rattle.ref_tables.specs.Tables.{tables_of}
use Rattle.ssi_versions.specs.Rows.{instruction_of}
use Rattle.corr_top.specs.declared.directory.Directory.{Directory}
use Rattle.corr_top.specs.Inputs.{opened}
use Rattle.corr_top.specs.Meaning.{Meaning}
use Rattle.corr_top.specs.Message.{pays_in, readings_of}
use Rattle.corr_top.specs.Samples.{sample_accounts, sample_bics, sample_ccys, sample_countries, sample_day, sample_home, sample_ssi}

-- the tables of the sample bank
abbrev pub sample_tables : Tables
sample_tables = tables_of sample_bics sample_ccys sample_countries

-- what messages are judged, routed and charged by: nothing is charged
unfoldable pub sample_directory : Directory
sample_directory = record { tables = sample_tables; ssi = map instruction_of (rows_of sample_ssi); charges = [] }

-- the accounts of its book, which no change came to
unfoldable pub sample_chart : Chart
sample_chart = record { home = sample_home; first = map opened (map (account_of sample_tables) (rows_of sample_accounts)); changes = [] }

-- the pays that the messages of a generated day ask for, in their order
abbrev pub trial_pays : ℕ → ℕ → List Pay
trial_pays count seed = pays_in (readings_of sample_directory sample_chart (generated_texts count seed))

-- the history that one thread makes of them over a new journal
abbrev pub trial_history : ℕ → ℕ → List Entry
trial_history count seed = fold_of sample_chart [] (trial_pays count seed) sample_day

-- the report: its summary
unfoldable pub trial_report : ℕ → ℕ → List ℕ
trial_report count seed = summary_of sample_chart (trial_history count seed)

-- an entry is booked
abbrev pub IsBooked : Entry → Type 0
IsBooked e = e.outcome ≡ Booked

-- one thread makes an entry for each of so many messages, and books it
pub record BooksEach (count seed : ℕ) : Type 0 where
  pub each : length (trial_history count seed) ≡ count
  pub booked : All IsBooked (trial_history count seed)

-- it reads nothing and leaves the disk, whatever the number of workers; each message of the day is booked
abbrev pub trial_meaning : ℕ → ℕ → Meaning
trial_meaning count seed = record {
  is_for = λ i. Unit {0};
  steps = [];
  report = λ i. trial_report count seed;
  out = λ i. [];
  valid = λ i. BooksEach count seed;
  leaves = λ D disk old new i. new ≡ old;
}
