-- Which messages ask for a pay.
use Rattle.std.specs.Prelude.{◌≡◌, ℕ, ◌≤◌, IfSome, List, Ok, length}
use Rattle.corr_ids.specs.Mir.{IsMir}
use Rattle.corr_ids.specs.Uetr.{IsUetr}
use Rattle.corr_ids.specs.declared.bic.Bic.{Bic}
use Rattle.corr_ids.specs.declared.envelope.Envelope.{Envelope}
use Rattle.ref_tables.specs.Seen.{Tables}
use Rattle.day_model.specs.Shape.{most_text}
use Rattle.fin_fields.specs.declared.field.Field.{Field}
use Rattle.mt103.specs.declared.message.Mt103.{Mt103}
use Rattle.mt103.specs.Message.{mt103_of}
use Rattle.mt202cov.specs.declared.message.Mt202Cov.{Mt202Cov}
use Rattle.mt202cov.specs.Message.{mt202cov_of}
use Rattle.pay_plan.specs.declared.ask.Ask.{Ask}
use Rattle.pay_plan.specs.declared.ask.Ask.TheVariants.{Transfer, Cover}
use Rattle.pay_plan.specs.Asked.{Asked, asked_of}

-- a transfer is one that its reader gives of some fields under these tables
pub record IsTransferRead (t : Tables) (m : Mt103) : Type 0 where
  pub fields : List Field
  pub read : mt103_of t fields ≡ Ok m

-- the same of a cover
pub record IsCoverRead (t : Tables) (m : Mt202Cov) : Type 0 where
  pub fields : List Field
  pub read : mt202cov_of t fields ≡ Ok m

-- the message is one that its reader gives under these tables
abbrev pub IsReadBy : Tables → Ask → Type 0
IsReadBy t (Transfer m) = IsTransferRead t m.now
IsReadBy t (Cover m) = IsCoverRead t m.now

-- under some tables
abbrev pub IsSomeReading : Ask → Type 0
IsSomeReading ask = (t : Tables) × IsReadBy t ask

-- what is asked is what a message asks of a bank, one that its reader gives
abbrev pub IsSomeAsked : Bic → Asked → Type 0
IsSomeAsked home asked = (ask : Ask) × IsSomeReading ask × (asked ≡ asked_of home ask)

-- an envelope and a text whose pay can be written down: the reference and the UETR meet their grammar, and the text is short
pub record IsWritable (env : Envelope) (text : List ℕ) : Type 0 where
  pub mir : IfSome env.mir IsMir
  pub uetr : IfSome env.uetr IsUetr
  pub short : length text ≤ most_text
