-- What a reading means after a verdict, and what a plan means wherever its message is kept.
use Rattle.std.proofs.Common.{◌≡◌, ℕ, List, Result, Ok, Err, refl, ap, ◌∙◌, sym}
use Rattle.corr_text.specs.First.{◌>>=◌}
use Rattle.corr_text.specs.declared.fault.Code.{Code}
use Rattle.corr_ids.specs.declared.bic.Bic.{Bic}
use Rattle.corr_ids.specs.declared.envelope.Envelope.{Envelope}
use Rattle.day_model.specs.Chart.{Chart}
use Rattle.fin_message.specs.declared.message.Message.{Message}
use Rattle.fin_message.specs.Verdict.{Refused, verdict_of}
use Rattle.ssi_versions.specs.declared.row.SsiRow.{SsiRow}
use Rattle.pay_plan.specs.declared.ask.Ask.{Ask}
use Rattle.pay_plan.specs.declared.ask.Ask.TheVariants.{Cover, Transfer}
use Rattle.pay_plan.specs.declared.charging.Charged.{Charged}
use Rattle.pay_plan.specs.Asked.{Asked, asked_of}
use Rattle.pay_plan.specs.Charging.{ChargeRows}
use Rattle.pay_plan.specs.Plan.{booked, pay_of, plan_of}
use Rattle.corr_top.specs.declared.directory.Directory.{Directory}
use Rattle.corr_top.specs.inner.Asks.{unplaced}
use Rattle.corr_top.specs.Message.{pay_asked_of, pay_in, refused}

-- what a message asks for, once it is read
pub read_on : (directory : Directory) (chart : Chart) (home : Bic) (bytes : List ℕ) (message : Message) → home ≡ chart.home → verdict_of home directory.tables bytes ≡ Ok message
    → pay_asked_of directory chart bytes ≡ pay_in directory chart message
unfolding pay_asked_of
read_on directory chart home bytes message its is =
    ap (λ (v : Result Message Refused). refused v >>= λ valid. pay_in directory chart valid) (ap (λ (bank : Bic). verdict_of bank directory.tables bytes) (sym its) ∙ is)

-- where a message is kept plays no part in its plan
pub plan_unplaced : (envelope : Envelope) (text : List ℕ) (ask : Ask) (rows : List SsiRow) (charges : ChargeRows) (chart : Chart)
    → plan_of envelope text ask rows charges chart ≡ plan_of envelope text (unplaced ask) rows charges chart
unfolding plan_of
plan_unplaced envelope text (Transfer m) rows charges chart = refl
plan_unplaced envelope text (Cover m) rows charges chart = refl

-- the pay on the accounts of what is asked is its plan
pub plan_on : (envelope : Envelope) (text : List ℕ) (ask : Ask) (asked : Asked) (rows : List SsiRow) (charges : ChargeRows) (chart : Chart) (accounts : Result Charged Code) (charged : Charged)
    → asked ≡ asked_of chart.home ask → plan_of envelope text ask rows charges chart ≡ booked envelope text ask chart accounts → accounts ≡ Ok charged
    → plan_of envelope text (unplaced ask) rows charges chart ≡ Ok (pay_of envelope text asked charged chart)
plan_on envelope text ask asked rows charges chart accounts charged asked_is plan is =
    sym (plan_unplaced envelope text ask rows charges chart) ∙ plan ∙ ap (booked envelope text ask chart) is ∙ ap (λ (a : Asked). Ok (pay_of envelope text a charged chart)) (sym asked_is)

-- without accounts there is none
pub no_plan : (envelope : Envelope) (text : List ℕ) (ask : Ask) (rows : List SsiRow) (charges : ChargeRows) (chart : Chart) (accounts : Result Charged Code) (code : Code)
    → plan_of envelope text ask rows charges chart ≡ booked envelope text ask chart accounts → accounts ≡ Err code → plan_of envelope text (unplaced ask) rows charges chart ≡ Err code
no_plan envelope text ask rows charges chart accounts code plan is = sym (plan_unplaced envelope text ask rows charges chart) ∙ plan ∙ ap (booked envelope text ask chart) is
