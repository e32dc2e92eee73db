-- The two accounts of a payment.
use Rattle.std.specs.Prelude.{ℕ, ◌==◌, ◌||◌, not, Bool, List, Option, Some, None, Result, Ok, Err, if◌then◌else◌}
use Rattle.std.specs.Option.{option_or}
use Rattle.std.specs.Str.{bytes_eq}
use Rattle.corr_text.specs.Codes.{code}
use Rattle.corr_text.specs.First.{check, or_fault, ◌>>=◌}
use Rattle.corr_text.specs.declared.fault.Code.{Code}
use Rattle.corr_ids.specs.declared.bic.Bic.{Bic}
use Rattle.corr_ids.specs.declared.day.Day.{Day}
use Rattle.corr_money.specs.declared.amount.Amount.{Amount}
use Rattle.day_model.specs.declared.account.AcctNo.{AcctNo}
use Rattle.day_model.specs.Chart.{Chart}
use Rattle.corr_ids.specs.Kinds.{nostro, vostro}
use Rattle.ssi_versions.specs.declared.method.Method.{Method}
use Rattle.ssi_versions.specs.declared.method.Method.TheVariants as method
use Rattle.ssi_versions.specs.declared.row.SsiRow.{SsiRow}
use Rattle.ssi_versions.specs.Instruction.{instruction_at}
use Rattle.routing.specs.Accounts.{account_with, account_named}
use Rattle.routing.specs.declared.cover.Cover.{Cover}
use Rattle.routing.specs.declared.cover.Cover.TheVariants as cover
use Rattle.routing.specs.declared.credit.Credit.{Credit}
use Rattle.routing.specs.declared.ledger.Wanted.TheVariants as wanted
use Rattle.routing.specs.declared.routed.Routed.{Routed}
use Rattle.routing.specs.declared.target.Target.{Target}
use Rattle.routing.specs.declared.target.Target.TheVariants as target

-- banks are compared by the heads of their BICs
abbrev pub is_bank : Bic → Bic → Bool
is_bank a b = bytes_eq a.head b.head

-- the sender's vostro account, else our nostro account with the sender
abbrev pub relation_of : Bic → Amount → Chart → Result AcctNo Code
relation_of sender amount chart = or_fault (option_or (account_with vostro sender amount chart) (account_with nostro sender amount chart)) (code "P31")

-- the sender and the home bank stand for the relation; another bank for our nostro account with it
abbrev pub cover_of_bank : Bic → Bic → Amount → Chart → Result AcctNo Code
cover_of_bank bank sender amount chart =
    if is_bank bank sender || is_bank bank chart.home then relation_of sender amount chart
    else or_fault (account_with nostro bank amount chart) (code "P32")

-- the account to debit, by the cover
abbrev pub debit_of : Bic → Amount → Cover → Chart → Result AcctNo Code
debit_of sender amount cover.Relation chart = relation_of sender amount chart
debit_of sender amount (cover.Bank bank) chart = cover_of_bank bank sender amount chart
debit_of sender amount (cover.Account id) chart = or_fault (account_named id (wanted.Relation sender) amount chart) (code "P32")
debit_of sender amount cover.NoBic chart = Err (code "P35")

-- a customer's account, by its id
abbrev pub customer_credit : Option (List ℕ) → Amount → Chart → Result Credit Code
customer_credit account amount chart = do
  id ← or_fault account (code "P33")
  n ← or_fault (account_named id wanted.Customer amount chart) (code "P33")
  Ok (record { account = n; method = None; via = None })

-- a bank's vostro account, by its id
abbrev pub booked_credit : Bic → List ℕ → Amount → Chart → Result Credit Code
booked_credit bank id amount chart = do
  n ← or_fault (account_named id (wanted.Vostro bank) amount chart) (code "P36")
  Ok (record { account = n; method = Some method.Book; via = None })

-- our nostro account with the bank between that an instruction names
abbrev pub carried_credit : SsiRow → Amount → Chart → Result Credit Code
carried_credit row amount chart = do
  via ← or_fault row.via (code "P36")
  n ← or_fault (account_named row.account (wanted.Nostro via) amount chart) (code "P36")
  Ok (record { account = n; method = Some row.method; via = Some via })

-- the account to credit, by the method of an instruction
abbrev pub credit_by : Method → Bic → SsiRow → Amount → Chart → Result Credit Code
credit_by method.Book bank row amount chart = booked_credit bank row.account amount chart
credit_by method.Serial bank row amount chart = carried_credit row amount chart
credit_by method.Cover bank row amount chart = carried_credit row amount chart

-- the account that an instruction names, by its method
abbrev pub instructed_credit : Bic → SsiRow → Amount → Chart → Result Credit Code
instructed_credit bank row amount chart = credit_by row.method bank row amount chart

-- that of the instruction in force for a bank on the value date
abbrev pub bank_credit : Bic → Amount → Day → List SsiRow → Chart → Result Credit Code
bank_credit bank amount value rows chart = do
  row ← or_fault (instruction_at rows amount.ccy bank value) (code "P30")
  instructed_credit bank row amount chart

-- the account to credit, by the target
abbrev pub credit_of : Amount → Day → Target → List SsiRow → Chart → Result Credit Code
credit_of amount value (target.Customer account) rows chart = customer_credit account amount chart
credit_of amount value (target.Bank bank field) rows chart = bank_credit bank amount value rows chart
credit_of amount value target.NoBic rows chart = Err (code "P35")

-- the accounts of a payment: the debit side is decided before the credit side, and the two are distinct
unfoldable pub route_of : Bic → Amount → Day → Cover → Target → List SsiRow → Chart → Result Routed Code
route_of sender amount value cover target rows chart = do
  debit ← debit_of sender amount cover chart
  credit ← credit_of amount value target rows chart
  _ ← check (not (debit.0 == credit.account.0)) (code "P38")
  Ok (record { debit = debit; credit = credit.account; method = credit.method; via = credit.via })
