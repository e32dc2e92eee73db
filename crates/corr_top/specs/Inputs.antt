-- What a command reads, and what it says.
use Rattle.std.specs.Prelude.{ℕ, List, [], map}
use Rattle.corr_ids.specs.declared.bic.Bic.{Bic}
use Rattle.corr_ids.specs.declared.day.Day.{Day}
use Rattle.day_model.specs.declared.account.Account.{Account}
use Rattle.day_model.specs.declared.entry.Entry.{Entry}
use Rattle.day_model.specs.declared.pay.Pay.{Pay}
use Rattle.day_model.specs.declared.reply.Reply.{Reply}
use Rattle.day_model.specs.Chart.{Chart}
use Rattle.day_model.specs.Next.{fold_of}
use Rattle.ref_tables.specs.declared.account.AccountRow.{AccountRow}
use Rattle.ref_tables.specs.Accounts.{account_of}
use Rattle.ref_tables.specs.Charges.{charge_in_row}
use Rattle.ref_tables.specs.Rows.{rows_of}
use Rattle.ref_tables.specs.Seen.{Tables}
use Rattle.ref_tables.specs.Tables.{tables_of}
use Rattle.ssi_versions.specs.Rows.{instruction_of}
use Rattle.standby.specs.declared.packet.Packet.{Packet}
use Rattle.standby.specs.Held.{Held}
use Rattle.corr_top.specs.declared.account_words.AccountChange.{AccountChange}
use Rattle.corr_top.specs.declared.directory.Directory.{Directory}
use Rattle.corr_top.specs.Message.{pays_in, readings_of, replies_in}

-- The home bank, the day, the number of workers, how many entries come under one sync at most, the change of accounts and the place that the words name; the bytes that were read of each table
-- and of the one other file that the command reads, and the messages of that file; the accounts and the history of the journal as it was opened;
-- the pays that the workers entered, in the order of the journal; and what a follower's disk holds, and the packets of its file. What was
-- not reached has none.
pub record Inputs : Type 0 where
  pub home : Bic
  pub day : Day
  pub workers : ℕ
  pub entries : ℕ
  pub change : AccountChange
  pub place : ℕ
  pub bics : List ℕ
  pub ccys : List ℕ
  pub countries : List ℕ
  pub accounts : List ℕ
  pub ssi : List ℕ
  pub charges : List ℕ
  pub messages : List ℕ
  pub cut : List (List ℕ)
  pub chart : Chart
  pub history : List Entry
  pub entered : List Pay
  pub held : Held
  pub packets : List Packet

-- the tables of banks, currencies and countries
abbrev pub tables_in : Inputs → Tables
tables_in i = tables_of i.bics i.ccys i.countries

-- a row of the table of accounts as an account of the book
abbrev pub opened : AccountRow → Account
opened row = record { id = row.id; kind = row.kind; owner = row.owner; ccy = row.ccy; decimals = row.decimals; floor = row.floor; ceil = row.ceil; opening = row.opening }

-- the accounts of the table of accounts
abbrev pub accounts_in : Inputs → List Account
accounts_in i = map opened (map (account_of (tables_in i)) (rows_of i.accounts))

-- the home bank that the words name, and these accounts, without changes
abbrev pub chart_in : Inputs → Chart
chart_in i = record { home = i.home; first = accounts_in i; changes = [] }

-- what messages are judged, routed and charged by: these tables, the instructions, and the charges, a currency's code and the amount a row
abbrev pub directory_in : Inputs → Directory
directory_in i = record { tables = tables_in i; ssi = map instruction_of (rows_of i.ssi); charges = map charge_in_row (rows_of i.charges) }

-- the pays that the messages ask for, in their order
abbrev pub pays_of : Inputs → List Pay
pays_of i = pays_in (readings_of (directory_in i) i.chart i.cut)

-- the history that one thread makes of the journal's and the pays that were entered, in their order
abbrev pub new_in : Inputs → List Entry
new_in i = fold_of i.chart i.history i.entered i.day

-- the reply to each message after that history
abbrev pub replies_of : Inputs → List Reply
replies_of i = replies_in (new_in i) (readings_of (directory_in i) i.chart i.cut)
