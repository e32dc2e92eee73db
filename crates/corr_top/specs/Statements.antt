-- The commands `statements` and `customer-statements`: what the owners of accounts are sent of a day.
use Rattle.std.specs.Prelude.{◌≡◌, ℕ, ◌+◌, ◌==◌, Bool, true, List, [], Some, slice_get, if◌then◌else◌}
use Rattle.corr_ids.specs.declared.day.Day.{Day}
use Rattle.corr_report.specs.Lines.{numbered}
use Rattle.day_model.specs.Chart.{Chart, accounts_of}
use Rattle.corr_ids.specs.Kinds.{customer, vostro}
use Rattle.day_model.specs.declared.account.Account.{Account}
use Rattle.day_model.specs.declared.entry.Entry.{Entry}
use Rattle.mt940_out.specs.Pages.{customer_pages_of}
use Rattle.mt940_out.specs.Valid.{PagesReadBack}
use Rattle.statement.specs.Pages.{pages_of}
use Rattle.statement.specs.Valid.{PagesAreAccepted, ClosesAtBalance}
use Rattle.corr_top.specs.declared.owners.Owners.{Owners}
use Rattle.corr_top.specs.declared.owners.Owners.TheVariants.{Banks, Customers}
use Rattle.corr_top.specs.Out.{parted_all}

-- the kind of the accounts that they have
abbrev pub kind_of : Owners → ℕ
kind_of Banks = vostro
kind_of Customers = customer

-- an account of these owners
abbrev pub is_theirs : Owners → Account → Bool
is_theirs owners account = account.kind == kind_of owners

-- the pages of account n's statement as they are sent them: to a customer with notes of what was paid
abbrev pub owner_pages : Owners → Chart → List Entry → ℕ → Day → List (List ℕ)
owner_pages Banks chart entries n day = pages_of chart entries n day
owner_pages Customers chart entries n day = customer_pages_of chart entries n day

-- what is sent of account n, which has these columns: its pages where it is theirs, each followed by `$`
abbrev pub pages_sent : Owners → Chart → List Entry → Day → ℕ → Account → List ℕ
pages_sent owners chart entries day n account = if is_theirs owners account then parted_all (owner_pages owners chart entries n day) else []

-- what is sent of a day: that of all accounts, in their order
abbrev pub sent_statements : Owners → Chart → List Entry → Day → List ℕ
sent_statements owners chart entries day = numbered (pages_sent owners chart entries day) 1 (accounts_of chart)

-- A bank's pages each pass the tests of a sent message under all tables that hold the owner, and the currency with its decimals. A
-- customer's are each read back, with their notes, under all that hold the currency with its decimals.
abbrev pub AreReadBack : Owners → Chart → List Entry → ℕ → Day → Type 0
AreReadBack Banks chart entries n day = PagesAreAccepted chart entries n day
AreReadBack Customers chart entries n day = PagesReadBack chart entries n day

-- the statement of account n closes at its balance by the entries up to the day, opens at that by the entries before it, and is read back
pub record IsStatementOfDay (owners : Owners) (chart : Chart) (entries : List Entry) (day : Day) (n : ℕ) : Type 0 where
  pub closes : ClosesAtBalance chart entries n day
  pub read : AreReadBack owners chart entries n day

-- those of all their accounts do
abbrev pub AreStatements : Owners → Chart → List Entry → Day → Type 0
AreStatements owners chart entries day =
    (i : ℕ) (account : Account) → slice_get (accounts_of chart) i ≡ Some account → is_theirs owners account ≡ true → IsStatementOfDay owners chart entries day (i + 1)
