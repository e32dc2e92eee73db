-- Statuses, as numbers and as lines.
use Rattle.std.specs.Prelude.{ℕ, ℤ, ◌≤◌, List, ◌++◌, codes, unsigned_abs, if◌then◌else◌}
use Rattle.std.specs.Int.{is_negative}
use Rattle.corr_text.specs.Digits.{padded}
use Rattle.corr_ids.specs.Day.{InCentury, yymmdd_of}
use Rattle.corr_money.specs.Amounts.{signed_text, most_decimals}
use Rattle.ref_tables.specs.declared.fault.TableName.{TableName}
use Rattle.ref_tables.specs.declared.fault.TableName.TheVariants as table
use Rattle.ref_tables.specs.declared.fault.Why.{Why}
use Rattle.ref_tables.specs.declared.fault.Why.TheVariants as why
use Rattle.corr_top.specs.declared.status.Status.{Status}
use Rattle.corr_top.specs.declared.status.Status.TheVariants.{Done, Usage, Table, ReadFault, WriteFault, DiskFault, NotAJournal, Damaged, Unbalanced, Exists, Memory, DateBack, TooLarge, Framing, Full, Version, SecondDiskFault, Unknown, NoSecond, NoPayment, Returned, Unfunded, NotNext}

-- a line can tell it: the decimals of an `Unbalanced` are at most 4, and the day of a `DateBack` is of 1980 to 2079
abbrev pub HasLine : Status → Type 0
HasLine (Unbalanced ccy decimals sum) = decimals ≤ most_decimals
HasLine (DateBack last) = InCentury last
HasLine _ = Unit {0}

-- the exit status
abbrev pub status_number : Status → ℕ
status_number Done = 0
status_number Usage = 1
status_number (Table name row reason) = 2
status_number (ReadFault before after) = 3
status_number (WriteFault before after) = 4
status_number (DiskFault before after) = 5
status_number (SecondDiskFault before after) = 5
status_number NotAJournal = 6
status_number (Damaged at) = 6
status_number (Unbalanced ccy decimals sum) = 6
status_number (Exists first) = 6
status_number Memory = 7
status_number (DateBack last) = 8
status_number (TooLarge bytes messages) = 9
status_number (Framing at) = 10
status_number (Full entries end need) = 11
status_number (Version found) = 12
status_number Unknown = 13
status_number NoSecond = 14
status_number (NoPayment entries) = 15
status_number (Returned place) = 16
status_number (Unfunded leg balance) = 17
status_number (NotNext number) = 18

-- a number after a space
unfoldable pub spaced_number : ℕ → List ℕ
spaced_number n = codes " " ++ padded 1 n

-- the same of a number that may be below 0
unfoldable pub spaced_signed : ℤ → List ℕ
spaced_signed v = codes " " ++ (if is_negative v then codes "-" else codes "") ++ padded 1 (unsigned_abs v)

-- the name of a table
abbrev pub name_text : TableName → List ℕ
name_text table.Bics = codes "bics"
name_text table.Ccys = codes "ccys"
name_text table.Countries = codes "countries"
name_text table.Accounts = codes "accounts"
name_text table.Ssi = codes "ssi"
name_text table.Charges = codes "charges"

-- what is wrong with a row
abbrev pub why_text : Why → List ℕ
why_text why.Columns = codes " columns"
why_text (why.Value col) = codes " value" ++ spaced_number col
why_text (why.Double row) = codes " double" ++ spaced_number row
why_text why.Bic = codes " bic"
why_text why.Currency = codes " currency"
why_text why.Limits = codes " limits"
why_text (why.Overlap row) = codes " overlap" ++ spaced_number row
why_text why.Span = codes " span"
why_text why.Rows = codes " rows"

-- how a command ended
abbrev pub status_text : Status → List ℕ
status_text Done = codes "done"
status_text Usage = codes "usage"
status_text (Table name row reason) = codes "table " ++ name_text name ++ spaced_number row ++ why_text reason
status_text (ReadFault before after) = codes "read fault" ++ spaced_number before ++ spaced_number after
status_text (WriteFault before after) = codes "write fault" ++ spaced_number before ++ spaced_number after
status_text (DiskFault before after) = codes "disk fault" ++ spaced_number before ++ spaced_number after
status_text (SecondDiskFault before after) = codes "second disk fault" ++ spaced_number before ++ spaced_number after
status_text NotAJournal = codes "not a journal"
status_text (Damaged at) = codes "damaged" ++ spaced_number at
status_text (Unbalanced ccy decimals sum) = codes "unbalanced " ++ ccy.0 ++ codes " " ++ signed_text decimals sum
status_text (Exists first) = codes "exists" ++ spaced_number first
status_text Memory = codes "no memory"
status_text (DateBack last) = codes "date back " ++ yymmdd_of last
status_text (TooLarge bytes messages) = codes "too large" ++ spaced_number bytes ++ spaced_number messages
status_text (Framing at) = codes "framing" ++ spaced_number at
status_text (Full entries end need) = codes "full" ++ spaced_number entries ++ spaced_number end ++ spaced_number need
status_text (Version found) = codes "version" ++ spaced_number found
status_text Unknown = codes "unknown account"
status_text NoSecond = codes "no second disk"
status_text (NoPayment entries) = codes "no payment" ++ spaced_number entries
status_text (Returned place) = codes "returned" ++ spaced_number place
status_text (Unfunded leg balance) = codes "unfunded" ++ spaced_number leg ++ spaced_signed balance
status_text (NotNext number) = codes "not next" ++ spaced_number number

-- its line, without a line end
abbrev pub status_line_of : Status → List ℕ
status_line_of status = codes "corr: " ++ status_text status
