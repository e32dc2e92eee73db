-- Why a step of a command stopped, as the status that tells it.
use Rattle.std.specs.Prelude.{ℕ}
use Rattle.corr_books.specs.declared.opening.BooksFault.{BooksFault}
use Rattle.corr_books.specs.declared.opening.BooksFault.TheVariants as books
use Rattle.corr_ids.specs.declared.day.Day.{Day}
use Rattle.day_model.specs.declared.change.What.{What}
use Rattle.day_model.specs.declared.change.What.TheVariants.{Opened, Limits}
use Rattle.day_model.specs.declared.fault.AccountsFault.{AccountsFault}
use Rattle.day_model.specs.declared.fault.AccountsFault.TheVariants as accounts
use Rattle.jrn_book.specs.declared.changing.ChangeFault.{ChangeFault}
use Rattle.jrn_book.specs.declared.changing.ChangeFault.TheVariants as changing
use Rattle.jrn_file.specs.declared.fault.MakeFault.{MakeFault}
use Rattle.jrn_file.specs.declared.fault.MakeFault.TheVariants as making
use Rattle.jrn_file.specs.declared.fault.OpenFault.{OpenFault}
use Rattle.jrn_file.specs.declared.fault.OpenFault.TheVariants as opening
use Rattle.pay_returns.specs.declared.fault.ReturnFault.{ReturnFault}
use Rattle.pay_returns.specs.declared.fault.ReturnFault.TheVariants as returning
use Rattle.ref_tables.specs.declared.fault.TableName.TheVariants as names
use Rattle.ref_tables.specs.declared.fault.Why.TheVariants as why
use Rattle.standby.specs.declared.answer.TakeFault.{TakeFault}
use Rattle.standby.specs.declared.answer.TakeFault.TheVariants as taking
use Rattle.corr_top.specs.declared.answers.BookStop.{BookStop}
use Rattle.corr_top.specs.declared.answers.BookStop.TheVariants as booking
use Rattle.corr_top.specs.declared.cutting.FileStop.{FileStop}
use Rattle.corr_top.specs.declared.cutting.FileStop.TheVariants as file
use Rattle.corr_top.specs.declared.status.Status.{Status}
use Rattle.corr_top.specs.declared.status.Status.TheVariants as status
use Rattle.corr_top.specs.declared.tables.TableStop.{TableStop}
use Rattle.corr_top.specs.declared.tables.TableStop.TheVariants as table

-- the status where a table couldn't be read, or is refused
abbrev pub status_of_table : TableStop → Status
status_of_table (table.Fault before after) = status.ReadFault before after
status_of_table (table.Bad name row why) = status.Table name row why
status_of_table table.Memory = status.Memory

-- the status where the openings of a currency don't sum to 0
abbrev pub status_of_sums : AccountsFault → Status
status_of_sums (accounts.Unbalanced ccy decimals sum) = status.Unbalanced ccy decimals sum
status_of_sums accounts.Memory = status.Memory

-- the status where a journal couldn't be made; one without records is never too long, so that Full doesn't come
abbrev pub status_of_making : MakeFault → Status
status_of_making (making.Exists first) = status.Exists first
status_of_making (making.Full end need) = status.NotAJournal
status_of_making (making.DiskFault before after) = status.DiskFault before after
status_of_making making.Memory = status.Memory

-- the status where a journal couldn't be opened
abbrev pub status_of_opening : OpenFault → Status
status_of_opening opening.NotAJournal = status.NotAJournal
status_of_opening (opening.Version found) = status.Version found
status_of_opening (opening.Damaged at) = status.Damaged at
status_of_opening (opening.DiskFault before after) = status.DiskFault before after
status_of_opening opening.Memory = status.Memory

-- the status where the day is before that of the last entry, which is told
abbrev pub status_of_day : Day → Status
status_of_day back = status.DateBack back

-- the status where the books couldn't be opened for a day
abbrev pub status_of_books : BooksFault → Status
status_of_books (books.Open fault) = status_of_opening fault
status_of_books (books.DateBack last) = status_of_day last

-- the status where the message file couldn't be read, is too large, or can't be cut
abbrev pub status_of_file : FileStop → Status
status_of_file (file.Fault before after) = status.ReadFault before after
status_of_file (file.TooLarge bytes messages) = status.TooLarge bytes messages
status_of_file (file.Framing at) = status.Framing at
status_of_file file.Memory = status.Memory

-- the status where the payments of a file couldn't all be entered
abbrev pub status_of_booking : BookStop → Status
status_of_booking (booking.DiskFault before after) = status.DiskFault before after
status_of_booking (booking.Full entries end need) = status.Full entries end need
status_of_booking booking.Memory = status.Memory

-- the row that a refused change tells: 1 of an account that is opened, else the number of the account
abbrev pub row_named : What → ℕ
row_named (Opened account) = 1
row_named (Limits n floor ceil) = n.0

-- the status where the accounts of a journal of so many entries weren't changed
abbrev pub status_of_change : What → ℕ → ChangeFault → Status
status_of_change what entries (changing.Open fault) = status_of_opening fault
status_of_change what entries changing.Unknown = status.Unknown
status_of_change what entries changing.Rows = status.Table names.Accounts (row_named what) why.Rows
status_of_change what entries (changing.Double row) = status.Table names.Accounts (row_named what) (why.Double row)
status_of_change what entries changing.Currency = status.Table names.Accounts (row_named what) why.Currency
status_of_change what entries (changing.Limits account) = status.Table names.Accounts (row_named what) why.Limits
status_of_change what entries (changing.Full end need) = status.Full entries end need
status_of_change what entries (changing.DiskFault before after) = status.DiskFault before after
status_of_change what entries changing.Memory = status.Memory

-- the status where a journal of so many entries wasn't made on the second disk
abbrev pub status_of_copying : ℕ → MakeFault → Status
status_of_copying entries (making.Exists first) = status.Exists first
status_of_copying entries (making.Full end need) = status.Full entries end need
status_of_copying entries (making.DiskFault before after) = status.SecondDiskFault before after
status_of_copying entries making.Memory = status.Memory

-- the status where a payment isn't taken back
abbrev pub status_of_return : ReturnFault → Status
status_of_return (returning.NoPayment entries) = status.NoPayment entries
status_of_return (returning.Returned place) = status.Returned place
status_of_return (returning.Unfunded leg balance) = status.Unfunded leg balance
status_of_return returning.Memory = status.Memory

-- the status where a packet wasn't taken by a follower that holds so many entries; the bytes are one whole packet, and the follower is
-- left after the first fault of its disk, so that neither NotAPacket nor Broken comes
abbrev pub status_of_taking : ℕ → TakeFault → Status
status_of_taking entries taking.NotAPacket = status.Framing 0
status_of_taking entries (taking.NotNext number) = status.NotNext number
status_of_taking entries (taking.Full end need) = status.Full entries end need
status_of_taking entries (taking.DiskFault before after) = status.DiskFault before after
status_of_taking entries (taking.Broken at_open now) = status.DiskFault at_open now
status_of_taking entries taking.Memory = status.Memory
