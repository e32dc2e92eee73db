-- What opening books tells of the bytes of the disk.
use Rattle.std.specs.Prelude.{◌≡◌, List}
use Rattle.corr_ids.specs.declared.day.Day.{Day}
use Rattle.day_model.specs.declared.entry.Entry.{Entry}
use Rattle.jrn_file.specs.declared.fault.OpenFault.TheVariants as open_fault
use Rattle.corr_books.specs.declared.opening.BooksFault.{BooksFault}
use Rattle.corr_books.specs.declared.opening.BooksFault.TheVariants.{Open, DateBack}
use Rattle.corr_books.specs.Finding.{IsDateBack}

-- a book of this history was not begun for the day: its last entry has a later one, or there was no memory
abbrev pub BeginsNot : List Entry → Day → BooksFault → Type 0
BeginsNot history day (Open fault) = fault ≡ open_fault.Memory
BeginsNot history day (DateBack last) = IsDateBack history day last
