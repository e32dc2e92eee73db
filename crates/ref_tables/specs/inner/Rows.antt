-- The rows of a table file.
use Rattle.csv.specs.declared.error.ErrorKind.{ErrorKind}
use Rattle.csv.specs.declared.error.ErrorKind.TheVariants as kind

-- a fault of csv that is one of reading bytes or of memory, and not of what a row has
abbrev pub IsReadFault : ErrorKind → Type 0
IsReadFault (kind.Io e) = Unit {0}
IsReadFault kind.OutOfMemory = Unit {0}
IsReadFault (kind.UnequalLengths pos expected len) = ⊥
IsReadFault (kind.Utf8 pos err) = ⊥
IsReadFault (kind.Serialize text) = ⊥
IsReadFault (kind.Deserialize pos err) = ⊥
