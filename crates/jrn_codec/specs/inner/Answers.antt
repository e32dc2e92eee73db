-- What readers answer.
use Rattle.std.specs.Prelude.{◌≡◌, Option, Some, None, Result, Ok, Err}
use Rattle.jrn_codec.specs.declared.fault.EntryFault.{EntryFault}
use Rattle.jrn_codec.specs.declared.fault.EntryFault.TheVariants.{NoEntry, Memory}

-- no entry exactly where reading gives nothing; out of memory tells nothing
abbrev pub FailsToRead : {Y : Type 0} → EntryFault → Option Y → Type 0
FailsToRead NoEntry read = read ≡ None
FailsToRead Memory read = Unit {0}

-- what a reader answers, seen by view, is what reading gives, unless memory ran out
abbrev pub AnswersRead : {X Y : Type 0} → (X → Y) → Result X EntryFault → Option Y → Type 0
AnswersRead view (Ok x) read = read ≡ Some (view x)
AnswersRead view (Err e) read = FailsToRead e read
