-- What readers answer.
use Rattle.std.specs.Prelude.{◌≡◌, Result, Ok, Err}
use Rattle.jrn_codec.specs.declared.fault.EntryFault.{EntryFault}
use Rattle.jrn_codec.specs.declared.fault.EntryFault.TheVariants.{NoEntry, Memory}

-- Ok with this value, unless memory ran out
abbrev pub IsGiven : {X : Type 0} → X → Result X EntryFault → Type 0
IsGiven x (Ok y) = y ≡ x
IsGiven x (Err NoEntry) = ⊥
IsGiven x (Err Memory) = Unit {0}
