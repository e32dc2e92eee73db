-- What a reader of parties answers.
use Rattle.std.specs.Prelude.{◌≡◌, Option, Some, Result, Ok, Err}
use Rattle.fin_parties.specs.declared.fault.PartyFault.{PartyFault}
use Rattle.fin_parties.specs.declared.party.Party.{Party}
use Rattle.fin_parties.specs.Faults.{TellsPartyFault}

-- what is read is this party, and P24 where there is none
abbrev pub ReadsParty : Option Party → Result Party PartyFault → Type 0
ReadsParty party (Ok p) = party ≡ Some p
ReadsParty party (Err fault) = TellsPartyFault party fault
