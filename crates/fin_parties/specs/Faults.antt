-- What a reader of parties answers.
use Rattle.std.specs.Prelude.{◌≡◌, Option, None}
use Rattle.fin_parties.specs.declared.fault.PartyFault.{PartyFault}
use Rattle.fin_parties.specs.declared.fault.PartyFault.TheVariants.{P24, Memory}
use Rattle.fin_parties.specs.declared.party.Party.{Party}

-- P24 is told where there is no party, or out of memory
abbrev pub TellsPartyFault : Option Party → PartyFault → Type 0
TellsPartyFault party P24 = party ≡ None
TellsPartyFault party Memory = Unit {0}
