-- How a message says that it is covered.
use Rattle.std.specs.Prelude.{ℕ, List, Option, Some, None}
use Rattle.fin_parties.specs.Party.{account_in}
use Rattle.fin_parties.specs.declared.party.Party.{Party}
use Rattle.fin_parties.specs.declared.party.Party.TheVariants as party
use Rattle.routing.specs.declared.cover.Cover.{Cover}
use Rattle.routing.specs.declared.cover.Cover.TheVariants.{Account, Bank, NoBic, Relation}

-- a bank is named by its BIC, option A
abbrev pub bank_cover : Party → Cover
bank_cover (party.A line bic) = Bank bic
bank_cover _ = NoBic

-- the account of a party line; without the line, the relation
abbrev pub account_cover : Option (List ℕ) → Cover
account_cover (Some line) = Account (account_in line)
account_cover None = Relation

-- 53a: option B names an account
abbrev pub cover_by_53 : Option Party → Cover
cover_by_53 (Some (party.B line place)) = account_cover line
cover_by_53 (Some p) = bank_cover p
cover_by_53 None = Relation

-- 54a, and 53a without it
abbrev pub cover_of : Option Party → Option Party → Cover
cover_of p53 (Some p54) = bank_cover p54
cover_of p53 None = cover_by_53 p53
