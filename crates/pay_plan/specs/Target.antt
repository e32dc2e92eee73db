-- For whom a message says that it is.
use Rattle.std.specs.Prelude.{ℕ, Bool, false, List, [], ◌∷◌, drop, Option, Some, None, option_map, unwrap_or, if◌then◌else◌}
use Rattle.corr_text.specs.First.{first_of}
use Rattle.corr_ids.specs.declared.bic.Bic.{Bic}
use Rattle.fin_parties.specs.declared.party.Party.{Party}
use Rattle.fin_parties.specs.declared.party.Party.TheVariants as party
use Rattle.mt103.specs.declared.message.Mt103.{Mt103}
use Rattle.mt202cov.specs.declared.message.Mt202Cov.{Mt202Cov}
use Rattle.routing.specs.Route.{is_bank}
use Rattle.routing.specs.declared.target.Target.{Target}
use Rattle.routing.specs.declared.target.Target.TheVariants.{Bank, Customer, NoBic}

-- option A that names the home bank
abbrev pub names_home : Bic → Party → Bool
names_home home (party.A line bic) = is_bank bic home
names_home home _ = false

-- a bank is named by its BIC, option A
abbrev pub bank_target : ℕ → Party → Target
bank_target field (party.A line bic) = Bank bic field
bank_target field _ = NoBic

-- whom a field names, unless it is the home bank
abbrev pub aimed : Bic → ℕ → Option Party → Option Target
aimed home field None = None
aimed home field (Some p) = if names_home home p then None else Some (bank_target field p)

-- the account of 59a: what stands after the slash of its first line
abbrev pub payee_account : Party → Option (List ℕ)
payee_account (party.K account lines) = account
payee_account (party.A line bic) = option_map (drop 1) line
payee_account (party.F line lines) = option_map (drop 1) line
payee_account _ = None

-- a customer's account
abbrev pub customer_target : Party → Target
customer_target payee = Customer (payee_account payee)

-- the first of 56a and 57a that doesn't name the home bank, else the customer of 59a
abbrev pub transfer_target : Bic → Mt103 → Target
transfer_target home m = unwrap_or (first_of (aimed home 56 m.p56 ∷ aimed home 57 m.p57 ∷ [])) (customer_target m.payee)

-- the first of 56a and 57a that doesn't name the home bank, else the bank of 58a
abbrev pub cover_target : Bic → Mt202Cov → Target
cover_target home m = unwrap_or (first_of (aimed home 56 m.a56 ∷ aimed home 57 m.a57 ∷ [])) (bank_target 58 m.a58)
