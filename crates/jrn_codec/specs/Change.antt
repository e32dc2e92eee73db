-- The record of a change of the accounts, and which changes have one.
use Rattle.std.specs.Prelude.{ℕ, ◌<◌, ◌≤◌, ◌^◌, List, ◌∷◌, ◌++◌, ℤ, FitsSigned}
use Rattle.std.specs.Int.{w16, w64, to_be_bytes}
use Rattle.day_model.specs.declared.account.Account.{Account}
use Rattle.day_model.specs.declared.change.What.{What}
use Rattle.day_model.specs.declared.change.What.TheVariants.{Opened, Limits}
use Rattle.day_model.specs.Chart.{HasCode, IsFormed}
use Rattle.jrn_codec.specs.Spelling.{signed_bytes}
use Rattle.jrn_codec.specs.Header.{account_bytes}

-- the number of an account, its floor and its ceiling
unfoldable pub ends_bytes : ℕ → ℤ → ℤ → List ℕ
ends_bytes n floor ceil = to_be_bytes w16 n ++ signed_bytes w64 floor ++ signed_bytes w64 ceil

-- 1; then 0 and the new account as a header has it, or 1 and the ends of an account
abbrev pub change_bytes : What → List ℕ
change_bytes (Opened account) = 1 ∷ 0 ∷ account_bytes account
change_bytes (Limits n floor ceil) = 1 ∷ 1 ∷ ends_bytes n.0 floor ceil

-- the record of a change has at most so many bytes
abbrev pub most_change_bytes : ℕ
most_change_bytes = 77

-- floor, ceiling and opening have eight bytes
abbrev pub BalancesFit : Account → Type 0
BalancesFit a = FitsSigned w64 a.floor × FitsSigned w64 a.ceil × FitsSigned w64 a.opening

-- an account in the form of its columns, whose balances have eight bytes
pub record IsAccount (a : Account) : Type 0 where
  pub formed : IsFormed a
  pub code : HasCode a
  pub balances : BalancesFit a

-- what has a record: such an account, or ends of eight bytes for an account whose number has two
abbrev pub IsWhat : What → Type 0
IsWhat (Opened account) = IsAccount account
IsWhat (Limits n floor ceil) = (n.0 < 2 ^ 16) × FitsSigned w64 floor × FitsSigned w64 ceil

-- the number of the account that limits name has two bytes
abbrev pub NumberFits : What → Type 0
NumberFits (Opened account) = Unit {0}
NumberFits (Limits n floor ceil) = n.0 ≤ 65535
