-- Why a change of accounts is refused.
use Rattle.std.specs.Prelude.{ℕ, ◌&&◌, Bool, List, [], ◌∷◌, length, Option, option_map, nat_lt, ℤ, pos}
use Rattle.std.specs.List.{list_all, position_from}
use Rattle.std.specs.Ordering.{int_eq}
use Rattle.corr_text.specs.First.{first_of, unless}
use Rattle.day_model.specs.declared.account.Account.{Account}
use Rattle.day_model.specs.declared.change.Refusal.{Refusal}
use Rattle.day_model.specs.declared.change.Refusal.TheVariants as refusal
use Rattle.day_model.specs.declared.change.What.{What}
use Rattle.day_model.specs.declared.change.What.TheVariants.{Opened, Limits}
use Rattle.day_model.specs.Chart.{most_accounts}
use Rattle.day_model.specs.Fit.{is_in}
use Rattle.day_model.specs.RowTests.{agrees, are_ends, has_limits, meets}

-- the least account that a new one meets
abbrev pub met_by : Account → List Account → Option Refusal
met_by account accounts = option_map (λ n. refusal.Double n) (position_from (meets account) 1 accounts)

-- a new account has opening 0, between its ends
abbrev pub begins_empty : Account → Bool
begins_empty account = int_eq account.opening (pos 0) && has_limits account

-- the tests of an account to open
abbrev pub opening_tests : List Account → Account → List (Option Refusal)
opening_tests accounts account =
    unless (nat_lt (length accounts) most_accounts) refusal.Rows ∷ met_by account accounts
    ∷ unless (list_all (agrees account) accounts) refusal.Currency ∷ unless (begins_empty account) (refusal.Limits 0) ∷ []

-- the tests of new ends for account n, which has this balance
abbrev pub limit_tests : List Account → ℕ → ℤ → ℤ → ℤ → List (Option Refusal)
limit_tests accounts n floor ceil balance =
    unless (is_in accounts n) refusal.Unknown ∷ unless (are_ends floor ceil balance) (refusal.Limits n) ∷ []

-- the first reason against a change, none where it is legal; limits are for an account of this balance
abbrev pub refusal_of : List Account → ℤ → What → Option Refusal
refusal_of accounts balance (Opened account) = first_of (opening_tests accounts account)
refusal_of accounts balance (Limits n floor ceil) = first_of (limit_tests accounts n.0 floor ceil balance)
