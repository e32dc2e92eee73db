-- Where accounts are found: places in a list of accounts, noted under what is looked for.
use Rattle.std.specs.Prelude.{◌≡◌, ℕ, ◌==◌, ◌&&◌, Bool, List, [], ◌∷◌, ◌++◌, is_some, if◌then◌else◌}
use Rattle.std.specs.Global.{Vec}
use Rattle.std.specs.List.{position_from}
use Rattle.std.specs.Map.{lookup}
use Rattle.std.specs.Str.{bytes_eq}
use Rattle.day_model.specs.declared.account.Account.{Account}
use Rattle.day_model.specs.declared.listed.Owner.{Owner}
use Rattle.day_model.specs.Chart.{has_id, is_owned}

-- a place is noted under a key where none is
abbrev pub noted : {K : Type 0} → (K → K → Bool) → K → ℕ → List (K × ℕ) → List (K × ℕ)
noted eq key place places = if is_some (lookup (eq key) places) then places else places ++ (key, place) ∷ []

-- the kind, the owner's head, the currency and the decimals of an account
abbrev pub owner_of : Account → Owner
owner_of account = record { kind = account.kind; head = account.owner.head; ccy = account.ccy.0; decimals = account.decimals }

-- two of these are the same
abbrev pub is_owner : Owner → Owner → Bool
is_owner a b = (a.kind == b.kind) && (bytes_eq a.head b.head && (bytes_eq a.ccy b.ccy && (a.decimals == b.decimals)))

-- a key of a map is this id
abbrev pub is_id : List ℕ → Vec ℕ → Bool
is_id id key = bytes_eq id key.items

-- an account has this kind, owner's head, currency and decimals
abbrev pub has_owner : Owner → Account → Bool
has_owner owner account = is_owned owner.kind owner.head (record { 0 = owner.ccy }) owner.decimals account

-- what is noted under a key is the place of the first account that has it
abbrev pub Finds : {K Q : Type 0} → (Q → K → Bool) → (Q → Account → Bool) → List (K × ℕ) → List Account → Type 0
Finds {K} {Q} is has places accounts = (q : Q) → lookup (is q) places ≡ position_from (has q) 0 accounts

-- under ids, and under owners, stand the places of the first accounts that have them
pub record AreFound (accounts : List Account) (ids : List (Vec ℕ × ℕ)) (owners : List (Owner × ℕ)) : Type 0 where
  pub by_id : Finds is_id has_id ids accounts
  pub by_owner : Finds is_owner has_owner owners accounts
