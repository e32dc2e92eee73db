-- What contracts see of the reference tables, and what they say.
use Rattle.std.specs.Prelude.{◌≡◌, ℕ, Bool, true, false, List, Option, unwrap_or, is_some, nat_le}
use Rattle.std.specs.List.{list_all}
use Rattle.std.specs.Map.{lookup}
use Rattle.std.specs.Str.{bytes_eq}
use Rattle.corr_ids.specs.declared.bic.Bic.{Bic}
use Rattle.corr_money.specs.Amounts.{most_decimals}
use Rattle.corr_money.specs.declared.amount.Minor.{Minor}
use Rattle.ref_tables.specs.Columns.{is_charge}

-- banks by head, with their branches; currencies by code, with their decimals; countries by code, and whether they are listed
pub record Tables : Type 0 where
  pub bics : List (List ℕ × List ℕ)
  pub ccys : List (List ℕ × ℕ)
  pub countries : List (List ℕ × Bool)

-- a bank of the table has this head
abbrev pub has_head : Tables → List ℕ → Bool
has_head t head = is_some (lookup (bytes_eq head) t.bics)

-- the tables hold the head of a bank
abbrev pub IsKnown : Tables → Bic → Type 0
IsKnown t b = has_head t b.head ≡ true

-- the decimals of a currency, none where it is not in the table
abbrev pub decimals_in : Tables → List ℕ → Option ℕ
decimals_in t ccy = lookup (bytes_eq ccy) t.ccys

-- a country is listed: it is in the table, with Y
abbrev pub is_listed_country : Tables → List ℕ → Bool
is_listed_country t country = unwrap_or (lookup (bytes_eq country) t.countries) false

-- each currency has at most 4 decimals
abbrev pub few_decimals : List (List ℕ × ℕ) → Bool
few_decimals ccys = list_all (λ c. nat_le c.1 most_decimals) ccys

-- the charge of a currency, none where it has no row
abbrev pub charge_in : List (List ℕ × Minor) → List ℕ → Option Minor
charge_in charges ccy = lookup (bytes_eq ccy) charges

-- each charge is above 0 and below 10^14
abbrev pub are_charges : List (List ℕ × Minor) → Bool
are_charges charges = list_all (λ c. is_charge c.1.0) charges
