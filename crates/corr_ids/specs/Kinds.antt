-- Kinds of accounts, and when two accounts are those of one bank.
use Rattle.std.specs.Prelude.{◌≡◌, ◌≢◌, ◌==◌, ◌||◌, ℕ, Bool, List}

-- the letter C, of a customer's account
abbrev pub customer : ℕ
customer = 67

-- the letter V, of a bank's account with the home bank
abbrev pub vostro : ℕ
vostro = 86

-- the letter N, of the home bank's account with a bank
abbrev pub nostro : ℕ
nostro = 78

-- the letter F, of the home bank's account for charges
abbrev pub fee : ℕ
fee = 70

-- one of the four letters
abbrev pub is_kind : ℕ → Bool
is_kind kind = (kind == customer) || (kind == vostro) || (kind == nostro) || (kind == fee)

-- what a bank has one account of: two that aren't a customer's, of one kind, one head of their owner's BIC and one currency
pub record IsSameBank (kind : ℕ) (head ccy : List ℕ) (other_kind : ℕ) (other_head other_ccy : List ℕ) : Type 0 where
  pub bank : kind ≢ customer
  pub kinds : kind ≡ other_kind
  pub heads : head ≡ other_head
  pub ccys : ccy ≡ other_ccy
