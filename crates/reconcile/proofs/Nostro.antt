-- The account that a statement is of.
use Rattle.std.proofs.Common.{◌≡◌, Bool, true, false, cond, Option, Some, None, ap, ◌∙◌}
use Rattle.std.specs.Prelude.{option_and_then}
use Rattle.std.specs.Option.{option_map_or}
use Rattle.day_model.specs.declared.account.Account.{Account}
use Rattle.day_model.specs.declared.account.AcctNo.{AcctNo}
use Rattle.day_model.specs.Chart.{Chart, account_at, accounts_of, has_id, number_of_first}
use Rattle.mt950.specs.declared.joining.Statement.{Statement}
use Rattle.reconcile.specs.Breaks.{is_of_statement, nostro_of}

module _ (chart : Chart) (s : Statement) where
  abbrev if-of : AcctNo → Option AcctNo
  if-of n = cond (option_map_or (is_of_statement s) (account_at chart n.0) false) (Some n) None

  pub nostro-none : number_of_first (has_id s.account) (accounts_of chart) ≡ None → nostro_of chart s ≡ None
  nostro-none e = ap (option_and_then if-of) e

  nostro-if : (n : AcctNo) (x : Account) (b : Bool) → number_of_first (has_id s.account) (accounts_of chart) ≡ Some n → account_at chart n.0 ≡ Some x → is_of_statement s x ≡ b → nostro_of chart s ≡ cond b (Some n) None
  nostro-if n x b e at is =
      ap (option_and_then if-of) e ∙ ap (λ (o : Option Account). cond (option_map_or (is_of_statement s) o false) (Some n) None) at ∙ ap (λ (c : Bool). cond c (Some n) None) is

  pub nostro-other : (n : AcctNo) (x : Account) → number_of_first (has_id s.account) (accounts_of chart) ≡ Some n → account_at chart n.0 ≡ Some x → is_of_statement s x ≡ false → nostro_of chart s ≡ None
  nostro-other n x e at is = nostro-if n x false e at is

  pub nostro-some : (n : AcctNo) (x : Account) → number_of_first (has_id s.account) (accounts_of chart) ≡ Some n → account_at chart n.0 ≡ Some x → is_of_statement s x ≡ true → nostro_of chart s ≡ Some n
  nostro-some n x e at is = nostro-if n x true e at is
