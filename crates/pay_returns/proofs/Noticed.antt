-- The notices of a return: whom they tell, and that they can be written down.
use Rattle.std.proofs.Common.{◌≡◌, ℕ, ◌+◌, ◌-◌, ◌≤◌, ◌==◌, Bool, true, false, cond, All, IfSome, List, [], ◌++◌, length, Option, Some, None, refl, sym, ap, subst, arith}
use Rattle.std.specs.Prelude.{option_and_then, option_map, option_to_list, slice_get}
use Rattle.std.specs.List.{position_from}
use Rattle.std.proofs.lemmas.List.Elements.{All-append, All-cons, All-nil}
use Rattle.std.proofs.lemmas.Option.{none-some}
use Rattle.corr_ids.specs.Bic.{IsBic}
use Rattle.corr_ids.specs.declared.bic.Bic.{Bic}
use Rattle.day_model.specs.Chart.{Chart, IsChart, account_at}
use Rattle.corr_ids.specs.Kinds.{vostro}
use Rattle.day_model.specs.Shape.{IsNumbered, IsOrder}
use Rattle.day_model.specs.declared.account.Account.{Account}
use Rattle.day_model.specs.declared.pay.Leg.{Leg}
use Rattle.day_model.specs.declared.pay.Order.{Order}
use Rattle.day_model.specs.declared.pay.Order.TheVariants as order
use Rattle.pay_returns.specs.Opposite.{credit_at, credit_notice, debit_notice, is_credit, notices_of, told_at, told_of, vostro_owner}
use Rattle.pay_returns.proofs.laws.Noticing.{credit-in, position-more}

-- the account of leg n, from 1
abbrev pub account_of : Chart → List Leg → ℕ → Option Account
account_of chart legs n = option_and_then (λ leg. account_at chart leg.account.0) (slice_get legs (n - 1))

-- what holds of the owners of accounts, and of notices to such banks
pub record TellsOf (chart : Chart) (legs : List Leg) (Q : Bic → Type 0) (P : Order → Type 0) : Type 0 where
  pub owners : (n : ℕ) (account : Account) → account_of chart legs n ≡ Some account → Q account.owner
  pub credit : (to : Bic) (n : ℕ) → Q to → IsNumbered (length legs) n → P (order.Credit to n)
  pub debit : (to : Bic) (n : ℕ) → Q to → IsNumbered (length legs) n → P (order.Debit to n)

module _ (chart : Chart) (legs : List Leg) (some : 1 ≤ length legs) (Q : Bic → Type 0) (P : Order → Type 0) (tells : TellsOf chart legs Q P) where
  if-vostro : (is : Bool) (owner : Bic) → Q owner → IfSome (cond is (Some owner) None) Q
  if-vostro true owner q = q
  if-vostro false owner q = tt

  owner-told : (n : ℕ) (o : Option Account) → account_of chart legs n ≡ o → IfSome (option_and_then vostro_owner o) Q
  owner-told n None e = tt
  owner-told n (Some account) e = if-vostro (account.kind == vostro) account.owner (tells.owners n account e)

  leg-told : (n : ℕ) (o : Option Leg) → slice_get legs (n - 1) ≡ o → IfSome (option_and_then (told_of chart) o) Q
  leg-told n None e = tt
  leg-told n (Some leg) e = owner-told n (account_at chart leg.account.0) (ap (option_and_then (λ (l : Leg). account_at chart l.account.0)) e)

  noticed : (make : Bic → Order) → ((to : Bic) → Q to → P (make to)) → (o : Option Bic) → IfSome o Q → IfSome (option_map make o) P
  noticed make each None q = tt
  noticed make each (Some to) q = each to q

  credit-placed : (o : Option ℕ) → position_from is_credit 0 legs ≡ o → IfSome (option_and_then (credit_at chart legs) (option_map (λ i. i + 1) o)) P
  credit-placed None e = tt
  credit-placed (Some i) e =
      let lt = credit-in legs i e in
      noticed (λ to. order.Credit to (i + 1)) (λ to q. tells.credit to (i + 1) q (omega arith, omega (arith, lt))) (told_at chart legs (i + 1)) (leg-told (i + 1) (slice_get legs (i + 1 - 1)) refl)

  credit-form : IfSome (credit_notice chart legs) P
  credit-form =
      subst (λ (o : Option ℕ). IfSome (option_and_then (credit_at chart legs) o) P) (sym (position-more is_credit 0 legs))
      (credit-placed (position_from is_credit 0 legs) refl)

  debit-form : IfSome (debit_notice chart legs) P
  debit-form = noticed (λ to. order.Debit to 1) (λ to q. tells.debit to 1 q (omega arith, some)) (told_at chart legs 1) (leg-told 1 (slice_get legs (1 - 1)) refl)

  listed : (o : Option Order) → IfSome o P → All P (option_to_list o)
  listed None p = All-nil P
  listed (Some x) p = All-cons P x [] p (All-nil P)

  pub notices-are : All P (notices_of chart legs)
  notices-are =
      All-append P (option_to_list (credit_notice chart legs)) (option_to_list (debit_notice chart legs))
      (listed (credit_notice chart legs) credit-form) (listed (debit_notice chart legs) debit-form)

-- ---- in form

owner-form : (chart : Chart) → IsChart chart → (o : Option Leg) (account : Account) → option_and_then (λ leg. account_at chart leg.account.0) o ≡ Some account → IsBic account.owner
owner-form chart sound None account e = absurd (none-some account e)
owner-form chart sound (Some leg) account e = (sound.rows.apart.formed (leg.account.0 - 1) account e).owner

pub notices-form : (chart : Chart) → IsChart chart → (legs : List Leg) → 1 ≤ length legs → All (IsOrder (length legs)) (notices_of chart legs)
notices-form chart sound legs some =
    notices-are chart legs some IsBic (IsOrder (length legs)) (record {
      owners = λ n account e. owner-form chart sound (slice_get legs (n - 1)) account e;
      credit = λ to n is within. (is, within);
      debit = λ to n is within. (is, within);
    })

-- ---- two at most

both-few : {A : Type 0} (o p : Option A) → length (option_to_list o ++ option_to_list p) ≤ 2
both-few None None = omega arith
both-few None (Some y) = omega arith
both-few (Some x) None = omega arith
both-few (Some x) (Some y) = omega arith

pub notices-few : (chart : Chart) (legs : List Leg) → length (notices_of chart legs) ≤ 2
notices-few chart legs = both-few (credit_notice chart legs) (debit_notice chart legs)
