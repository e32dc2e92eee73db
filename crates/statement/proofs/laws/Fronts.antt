-- What holds of the front of a legal history.
use Rattle.std.proofs.Common.{◌≡◌, ℕ, ◌≤◌, List, ◌++◌, [], take, drop, length, Some, sym, subst, arith, length-append}
use Rattle.std.specs.Prelude.{slice_get}
use Rattle.std.proofs.lemmas.List.{append-nil, take-append-drop, take-append-le}
use Rattle.day_model.specs.Balance.{balance_of}
use Rattle.day_model.specs.Chart.{Chart, IsChart, IsListed, IsSmall}
use Rattle.day_model.specs.Fit.{FitsAccounts}
use Rattle.day_model.specs.Legal.{FollowsRules, IsLegal}
use Rattle.day_model.specs.declared.entry.Entry.{Entry}
use Rattle.day_model.proofs.laws.Fronts.{fits_now, rules_front}
use Rattle.day_model.proofs.laws.Slices.{front_get}
use Rattle.day_model.proofs.laws.Standing.{small_at}
use Rattle.statement.specs.Seen.{IsFront}

-- a legal history is its own front
pub whole-front : (chart : Chart) (entries : List Entry) → IsLegal chart entries → IsFront chart entries
whole-front chart entries legal = ([], subst (IsLegal chart) (sym (append-nil entries)) legal)

-- so are its first entries
pub front-take : (chart : Chart) (entries : List Entry) (k : ℕ) → IsLegal chart entries → IsFront chart (take k entries)
front-take chart entries k legal = (drop k entries, subst (IsLegal chart) (sym (take-append-drop k entries)) legal)

module _ (chart : Chart) (entries : List Entry) (front : IsFront chart entries) where
  -- the entries of a front follow the rules
  pub front-rules : FollowsRules chart entries
  front-rules = rules_front chart entries front.0 front.1.rules

  -- their pays fit the accounts of now
  pub front-fits : (i : ℕ) (e : Entry) → slice_get entries i ≡ Some e → FitsAccounts chart e.pay
  front-fits i e at = fits_now chart (entries ++ front.0) i e front.1 (front_get entries front.0 i e at)

  -- the balance of an account after each of them is below 10^14 in size
  pub front-small : (n k : ℕ) → IsChart chart → IsListed chart n → k ≤ length entries → IsSmall (balance_of chart (take k entries) n)
  front-small n k is listed le =
      subst (λ (es : List Entry). IsSmall (balance_of chart es n)) (take-append-le k entries front.0 le)
      (small_at chart (entries ++ front.0) n k is front.1 listed (omega (arith, le, length-append entries front.0)))
