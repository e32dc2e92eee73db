-- The first place that passes a test, counted from 0 and from 1, and the first account that does.
use Rattle.std.proofs.Common.{◌≡◌, ℕ, ◌+◌, ◌<◌, ◌≤◌, Bool, true, false, cond, List, [], ◌∷◌, length, Some, None, refl, ap, ◌∙◌, arith}
use Rattle.std.specs.Prelude.{option_map}
use Rattle.std.specs.List.{position_from}
use Rattle.std.proofs.lemmas.Option.{same_Some}
use Rattle.day_model.specs.declared.account.Account.{Account}
use Rattle.day_model.specs.declared.account.AcctNo.{AcctNo}
use Rattle.day_model.specs.Chart.{Chart, IsListed, number_of_first, accounts_of}

-- counted from one more, it is one more
pub position_from-next : {A : Type 0} (t : A → Bool) (i : ℕ) (xs : List A) → position_from t (i + 1) xs ≡ option_map (λ k. k + 1) (position_from t i xs)
position_from-next t i [] = refl
position_from-next t i (x ∷ xs) =
    elim (t x) as (λ b. cond b (Some (i + 1)) (position_from t (i + 1 + 1) xs) ≡ option_map (λ k. k + 1) (cond b (Some i) (position_from t (i + 1) xs))) [
      | true ↦ refl
      | false ↦ position_from-next t (i + 1) xs
    ]

-- places from 1 are those from 0, and one more
pub position_from-one : {A : Type 0} (t : A → Bool) (xs : List A) → position_from t 1 xs ≡ option_map (λ k. k + 1) (position_from t 0 xs)
position_from-one t xs = position_from-next t 0 xs

-- a place lies in the list
pub position_from-within : {A : Type 0} (t : A → Bool) (i k : ℕ) (xs : List A) → position_from t i xs ≡ Some k → (i ≤ k) × (k < i + length xs)
position_from-within t i k [] e = cc
position_from-within t i k (x ∷ xs) e =
    elim (t x) as (λ b. cond b (Some i) (position_from t (i + 1) xs) ≡ Some k → (i ≤ k) × (k < i + length (x ∷ xs))) [
      | true ↦ λ h. let s : i ≡ k = cc in (omega arith, omega arith)
      | false ↦ λ h. let w = position_from-within t (i + 1) k xs h in (omega arith, omega arith)
    ] e

-- counted from 1 a place is one more than counted from 0
pub one-Some : {A : Type 0} (t : A → Bool) (k : ℕ) (xs : List A) → position_from t 0 xs ≡ Some k → position_from t 1 xs ≡ Some (k + 1)
one-Some t k xs e = position_from-one t xs ∙ ap (option_map (λ k. k + 1)) e

-- what has no place counted from 0 has none counted from 1
pub one-None : {A : Type 0} (t : A → Bool) (xs : List A) → position_from t 0 xs ≡ None → position_from t 1 xs ≡ None
one-None t xs e = position_from-one t xs ∙ ap (option_map (λ k. k + 1)) e

-- the place of an account that is found, from 1
pub place-of : (t : Account → Bool) (accounts : List Account) (n : AcctNo) → number_of_first t accounts ≡ Some n → position_from t 1 accounts ≡ Some n.0
place-of t accounts n e =
    elim (position_from t 1 accounts) as (λ o. option_map (λ k. record { 0 = k }) o ≡ Some n → o ≡ Some n.0) [
      | Some k ↦ λ h. let s : record { 0 = k } ≡ n = same_Some _ _ h in ap (λ (m : AcctNo). Some m.0) s
      | None ↦ λ h. cc
    ] e

-- an account that is found is listed
pub listed : (t : Account → Bool) (chart : Chart) (n : AcctNo) → number_of_first t (accounts_of chart) ≡ Some n → IsListed chart n.0
listed t chart n e = let w = position_from-within t 1 n.0 (accounts_of chart) (place-of t (accounts_of chart) n e) in (omega arith, omega arith)
