-- The first answer of a batch that says that its pay was entered.
use Rattle.std.proofs.Common.{◌≡◌, ℕ, zero, suc, ◌+◌, Bool, true, false, ◌||◌, cond, List, [], ◌∷◌, length, take, Option, Some, IsSome, Ok, Err, refl, sym, ap, ◌∙◌, subst, arith}
use Rattle.std.specs.List.{list_any, position_from}
use Rattle.day_model.specs.declared.entry.Outcome.{Outcome}
use Rattle.day_model.proofs.laws.Places.{position_from-within}
use Rattle.jrn_book.specs.Answers.{Answer}
use Rattle.jrn_book.specs.declared.answer.Committed.TheVariants.{New, Kept}
use Rattle.jrn_book.specs.Batches.{is_new}
use Rattle.jrn_book.specs.inner.Drafting.{IsFirstNew}

-- the first, by its place
pub record NewAt (answers : List Answer) (k : ℕ) : Type 0 where
  pub rest : List Answer
  pub first : IsFirstNew answers (take k answers) rest
  pub size : length answers ≡ k + 1 + length rest

new_one : (a : Answer) → is_new a ≡ true → (place : ℕ) × (outcome : Outcome) × (a ≡ Ok (New place outcome))
new_one (Ok (New place outcome)) is = (place, outcome, refl)
new_one (Ok (Kept place outcome)) is = absurd (cc (is))
new_one (Err fault) is = absurd (cc (is))

-- some position, where one passes
pub some_place : (i : ℕ) (answers : List Answer) → list_any is_new answers ≡ true → IsSome (position_from is_new i answers)
some_place i [] some = absurd (cc (some))
some_place i (a ∷ answers) some = by (is_new a) refl (λ behind. some_place (i + 1) answers behind)
  where
    by : (b : Bool) → is_new a ≡ b → (list_any is_new answers ≡ true → IsSome (position_from is_new (i + 1) answers))
        → IsSome (cond (is_new a) (Some i) (position_from is_new (i + 1) answers))
    by true is inner = subst (λ (b : Bool). IsSome (cond b (Some i) (position_from is_new (i + 1) answers))) (sym is) refl
    by false is inner = subst (λ (b : Bool). IsSome (cond b (Some i) (position_from is_new (i + 1) answers))) (sym is)
        (inner (ap (λ (b : Bool). b || list_any is_new answers) (sym is) ∙ some))

-- which stands there
pub new_at : (i k : ℕ) (answers : List Answer) → position_from is_new i answers ≡ Some (i + k) → NewAt answers k
new_at i k [] at = absurd (cc (at))
new_at i k (a ∷ answers) at = by (is_new a) refl (λ j found. new_at (i + 1) j answers found)
  where
    Found : Bool → Option ℕ
    Found b = cond b (Some i) (position_from is_new (i + 1) answers)

    Inner : Type 0
    Inner = (j : ℕ) → position_from is_new (i + 1) answers ≡ Some (i + 1 + j) → NewAt answers j

    further : is_new a ≡ false → Inner → (j : ℕ) → position_from is_new (i + 1) answers ≡ Some (i + j) → NewAt (a ∷ answers) j
    further is inner zero found = absurd (let low = position_from-within is_new (i + 1) (i + zero) answers found in omega (arith, low.0))
    further is inner (suc j) found =
        let count : i + suc j ≡ i + 1 + j = omega arith in
        let it = inner j (found ∙ ap (λ (n : ℕ). Some n) count) in
        record {
          rest = it.rest;
          first = record {
            place = it.first.place;
            outcome = it.first.outcome;
            is = ap (λ (l : List Answer). a ∷ l) it.first.is;
            none = ap (λ (b : Bool). b || list_any is_new (take j answers)) is ∙ it.first.none;
          };
          size = omega (arith, it.size);
        }

    by : (b : Bool) → is_new a ≡ b → Inner → NewAt (a ∷ answers) k
    by true is inner =
        let here : Some i ≡ Some (i + k) = ap Found (sym is) ∙ at in
        let same : i ≡ i + k = cc (here) in
        let none : zero ≡ k = omega (arith, same) in
        let one = new_one a is in
        subst (NewAt (a ∷ answers)) none (record {
          rest = answers;
          first = record { place = one.0; outcome = one.1; is = ap (λ (x : Answer). x ∷ answers) one.2; none = refl };
          size = omega arith;
        })
    by false is inner = further is inner k (ap Found (sym is) ∙ at)
