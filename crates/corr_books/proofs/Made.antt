-- The passes that were made at the opening.
use Rattle.std.proofs.Common.{◌≡◌, ⊎_elim, ℕ, ◌+◌, List, [], ◌∷◌, ◌++◌, length, Some, slice_get, refl, ap, ◌∙◌, subst, arith, length-append}
use Rattle.std.proofs.lemmas.Option.{none-some}
use Rattle.front_word.specs.Known.{WriterKnows, PassKnows, beginner, newcomer}
use Rattle.front_word.proofs.laws.Prefixes.{get_below, get_snoc}
use Rattle.corr_books.specs.Opening.{Opening}
use Rattle.corr_books.specs.Passes.{AreNew}
use Rattle.corr_books.specs.inner.Taking.{AreMade}

-- passes that a writer made that has just begun are new ones of the books
pub are_new : (o : Opening) (w : WriterKnows) (passes : List PassKnows) → w ≡ beginner o.word o.base → AreMade w o.made passes → AreNew o passes
are_new o w passes is m = record {
  count = m.len;
  each = λ k p at.
      let e = m.each k p at ∙ ap (λ (x : WriterKnows). newcomer (record x { made = k }) p.spare) is in
      let lt = get_below passes k p at in
      let len = m.len in
      let number : p.number ≡ k + 1 = ap (λ q. q.number) e in
      record {
        belongs = record { table = ap (λ q. q.table) e; base = ap (λ q. q.base) e; number = (omega arith, omega arith) };
        number = number;
        known = ap (λ q. q.known) e;
        mine = ap (λ q. q.mine) e;
        mark = let none : p.mark ≡ 0 = ap (λ q. q.mark) e in omega (arith, none);
      };
}

-- no pass was made yet
pub none_made : (w : WriterKnows) → AreMade w 0 []
none_made w = record { len = refl; each = λ k p at. absurd (none-some p at) }

-- one more was
pub one_made : (w : WriterKnows) (count : ℕ) (passes : List PassKnows) (p : PassKnows) → AreMade w count passes → p ≡ newcomer (record w { made = count }) p.spare → AreMade w (count + 1) (passes ++ p ∷ [])
one_made w count passes p m is = record {
  len = omega (arith, length-append passes (p ∷ []), m.len);
  each = λ k q at.
      ⊎_elim
      (λ (t : slice_get passes k ≡ Some q). m.each k q t)
      (λ (t : (k ≡ length passes) × (p ≡ q)).
      let here : count ≡ k = omega (arith, t.0, m.len) in
      subst (λ (x : PassKnows). x ≡ newcomer (record w { made = k }) x.spare) t.1
      (subst (λ (n : ℕ). p ≡ newcomer (record w { made = n }) p.spare) here is))
      (get_snoc passes p q k at);
}
