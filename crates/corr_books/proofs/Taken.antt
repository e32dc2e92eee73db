-- Passes are taken back one after the other.
use Rattle.std.proofs.Common.{◌≡◌, ⊎_elim, ℕ, ◌≤◌, List, [], ◌∷◌, ◌++◌, length, Option, Some, None, slice_get, refl, ap, sym, ◌∙◌, subst, arith, length-append}
use mathlib.Core.List.{IsPrefix}
use mathlib.Core.Logic.{dite}
use native.Mathlib.Decide.{ℕ_discrete}
use Rattle.front_word.specs.Known.{WriterKnows, PassKnows, HasPlaces}
use Rattle.front_word.specs.Rule.{OwedPast, Among}
use Rattle.front_word.specs.inner.Rule.{IsDistinct}
use Rattle.front_word.proofs.laws.Prefixes.{prefix_self, prefix_trans, prefix_get, get_below, get_last}
use Rattle.corr_books.proofs.Counting.{among_more, distinct_more}
use Rattle.corr_books.specs.inner.Taking.{IsTakenBack, AreTaken}

-- none was taken back yet
pub none_taken : (w : WriterKnows) (passes : List PassKnows) → w.back ≡ [] → AreTaken w passes w passes
none_taken w passes none = record {
  writer = refl;
  begin = prefix_self passes;
  done = λ k p at past. let l = get_below passes k p at in absurd (omega arith);
  back = subst IsDistinct (sym none) (λ i j k e. absurd (cc (e)));
  count = let l = ap length none in omega arith;
  owners = λ n a. let e : slice_get [] a.0 ≡ Some n = subst (λ (xs : List ℕ). slice_get xs a.0 ≡ Some n) none a.1 in absurd (cc (e));
}

-- the last one of those that were left stands among all
pub last_left : (w w' : WriterKnows) (passes left rest : List PassKnows) (p : PassKnows) → AreTaken w passes w' left → left ≡ rest ++ p ∷ [] → slice_get passes (length rest) ≡ Some p
last_left w w' passes left rest p t is =
    prefix_get left passes (length rest) p t.begin (subst (λ (l : List PassKnows). slice_get l (length rest) ≡ Some p) (sym is) (get_last rest p))

-- one more was taken back
pub one_taken : (w w' w'' : WriterKnows) (passes left rest : List PassKnows) (p : PassKnows) → AreTaken w passes w' left → left ≡ rest ++ p ∷ [] → w.owed ≡ None
    → w'' ≡ record w' { back = p.number ∷ w'.back } → IsPrefix p.known w'.acts → OwedPast w'.acts (length p.known) p.number w'.owed → (Among p.number w'.back → ⊥) → p.mark ≤ w'.mark
    → HasPlaces p.base p.number p.known p.mine
    → AreTaken w passes w'' rest
one_taken w w' w'' passes left rest p t is none same known owed new mark places = record {
  writer = same ∙ ap (λ (x : WriterKnows). record x { back = p.number ∷ w'.back }) t.writer ∙ ap (λ (b : List ℕ). record w { back = b }) (sym back);
  begin = prefix_trans rest left passes (p ∷ [], sym is) t.begin;
  done = λ k q at past. dite (ℕ_discrete k (length rest))
      (λ e. let same_pass : p ≡ q = cc (last_left w w' passes left rest p t is, at, e) in subst (IsTakenBack w) same_pass mine)
      (λ ne. let l = ap length is ∙ length-append rest (p ∷ []) in t.done k q at (omega arith));
  back = subst IsDistinct (sym back) (distinct_more p.number w'.back new t.back);
  count = let l = ap length is ∙ length-append rest (p ∷ []) in let c = t.count in let b = ap length back in omega arith;
  owners = λ n a. ⊎_elim
      (λ (e : p.number ≡ n). (length rest, p, last_left w w' passes left rest p t is, e))
      (λ (b : Among n w'.back). t.owners n b)
      (among_more p.number n w'.back (subst (Among n) back a));
}
  where
    back : w''.back ≡ p.number ∷ w'.back
    back = ap (λ (x : WriterKnows). x.back) same

    mine : IsTakenBack w p
    mine = record {
      known = subst (λ (x : WriterKnows). IsPrefix p.known x.acts) t.writer known;
      owed = subst (λ (o : Option ℕ). OwedPast w.acts (length p.known) p.number o) none (subst (λ (x : WriterKnows). OwedPast x.acts (length p.known) p.number x.owed) t.writer owed);
      places = places;
      mark = subst (λ (x : WriterKnows). p.mark ≤ x.mark) t.writer mark;
    }
