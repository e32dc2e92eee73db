-- Passes that belong to books, where one is taken off a list or put back.
use Rattle.std.proofs.Common.{◌≡◌, ⊎_elim, List, [], ◌∷◌, ◌++◌, length, Some, slice_get, sym, subst}
use Rattle.front_word.specs.Known.{PassKnows}
use Rattle.front_word.proofs.laws.Prefixes.{get_last, get_snoc, prefix_get}
use Rattle.corr_books.specs.Opening.{Opening}
use Rattle.corr_books.specs.Passes.{AllBelong, AreNew, Belongs}

-- new passes do
pub all_new : (o : Opening) (passes : List PassKnows) → AreNew o passes → AllBelong o passes
all_new o passes new k p at = (new.each k p at).belongs

module _ (o : Opening) (passes rest : List PassKnows) (last : PassKnows) (is : passes ≡ rest ++ last ∷ []) where
  -- so do all but the last
  pub but_last : AllBelong o passes → AllBelong o rest
  but_last all k p at = all k p (prefix_get rest passes k p (last ∷ [], sym is) at)

  -- and the last
  pub the_last : AllBelong o passes → Belongs o last
  the_last all = all (length rest) last (subst (λ (l : List PassKnows). slice_get l (length rest) ≡ Some last) (sym is) (get_last rest last))

  -- and all, where these do
  pub with_last : AllBelong o rest → Belongs o last → AllBelong o passes
  with_last all one k p at =
      ⊎_elim
      (λ (t : slice_get rest k ≡ Some p). all k p t)
      (λ (t : (k ≡ length rest) × (last ≡ p)). subst (Belongs o) t.1 one)
      (get_snoc rest last p k (subst (λ (l : List PassKnows). slice_get l k ≡ Some p) is at))
