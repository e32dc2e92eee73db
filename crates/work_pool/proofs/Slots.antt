-- Replies are put where their numbers say.
use Rattle.std.proofs.Common.{◌≡◌, ◌≢◌, ◌<◌, ◌+◌, ◌-◌, ℕ, zero, suc, List, [], ◌∷◌, ◌++◌, length, length-set, set, slice_get, Option, Some, refl, ap, sym, ◌∙◌, subst, arith, rules, ⊎_elim, append_assoc}
use Rattle.work_pool.specs.inner.Placing.{AreDistinct, ArePlaced, AreSlots, KeepsOthers}
use Rattle.work_pool.specs.declared.server.Answer.{Answer}
use Rattle.work_pool.proofs.Rule.{get_stays, get_behind, get_of_two}

module _ {A : Type 0} where
  pub get_set : (xs : List A) (i : ℕ) (x : A) → i < length xs → slice_get (set xs i x) i ≡ Some x
  get_set [] i x within = absurd (omega arith)
  get_set (y ∷ xs) zero x within = refl
  get_set (y ∷ xs) (suc i) x within = get_set xs i x (omega arith)

  pub get_set_other : (xs : List A) (i j : ℕ) (x : A) → j ≢ i → slice_get (set xs i x) j ≡ slice_get xs j
  get_set_other [] i j x apart = refl
  get_set_other (y ∷ xs) zero zero x apart = absurd (apart refl)
  get_set_other (y ∷ xs) zero (suc j) x apart = refl
  get_set_other (y ∷ xs) (suc i) zero x apart = refl
  get_set_other (y ∷ xs) (suc i) (suc j) x apart = get_set_other xs i j x (λ e. apart (ap suc e))

  -- the item behind others
  pub get_seam : (xs rest : List A) (x : A) (all : List A) → xs ++ x ∷ rest ≡ all → slice_get all (length xs) ≡ Some x
  get_seam xs rest x all is =
      let e : length xs + 0 ≡ length xs = omega arith in
      ap (λ l. slice_get l (length xs)) (sym is) ∙ ap (λ n. slice_get (xs ++ x ∷ rest) n) (sym e) ∙ get_behind xs (x ∷ rest) 0

module _ {Reply : Type 0} where
  pub none_placed : (slots : List (Option Reply)) → KeepsOthers [] slots slots
  none_placed slots = record { count = refl; others = λ m no. refl }

  below_seam : (seen : List (Answer Reply)) (i : ℕ) (x : Answer Reply) → slice_get seen i ≡ Some x → i ≡ length seen → ⊥
  below_seam [] i x at is = absurd (search rules)
  below_seam (s ∷ seen) zero x at is = absurd (omega arith)
  below_seam (s ∷ seen) (suc i) x at is = below_seam seen i x at (omega arith)

  only_item : (a : Answer Reply) (i : ℕ) (x : Answer Reply) → slice_get (a ∷ []) i ≡ Some x → a ≡ x
  only_item a zero x at = search rules
  only_item a (suc i) x at = absurd (search rules)

  -- one more reply is put in its place
  pub one_placed : (seen : List (Answer Reply)) (a : Answer Reply) (rest all : List (Answer Reply)) (slots : List (Option Reply)) → seen ++ a ∷ rest ≡ all → AreDistinct all → AreSlots (length slots) all
      → ArePlaced seen slots → ArePlaced (seen ++ a ∷ []) (set slots (a.number - 1) (Some a.reply))
  one_placed seen a rest all slots is apart within h i x at = ⊎_elim
      (λ e.
      let there : slice_get all i ≡ Some x = ap (λ l. slice_get l i) (sym is) ∙ get_stays seen (a ∷ rest) i x e in
      let low = within i x there in
      let mine = get_seam seen rest a all is in
      let low' = within (length seen) a mine in
      let other : x.number - 1 ≢ a.number - 1 = λ same. below_seam seen i x e (apart i (length seen) x a there mine (omega (arith, same, low.0, low'.0))) in
      get_set_other slots (a.number - 1) (x.number - 1) (Some a.reply) other ∙ h i x e)
      (λ t.
      let same : a ≡ x = only_item a t.0 x t.2 in
      let low = within (length seen) a (get_seam seen rest a all is) in
      subst (λ (y : Answer Reply). slice_get (set slots (a.number - 1) (Some a.reply)) (y.number - 1) ≡ Some (Some y.reply)) same (get_set slots (a.number - 1) (Some a.reply) (omega (arith, low.0, low.1))))
      (get_of_two seen (a ∷ []) i x at)

  pub one_kept : (seen : List (Answer Reply)) (a : Answer Reply) (old slots : List (Option Reply)) → KeepsOthers seen old slots → KeepsOthers (seen ++ a ∷ []) old (set slots (a.number - 1) (Some a.reply))
  one_kept seen a old slots h = record {
    count = length-set slots (a.number - 1) (Some a.reply) ∙ h.count;
    others = λ m no.
        get_set_other slots (a.number - 1) m (Some a.reply) (λ same. no (length seen) a (get_seam seen [] a (seen ++ a ∷ []) refl) (sym same))
        ∙ h.others m (λ i x at. no i x (get_stays seen (a ∷ []) i x at));
  }

  -- and so the reply of the next answer is
  pub one_put : (seen : List (Answer Reply)) (a : Answer Reply) (rest left all : List (Answer Reply)) (count : ℕ) (old slots : List (Option Reply)) → left ≡ a ∷ rest → seen ++ left ≡ all → count ≡ length old
      → AreSlots count all → AreDistinct all → ArePlaced seen slots → KeepsOthers seen old slots
      → ((seen ++ a ∷ []) ++ rest ≡ all) × ArePlaced (seen ++ a ∷ []) (set slots (a.number - 1) (Some a.reply)) × KeepsOthers (seen ++ a ∷ []) old (set slots (a.number - 1) (Some a.reply))
  one_put seen a rest left all count old slots next is count_is within apart placed others =
      let whole : seen ++ a ∷ rest ≡ all = ap (λ (l : List (Answer Reply)). seen ++ l) (sym next) ∙ is in (
        append_assoc seen (a ∷ []) rest ∙ whole,
        one_placed seen a rest all slots whole apart (subst (λ (n : ℕ). AreSlots n all) (count_is ∙ sym others.count) within) placed,
        one_kept seen a old slots others,
      )
