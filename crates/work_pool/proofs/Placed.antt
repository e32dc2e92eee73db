-- The replies of all works are put where their numbers say.
use Rattle.std.proofs.Common.{◌≡◌, ◌≢◌, ◌<◌, ◌≤◌, ◌+◌, ◌-◌, ℕ, suc, List, length, length-set, set, map, get_or, slice_get, Option, Some, option_and_then, refl, ap, sym, ◌∙◌, subst, arith, ⊎_elim, eq-or-lt_of_le}
use Rattle.std.proofs.Math.Seq.{map-set_same}
use Rattle.std.proofs.lemmas.List.{length-map, map-set}
use Rattle.std.proofs.lemmas.Option.{slice_get-get_or, slice_get_within, same_Some}
use Rattle.work_pool.specs.Fed.{AreApart, AreReplies, AreWhole, AreWithin, answer_in}
use Rattle.work_pool.specs.inner.Placing.{AreDistinct, ArePlaced, AreSlots, KeepsOthers, lists_of}
use Rattle.work_pool.specs.declared.server.Answer.{Answer}
use Rattle.work_pool.specs.declared.server.Work.{Work}
use Rattle.work_pool.proofs.Answered.{list_of}
use Rattle.work_pool.proofs.Slots.{get_set_other}
use Rattle.work_pool.proofs.Told.{get_map, map_get}

-- the replies of the works below place k are in their slots; the works from there on have theirs still
pub record AreBelow {Pass Reply : Type 0} (olds : List (Work Pass Reply)) (count k : ℕ) (works : List (Work Pass Reply)) (slots : List (Option Reply)) : Type 0 where
  pub works_count : length works ≡ length olds
  pub slots_count : length slots ≡ count
  pub passes : map (λ work. work.pass) works ≡ map (λ work. work.pass) olds
  pub later : (j : ℕ) → k ≤ j → slice_get (lists_of works) j ≡ slice_get (lists_of olds) j
  pub placed : (j : ℕ) (list : List (Answer Reply)) → j < k → slice_get (lists_of olds) j ≡ Some list → ArePlaced list slots

module _ {Pass Reply : Type 0} where
  -- at the beginning
  pub none_below : (olds : List (Work Pass Reply)) (count : ℕ) (slots : List (Option Reply)) → length slots ≡ count → AreBelow olds count 0 olds slots
  none_below olds count slots long = record { works_count = refl; slots_count = long; passes = refl; later = λ j from. refl; placed = λ j list below at. absurd (omega arith) }

  -- the answers of the work whose turn it is
  pub turn : (olds : List (Work Pass Reply)) (count k : ℕ) (works : List (Work Pass Reply)) (slots : List (Option Reply)) (d : Work Pass Reply) (mine : List (Answer Reply)) → AreBelow olds count k works slots
      → k < length works → mine ≡ (get_or works k d).answers.items → slice_get (lists_of olds) k ≡ Some mine
  turn olds count k works slots d mine h within is =
      sym (h.later k (omega arith)) ∙ get_map (λ (work : Work Pass Reply). work.answers.items) works k (get_or works k d) (slice_get-get_or works k d within) ∙ ap (λ (l : List (Answer Reply)). Some l) (sym is)

  -- and at the end
  pub all_below : (olds : List (Work Pass Reply)) (count k : ℕ) (works : List (Work Pass Reply)) (slots : List (Option Reply)) → AreBelow olds count k works slots → length works ≤ k
      → (j : ℕ) (list : List (Answer Reply)) → slice_get (lists_of olds) j ≡ Some list → ArePlaced list slots
  all_below olds count k works slots h end j list at =
      h.placed j list (omega (arith, slice_get_within (lists_of olds) j list at, length-map olds (λ (work : Work Pass Reply). work.answers.items), h.works_count, end)) at

module _ {Pass Reply : Type 0} (olds : List (Work Pass Reply)) (count : ℕ) (within : AreWithin (lists_of olds) count) (apart : AreApart (lists_of olds)) where
  found : (k i : ℕ) (list : List (Answer Reply)) (a : Answer Reply) → slice_get (lists_of olds) k ≡ Some list → slice_get list i ≡ Some a → answer_in (lists_of olds) k i ≡ Some a
  found k i list a there at = ap (option_and_then (λ (l : List (Answer Reply)). slice_get l i)) there ∙ at

  -- the numbers of one work
  pub are_slots : (k : ℕ) (list : List (Answer Reply)) → slice_get (lists_of olds) k ≡ Some list → AreSlots count list
  are_slots k list there i a at = within k i a (found k i list a there at)

  pub are_distinct : (k : ℕ) (list : List (Answer Reply)) → slice_get (lists_of olds) k ≡ Some list → AreDistinct list
  are_distinct k list there i j a b at at' same = (apart k i k j a b (found k i list a there at) (found k j list b there at') same).1

  -- the slots of another work stay
  stays : (j k : ℕ) (list mine : List (Answer Reply)) (before after : List (Option Reply)) → j ≢ k → slice_get (lists_of olds) j ≡ Some list → slice_get (lists_of olds) k ≡ Some mine → KeepsOthers mine before after
      → ArePlaced list before → ArePlaced list after
  stays j k list mine before after other there here kept placed i a at =
      let one = within j i a (found j i list a there at) in
      kept.others (a.number - 1) (λ m b at' same.
      let two = within k m b (found k m mine b here at') in
      let e : a.number ≡ b.number = omega (arith, one.0, two.0, same) in
      other (apart j i k m a b (found j i list a there at) (found k m mine b here at') e).0)
      ∙ placed i a at

  -- one work more
  pub one_below : (k : ℕ) (works : List (Work Pass Reply)) (d x : Work Pass Reply) (mine : List (Answer Reply)) (before after : List (Option Reply)) → AreBelow olds count k works before → k < length works
      → mine ≡ (get_or works k d).answers.items → x.pass ≡ (get_or works k d).pass → ArePlaced mine after → KeepsOthers mine before after → AreBelow olds count (k + 1) (set works k x) after
  one_below k works d x mine before after h inside is same placed kept =
      let here = turn olds count k works before d mine h inside is in
      record {
        works_count = length-set works k x ∙ h.works_count;
        slots_count = kept.count ∙ h.slots_count;
        passes = map-set_same (λ (work : Work Pass Reply). work.pass) works k x d same ∙ h.passes;
        later = λ j from.
            let other : j ≢ k = λ e. omega (arith, e, from) in
            ap (λ (l : List (List (Answer Reply))). slice_get l j) (map-set (λ (work : Work Pass Reply). work.answers.items) works k x)
            ∙ get_set_other (lists_of works) k j x.answers.items other ∙ h.later j (omega (arith, from));
        placed = λ j list below there.
            let low : j ≤ k = omega (arith, below) in
            ⊎_elim
            (λ (e : j ≡ k). subst (λ (l : List (Answer Reply)). ArePlaced l after) (same_Some mine list (sym here ∙ ap (λ (n : ℕ). slice_get (lists_of olds) n) (sym e) ∙ there)) placed)
            (λ (less : j < k).
            let other : j ≢ k = λ e. omega (arith, e, less) in
            stays j k list mine before after other there here kept (h.placed j list less there))
            (eq-or-lt_of_le low);
      }

module _ {Reply : Type 0} (lists : List (List (Answer Reply))) (slots : List (Option Reply)) (placed : (k : ℕ) (list : List (Answer Reply)) → slice_get lists k ≡ Some list → ArePlaced list slots) where
  -- the slot of an answer
  slot_of : (k i : ℕ) (a : Answer Reply) → answer_in lists k i ≡ Some a → slice_get slots (a.number - 1) ≡ Some (Some a.reply)
  slot_of k i a at = let l = list_of lists k i a at in placed k l.0 l.1 i a l.2

  -- each slot has a reply
  pub are_full : (count m : ℕ) → AreWhole lists count → m < count → (reply : Reply) × (slice_get slots m ≡ Some (Some reply))
  are_full count m whole below =
      let t = whole (suc m) (omega arith) (omega arith) in
      let place : t.2.number - 1 ≡ m = omega (arith, t.4) in
      (t.2.reply, ap (λ (n : ℕ). slice_get slots n) (sym place) ∙ slot_of t.0 t.1 t.2 t.3)

  -- and they are the replies
  pub are_replies : (replies : List Reply) → map (λ reply. Some reply) replies ≡ slots → AreReplies lists replies
  are_replies replies is k i a at =
      let t = map_get (λ (reply : Reply). Some reply) replies (a.number - 1) (Some a.reply) (ap (λ (l : List (Option Reply)). slice_get l (a.number - 1)) is ∙ slot_of k i a at) in
      t.1 ∙ t.2
