-- Workers at the line begin, and their tokens come back.
use Rattle.std.proofs.Common.{◌≡◌, ◌+◌, ℕ, zero, suc, List, [], ◌∷◌, ◌++◌, length, length-append, slice_get, Option, Some, refl, ap, sym, ◌∙◌, subst, arith, rules, ⊎_elim, append_assoc, append-nil}
use Rattle.crossbeam_queue.specs.declared.array_queue.Slotted.{Slotted}
use Rattle.crossbeam_queue.specs.declared.array_queue.Doing.{Doing}
use Rattle.crossbeam_queue.specs.Passes.{view, IsPassOf}
use Rattle.work_pool.specs.inner.Line.{times, numbers_of, one_part, with_other, AreAmong}
use Rattle.work_pool.specs.inner.Seating.{AreHelpers, joined, taken_of, TakesBack}
use Rattle.work_pool.specs.inner.Serving.{ServedItems, Goes}
use Rattle.work_pool.specs.declared.line.Numbered.{Numbered}
use Rattle.work_pool.specs.declared.line.Known.{Known}
use Rattle.work_pool.specs.declared.server.Server.{Server}
use Rattle.work_pool.proofs.Rule.{get_stays, get_behind, get_of_two, times-append}

-- all items of two lists of lists
pub joined-append : {A : Type 0} (xs ys : List (List A)) → joined (xs ++ ys) ≡ joined xs ++ joined ys
joined-append [] ys = refl
joined-append (x ∷ xs) ys = ap (λ l. x ++ l) (joined-append xs ys) ∙ sym (append_assoc x (joined xs) (joined ys))

module _ {Pass Job Reply : Type 0} where
  more_taken : (seen : List (Server Pass Job Reply)) (server : Server Pass Job Reply) → joined (taken_of (seen ++ server ∷ [])) ≡ joined (taken_of seen) ++ (view server.token).taken
  more_taken [] server = append-nil (view server.token).taken
  more_taken (s ∷ seen) server = ap (λ (l : List (Numbered Job)). (view s.token).taken ++ l) (more_taken seen server) ∙ sym (append_assoc (view s.token).taken (joined (taken_of seen)) (view server.token).taken)

  -- no token came back yet
  pub none_back : (v : Known Job) → TakesBack {Pass = Pass} {Job = Job} {Reply = Reply} [] v v
  none_back v = record { taken = sym (append-nil v.taken); parts = omega arith; alone = refl; feeds = refl; given = refl }

  -- one more did
  pub one_back : (seen : List (Server Pass Job Reply)) (server : Server Pass Job Reply) (old mid new : Known Job) → TakesBack seen old mid → new ≡ with_other mid (view server.token) → (view server.token).parts ≡ 1
      → TakesBack (seen ++ server ∷ []) old new
  one_back seen server old mid new h is part = record {
    taken = ap (λ (v : Known Job). v.taken) is ∙ ap (λ (l : List (Numbered Job)). l ++ (view server.token).taken) h.taken ∙ append_assoc old.taken (joined (taken_of seen)) (view server.token).taken
        ∙ ap (λ (l : List (Numbered Job)). old.taken ++ l) (sym (more_taken seen server));
    parts = omega (arith, ap (λ (v : Known Job). v.parts) is, h.parts, part, length-append seen (server ∷ []));
    alone = ap (λ (v : Known Job). v.alone) is ∙ h.alone;
    feeds = ap (λ (v : Known Job). v.feeds) is ∙ h.feeds;
    given = ap (λ (v : Known Job). v.given) is ∙ h.given;
  }

  -- from the beginning on, the jobs that a worker took are those that it served
  pub served_from : (serves : Pass → Job → Pass → Reply → Type 0) (old new : Server Pass Job Reply) → Goes serves old new → (view old.token).taken ≡ [] → old.work.answers.items ≡ []
      → ServedItems serves (view new.token).taken new.work.answers.items old.work.pass new.work.pass
  served_from serves old new h none fresh =
      let all = h.served old.work.pass [] (subst (λ answers. ServedItems serves [] answers old.work.pass old.work.pass) (sym fresh) refl) in
      subst (λ (l : List (Numbered Job)). ServedItems serves l new.work.answers.items old.work.pass new.work.pass) (sym (h.taken ∙ ap (λ (l : List (Numbered Job)). l ++ h.more) none)) all

module _ {Job : Type 0} where
  -- the jobs of all, where the leader took some more after the tokens came back
  pub total_back : (n : ℕ) (first more : List (Numbered Job)) (others : List (List (Numbered Job))) → times n (numbers_of ((first ++ joined others) ++ more)) ≡ times n (numbers_of (joined ((first ++ more) ∷ others)))
  total_back n first more others =
      omega (arith, times-append n (first ++ joined others) more, times-append n first (joined others), times-append n (first ++ more) (joined others), times-append n first more)

  pub members_back : (first more : List (Numbered Job)) (others : List (List (Numbered Job))) → AreAmong (joined ((first ++ more) ∷ others)) ((first ++ joined others) ++ more)
  members_back first more others i item at = ⊎_elim
      (λ e. ⊎_elim
      (λ f. (i, get_stays (first ++ joined others) more i item (get_stays first (joined others) i item f)))
      (λ t. (length (first ++ joined others) + t.0, get_behind (first ++ joined others) more t.0 ∙ t.2))
      (get_of_two first more i item e))
      (λ t. (length first + t.0, get_stays (first ++ joined others) more (length first + t.0) item (get_behind first (joined others) t.0 ∙ t.2)))
      (get_of_two (first ++ more) (joined others) i item at)

module _ {Pass Job Reply Q A : Type 0} (line : Slotted (Option (Numbered Job)) (Doing (Numbered Job) (Known Job)) Q A) where
  -- one helper more
  pub one_helper_more : (helpers : List (Server Pass Job Reply)) (server : Server Pass Job Reply) → AreHelpers line helpers
      → IsPassOf line server.token × (view server.token ≡ one_part) × (server.work.answers.items ≡ []) → AreHelpers line (helpers ++ server ∷ [])
  one_helper_more helpers server h new k x at = ⊎_elim (λ e. h k x e) (λ t. fits t.0 x t.2) (get_of_two helpers (server ∷ []) k x at)
    where
      fits : (i : ℕ) (x : Server Pass Job Reply) → slice_get (server ∷ []) i ≡ Some x → IsPassOf line x.token × (view x.token ≡ one_part) × (x.work.answers.items ≡ [])
      fits zero x e = let is : server ≡ x = search rules in subst (λ (s : Server Pass Job Reply). IsPassOf line s.token × (view s.token ≡ one_part) × (s.work.answers.items ≡ [])) is new
      fits (suc i) x e = absurd (search rules)
