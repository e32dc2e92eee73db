-- The end of a run over a feed.
use Rattle.std.proofs.Common.{◌≡◌, ◌+◌, ℕ, zero, suc, true, List, [], ◌∷◌, ◌++◌, length, map, slice_get, Option, Some, Result, Ok, Err, IfOk, refl, ap, sym, ◌∙◌, subst, arith, rules, append-nil}
use Rattle.std.proofs.lemmas.List.{length-map}
use Rattle.crossbeam_queue.specs.declared.array_queue.Slotted.{Slotted}
use Rattle.crossbeam_queue.specs.declared.array_queue.Doing.{Doing}
use Rattle.crossbeam_queue.specs.Fifo.{Held}
use Rattle.crossbeam_queue.specs.Passes.{view}
use Rattle.work_pool.specs.inner.Ending.{HasEnded}
use Rattle.work_pool.specs.inner.Line.{IsAll, Tells, numbers_of, times}
use Rattle.work_pool.specs.inner.Placing.{lists_of}
use Rattle.work_pool.specs.inner.Seating.{AllGo, AreHelpers, IsLeader, TakesBack, joined, taken_of}
use Rattle.work_pool.specs.Served.{most_workers}
use Rattle.work_pool.specs.inner.Serving.{Goes, PutsNone, ServedItems}
use Rattle.work_pool.specs.declared.line.Numbered.{Numbered}
use Rattle.work_pool.specs.declared.line.Known.{Known}
use Rattle.work_pool.specs.declared.server.Answer.{Answer}
use Rattle.work_pool.specs.declared.server.Work.{Work}
use Rattle.work_pool.specs.declared.server.Server.{Server}
use Rattle.work_pool.proofs.Answered.{IsServed}
use Rattle.work_pool.proofs.Seated.{members_back, served_from, total_back}
use Rattle.work_pool.proofs.Told.{get_map, map_get}

module _ {Pass Job Reply : Type 0} (serves : Pass → Job → Pass → Reply → Type 0) where
  -- the tokens came back, and the leader served what was left
  pub has_ended : {E : Type 0} (helpers : List (Server Pass Job Reply)) (old mid served new : Server Pass Job Reply) (fed result : Result ℕ E) → TakesBack helpers (view old.token) (view mid.token) → mid.work ≡ old.work
      → Goes serves mid served → PutsNone mid served → view new.token ≡ view served.token → new.work ≡ served.work → (view old.token).feeds ≡ true → (view old.token).parts + length helpers ≡ most_workers
      → (items : List (Numbered Job)) × Tells (view served.token) items → IfOk result (λ count. fed ≡ Ok count) → IfOk result (λ _. Held 0 (Tells (view served.token))) → HasEnded serves helpers old new fed result
  has_ended {E} helpers old mid served new fed result back same goes none known work feeds parts learned counted empty = from result counted empty
    where
      all_of : (items : List (Numbered Job)) → Tells (view served.token) items → IsAll (view new.token) items
      all_of items tells = subst (λ (v : Known Job). IsAll v items) (sym known) (tells (goes.feeds ∙ back.feeds ∙ feeds) (goes.parts ∙ back.parts ∙ parts))

      with_items : (result : Result ℕ E) (items : List (Numbered Job)) → IsAll (view new.token) items → IfOk result (λ count. (fed ≡ Ok count) × (items ≡ [])) → HasEnded serves helpers old new fed result
      with_items result items all whole = record {
        more = goes.more;
        items = items;
        all = all;
        taken = ap (λ (v : Known Job). v.taken) known ∙ goes.taken ∙ ap (λ (l : List (Numbered Job)). l ++ goes.more) back.taken;
        served = λ before its h. subst (λ (w : Work Pass Reply). ServedItems serves (its ++ goes.more) w.answers.items before w.pass) (sym work)
            (goes.served before its (subst (λ (w : Work Pass Reply). ServedItems serves its w.answers.items before w.pass) (sym same) h));
        alone = ap (λ (v : Known Job). v.alone) known ∙ goes.alone ∙ back.alone;
        given = ap (λ (v : Known Job). v.given) known ∙ none ∙ back.given;
        whole = whole;
      }

      nothing : (items : List (Numbered Job)) → length items ≡ 0 → items ≡ []
      nothing [] e = refl
      nothing (x ∷ items) e = absurd (omega arith)

      from : (result : Result ℕ E) → IfOk result (λ count. fed ≡ Ok count) → IfOk result (λ _. Held 0 (Tells (view served.token))) → HasEnded serves helpers old new fed result
      from (Ok count) counted empty = with_items (Ok count) empty.0 (all_of empty.0 empty.2) (counted, nothing empty.0 empty.1)
      from (Err e) counted empty = with_items (Err e) learned.0 (all_of learned.0 learned.1) tt

  -- the helpers served what they took
  helpers_served : {Q A : Type 0} (line : Slotted (Option (Numbered Job)) (Doing (Numbered Job) (Known Job)) Q A) (old new : List (Server Pass Job Reply)) → AreHelpers line old → AllGo serves old new
      → (k : ℕ) (took : List (Numbered Job)) (list : List (Answer Reply)) (pass next : Pass) → slice_get (taken_of new) k ≡ Some took → slice_get (lists_of (map (λ server. server.work) new)) k ≡ Some list
      → slice_get (map (λ server. server.work.pass) old) k ≡ Some pass → slice_get (map (λ work. work.pass) (map (λ server. server.work) new)) k ≡ Some next → ServedItems serves took list pass next
  helpers_served line old new fresh all k took list pass next at at' at'' at''' =
      let now = map_get (λ (s : Server Pass Job Reply). (view s.token).taken) new k took at in
      let was = map_get (λ (s : Server Pass Job Reply). s.work.pass) old k pass at'' in
      let work = map_get (λ (w : Work Pass Reply). w.answers.items) (map (λ (s : Server Pass Job Reply). s.work) new) k list at' in
      let work' = map_get (λ (w : Work Pass Reply). w.pass) (map (λ (s : Server Pass Job Reply). s.work) new) k next at''' in
      let its : Some now.0.work ≡ Some work.0 = sym (get_map_of now.0 now.1) ∙ work.1 in
      let its' : Some now.0.work ≡ Some work'.0 = sym (get_map_of now.0 now.1) ∙ work'.1 in
      let new_one = fresh k was.0 was.1 in
      let s = served_from serves was.0 now.0 (all.each k was.0 now.0 was.1 now.1) (ap (λ (v : Known Job). v.taken) new_one.1) new_one.2 in
      subst (λ (x : List (Numbered Job) × List (Answer Reply) × Pass × Pass). ServedItems serves x.0 x.1 x.2 x.3)
      (λ i. (now.2 i, (ap (λ (w : Work Pass Reply). w.answers.items) (some_same its) ∙ work.2) i, was.2 i, (ap (λ (w : Work Pass Reply). w.pass) (some_same its') ∙ work'.2) i)) s
    where
      get_map_of : (s : Server Pass Job Reply) → slice_get new k ≡ Some s → slice_get (map (λ (x : Server Pass Job Reply). x.work) new) k ≡ Some s.work
      get_map_of s e = get_map (λ (x : Server Pass Job Reply). x.work) new k s e

      some_same : {a b : Work Pass Reply} → Some a ≡ Some b → a ≡ b
      some_same e = search rules

  -- what is known at the end
  pub is_served : {E Q A : Type 0} (line : Slotted (Option (Numbered Job)) (Doing (Numbered Job) (Known Job)) Q A) (first led last : Server Pass Job Reply) (helpers helped : List (Server Pass Job Reply)) (jobs lost : List Job) (fed result : Result ℕ E)
      → IsLeader line (length helpers) first → AreHelpers line helpers → Goes serves first led → AllGo serves helpers helped → (e : HasEnded serves helped led last fed result) → jobs ≡ (view led.token).given ++ lost
      → IsServed serves (first.work.pass ∷ map (λ server. server.work.pass) helpers) (map (λ work. work.pass) (last.work ∷ map (λ server. server.work) helped))
      (((view led.token).taken ++ e.more) ∷ taken_of helped) (lists_of (last.work ∷ map (λ server. server.work) helped)) (view last.token) e.items jobs
  is_served line first led last helpers helped jobs lost fed result leads fresh goes all e given =
      let same = all.count in
      record {
        passes = ap suc (length-map (map (λ (s : Server Pass Job Reply). s.work) helped) (λ (w : Work Pass Reply). w.pass) ∙ length-map helped (λ (s : Server Pass Job Reply). s.work) ∙ same ∙ sym (length-map helpers (λ (s : Server Pass Job Reply). s.work.pass)));
        tooks_count = ap suc (length-map helped (λ (s : Server Pass Job Reply). (view s.token).taken) ∙ same ∙ sym (length-map helpers (λ (s : Server Pass Job Reply). s.work.pass)));
        one_each = ap suc (length-map (map (λ (s : Server Pass Job Reply). s.work) helped) (λ (w : Work Pass Reply). w.answers.items) ∙ length-map helped (λ (s : Server Pass Job Reply). s.work) ∙ same ∙ sym (length-map helpers (λ (s : Server Pass Job Reply). s.work.pass)));
        served = each;
        all = e.all;
        total = λ n. ap (λ (l : List (Numbered Job)). times n (numbers_of l)) e.taken ∙ total_back n (view led.token).taken e.more (taken_of helped);
        members = λ i item at. let m = members_back (view led.token).taken e.more (taken_of helped) i item at in (m.0, ap (λ (l : List (Numbered Job)). slice_get l m.0) e.taken ∙ m.1);
        one = λ alone. alone_list alone;
        lost = lost;
        given = given ∙ ap (λ (l : List Job). l ++ lost) (sym e.given);
      }
    where
      start : ServedItems serves (view led.token).taken led.work.answers.items first.work.pass led.work.pass
      start = served_from serves first led goes leads.taken leads.answers

      each : (k : ℕ) (took : List (Numbered Job)) (list : List (Answer Reply)) (pass next : Pass) → slice_get (((view led.token).taken ++ e.more) ∷ taken_of helped) k ≡ Some took
          → slice_get (lists_of (last.work ∷ map (λ server. server.work) helped)) k ≡ Some list → slice_get (first.work.pass ∷ map (λ server. server.work.pass) helpers) k ≡ Some pass
          → slice_get (map (λ work. work.pass) (last.work ∷ map (λ server. server.work) helped)) k ≡ Some next → ServedItems serves took list pass next
      each zero took list pass next at at' at'' at''' =
          let is : (view led.token).taken ++ e.more ≡ took = search rules in
          let is' : last.work.answers.items ≡ list = search rules in
          let is'' : first.work.pass ≡ pass = search rules in
          let is''' : last.work.pass ≡ next = search rules in
          subst (λ (x : List (Numbered Job) × List (Answer Reply) × Pass × Pass). ServedItems serves x.0 x.1 x.2 x.3) (λ i. (is i, is' i, is'' i, is''' i)) (e.served first.work.pass (view led.token).taken start)
      each (suc k) took list pass next at at' at'' at''' = helpers_served line helpers helped fresh all k took list pass next at at' at'' at'''

      nobody : (l : List (Server Pass Job Reply)) → length l ≡ 0 → l ≡ []
      nobody [] q = refl
      nobody (x ∷ l) q = absurd (omega arith)

      alone_list : suc (length (map (λ (server : Server Pass Job Reply). server.work.pass) helpers)) ≡ 1 → joined (((view led.token).taken ++ e.more) ∷ taken_of helped) ≡ e.all.left
      alone_list one =
          let none : length helpers ≡ 0 = omega (arith, one, length-map helpers (λ (s : Server Pass Job Reply). s.work.pass)) in
          let gone : helped ≡ [] = nobody helped (all.count ∙ none) in
          let left = e.all.alone (e.alone ∙ goes.alone ∙ leads.alone none) in
          let took : (view last.token).taken ≡ (view led.token).taken ++ e.more = e.taken ∙ ap (λ (l : List (Server Pass Job Reply)). ((view led.token).taken ++ joined (taken_of l)) ++ e.more) gone ∙ ap (λ (l : List (Numbered Job)). l ++ e.more) (append-nil (view led.token).taken) in
          ap (λ (l : List (Server Pass Job Reply)). ((view led.token).taken ++ e.more) ++ joined (taken_of l)) gone ∙ append-nil ((view led.token).taken ++ e.more) ∙ sym took ∙ left
