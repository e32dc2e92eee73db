-- A run over a feed, from the workers that are ready to what is told of it.
use Rattle.std.proofs.Common.{◌≡◌, ◌<◌, ◌≤◌, ℕ, zero, suc, Bool, true, List, [], ◌∷◌, ◌++◌, length, length-append, map, slice_get, Option, Some, Result, Ok, Err, IfOk, refl, ap, sym, ◌∙◌, subst, arith}
use Rattle.std.specs.Global.{Vec}
use Rattle.std.proofs.lemmas.List.{length-map}
use Rattle.std.proofs.lemmas.Option.{slice_get_within, get_or_from_slice_get, same_Some}
use Rattle.std.proofs.Common.{get_or}
use Rattle.crossbeam_queue.specs.declared.array_queue.Slotted.{Slotted}
use Rattle.crossbeam_queue.specs.declared.array_queue.Doing.{Doing}
use Rattle.crossbeam_queue.specs.Passes.{view}
use Rattle.work_pool.specs.inner.Ending.{HasEnded}
use Rattle.work_pool.specs.Fed.{AreApart, AreFed, AreReplies, AreWhole, AreWithin}
use Rattle.work_pool.specs.inner.Placing.{lists_of}
use Rattle.work_pool.specs.inner.Seating.{AllGo, AreHelpers, AreHelping, AreReady, IsLeader, taken_of}
use Rattle.work_pool.specs.Served.{AllTaken, most_workers}
use Rattle.work_pool.specs.inner.Serving.{Goes, HasFed, IsReady}
use Rattle.work_pool.specs.declared.line.Numbered.{Numbered}
use Rattle.work_pool.specs.declared.line.Known.{Known}
use Rattle.work_pool.specs.declared.server.Work.{Work}
use Rattle.work_pool.specs.declared.server.Server.{Server}
use Rattle.work_pool.proofs.Answered.{IsServed, apart, are_fed, get_there, whole, within}
use Rattle.work_pool.proofs.Ended.{is_served}
use Rattle.work_pool.proofs.Told.{get_map, map_get}

module _ {A : Type 0} where
  -- what holds of the element at each place holds of all
  pub all_at : (P : A → Type 0) (olds news : List A) → length news ≡ length olds → ((k : ℕ) (d : A) → k < length olds → (x : A) × (x ≡ get_or news k d) × P x) → (k : ℕ) (x : A) → slice_get news k ≡ Some x → P x
  all_at P olds news even each k x at =
      let within = slice_get_within news k x at in
      let e = each k x (omega (arith, even, within)) in
      subst P (e.1 ∙ get_or_from_slice_get news k x x at) e.2

  -- and what holds of an element before and after
  pub both_at : (P : A → A → Type 0) (olds news : List A) (k : ℕ) (before after argument result : A) → slice_get olds k ≡ Some before → slice_get news k ≡ Some after → argument ≡ get_or olds k before → result ≡ get_or news k before
      → P argument result → P before after
  both_at P olds news k before after argument result at at' is left p =
      let old : argument ≡ before = is ∙ get_or_from_slice_get olds k before before at in
      let new : result ≡ after = left ∙ get_or_from_slice_get news k after before at' in
      subst (λ (x : A × A). P x.0 x.1) (λ i. (old i, new i)) p

  none_left : (xs : List A) → length xs ≡ 0 → xs ≡ []
  none_left [] none = refl
  none_left (x ∷ xs) none = absurd (omega arith)

module _ {Pass Job Reply Q A : Type 0} (line : Slotted (Option (Numbered Job)) (Doing (Numbered Job) (Known Job)) Q A) (takes : Pass → Type 0) where
  -- the leader may begin
  pub leader_ready : (passes : List Pass) (first : Server Pass Job Reply) (helpers : List (Server Pass Job Reply)) → AllTaken takes passes → length passes ≤ most_workers
      → first.work.pass ∷ map (λ server. server.work.pass) helpers ≡ passes → IsLeader line (length helpers) first → IsReady takes line first
  leader_ready passes first helpers taken few are leads = record {
    taken = taken 0 first.work.pass (ap (λ (l : List Pass). slice_get l 0) (sym are));
    of_line = leads.of_line;
    part = omega (arith, leads.parts, few, ap (λ (l : List Pass). length l) are, length-map helpers (λ (server : Server Pass Job Reply). server.work.pass));
  }

  -- and so may the helpers
  pub helpers_ready : (passes : List Pass) (first : Pass) (helpers : List (Server Pass Job Reply)) → AllTaken takes passes → first ∷ map (λ server. server.work.pass) helpers ≡ passes → AreHelpers line helpers → AreReady line takes helpers
  helpers_ready passes first helpers taken are fresh k server at =
      let h = fresh k server at in
      record {
        taken = taken (suc k) server.work.pass (ap (λ (l : List Pass). slice_get l (suc k)) (sym are) ∙ get_map (λ (s : Server Pass Job Reply). s.work.pass) helpers k server at);
        of_line = h.0;
        part = omega (arith, ap (λ (v : Known Job). v.parts) h.1);
      }

  -- helpers that went on help still
  pub still_helping : (serves : Pass → Job → Pass → Reply → Type 0) (helpers helped : List (Server Pass Job Reply)) → AreHelpers line helpers → AreReady line takes helped → AllGo serves helpers helped → AreHelping line helped
  still_helping serves helpers helped fresh ready all k server at =
      let was = get_there helpers k (omega (arith, slice_get_within helped k server at, all.count)) in
      let goes = all.each k was.0 server was.1 at in
      let h = fresh k was.0 was.1 in
      ((ready k server at).of_line, goes.parts ∙ ap (λ (v : Known Job). v.parts) h.1, goes.feeds ∙ ap (λ (v : Known Job). v.feeds) h.1)

  -- the desk takes the passes that come back
  pub taken_back : (last : Server Pass Job Reply) (helped : List (Server Pass Job Reply)) (works : List (Work Pass Reply)) → IsReady takes line last → AreReady line takes helped
      → works ≡ last.work ∷ map (λ server. server.work) helped → AllTaken takes (map (λ work. work.pass) works)
  taken_back last helped works ready others are = subst (λ (l : List (Work Pass Reply)). AllTaken takes (map (λ work. work.pass) l)) (sym are) each
    where
      each : AllTaken takes (map (λ work. work.pass) (last.work ∷ map (λ server. server.work) helped))
      each zero pass at = subst takes (same_Some last.work.pass pass at) ready.taken
      each (suc k) pass at =
          let work = map_get (λ (w : Work Pass Reply). w.pass) (map (λ (s : Server Pass Job Reply). s.work) helped) k pass at in
          let server = map_get (λ (s : Server Pass Job Reply). s.work) helped k work.0 work.1 in
          subst takes (ap (λ (w : Work Pass Reply). w.pass) server.2 ∙ work.2) (others k server.0 server.1).taken

-- how many jobs there were, where they were counted: all that the feed gave before its end, and none is left in the line
abbrev pub AreCounted : {Job E : Type 0} → List Job → List Job → Bool → List (Numbered Job) → Result ℕ E → Type 0
AreCounted put jobs ended items counted = IfOk counted (λ count. (count ≡ length put) × (length jobs ≡ length put) × (ended ≡ true) × (items ≡ []))

are_counted : {Job E : Type 0} (given put lost : List Job) (ended : Bool) (items : List (Numbered Job)) (fed counted : Result ℕ E) → given ≡ put → IfOk fed (λ count. (lost ≡ []) × (count ≡ length put) × (ended ≡ true))
    → IfOk counted (λ count. (fed ≡ Ok count) × (items ≡ [])) → AreCounted given (put ++ lost) ended items counted
are_counted {Job} {E} given put lost ended items fed (Ok count) is whole at_end =
    let t = subst (λ (r : Result ℕ E). IfOk r (λ n. (lost ≡ []) × (n ≡ length put) × (ended ≡ true))) at_end.0 whole in
    let same = ap (λ (l : List Job). length l) is in (
      omega (arith, t.1, same),
      omega (arith, length-append put lost, ap (λ (l : List Job). length l) t.0, same),
      t.2,
      at_end.1,
    )
are_counted given put lost ended items fed (Err e) is whole at_end = tt

-- all that is known once the workers have ended, where these are their works
pub record HasRun {Pass Job Reply E : Type 0} (serves : Pass → Job → Pass → Reply → Type 0) (passes : List Pass) (jobs : List Job) (ended : Bool) (counted : Result ℕ E) (works : List (Work Pass Reply)) : Type 0 where
  pub tooks : List (List (Numbered Job))
  pub known : Known Job
  pub items : List (Numbered Job)
  pub served : IsServed serves passes (map (λ work. work.pass) works) tooks (lists_of works) known items jobs
  pub whole : AreCounted known.given jobs ended items counted

pub has_run : {Pass Job Reply E Q A : Type 0} (serves : Pass → Job → Pass → Reply → Type 0) (line : Slotted (Option (Numbered Job)) (Doing (Numbered Job) (Known Job)) Q A) (passes : List Pass) (first led last : Server Pass Job Reply)
    (helpers helped : List (Server Pass Job Reply)) (old new : List Job) (ended : Bool) (fed counted : Result ℕ E) (works : List (Work Pass Reply)) → IsLeader line (length helpers) first → AreHelpers line helpers
    → first.work.pass ∷ map (λ server. server.work.pass) helpers ≡ passes → Goes serves first led → AllGo serves helpers helped → (f : HasFed old new ended (view led.token).given fed) → HasEnded serves helped led last fed counted
    → works ≡ last.work ∷ map (λ server. server.work) helped → HasRun serves passes ((view led.token).given ++ f.lost) ended counted works
has_run {Pass} {Job} {Reply} serves line passes first led last helpers helped old new ended fed counted works leads fresh are goes all f e is =
    let jobs = (view led.token).given ++ f.lost in
    subst (λ (x : List Pass × List (Work Pass Reply)). HasRun serves x.0 jobs ended counted x.1) (λ i. (are i, sym is i)) (record {
      tooks = ((view led.token).taken ++ e.more) ∷ taken_of helped;
      known = view last.token;
      items = e.items;
      served = is_served serves line first led last helpers helped jobs f.lost fed counted leads fresh goes all e refl;
      whole = are_counted (view last.token).given (view led.token).given f.lost ended e.items fed counted e.given f.whole e.whole;
    })

module _ {Pass Job Reply E : Type 0} (serves : Pass → Job → Pass → Reply → Type 0) (passes : List Pass) (jobs : List Job) (ended : Bool) (works : List (Work Pass Reply)) where
  -- each answer is of a job
  pub may_place : (counted : Result ℕ E) → HasRun serves passes jobs ended counted works → IfOk counted (λ count. AreWithin (lists_of works) count)
  may_place (Ok count) h =
      subst (λ (n : ℕ). AreWithin (lists_of works) n) (h.whole.1 ∙ sym h.whole.0) (within serves passes (map (λ work. work.pass) works) h.tooks (lists_of works) h.known h.items jobs h.served)
  may_place (Err e) h = tt

  -- and each job has one
  pub may_collect : (counted : Result ℕ E) → HasRun serves passes jobs ended counted works → IfOk counted (λ count. AreWhole (lists_of works) count)
  may_collect (Ok count) h =
      subst (λ (n : ℕ). AreWhole (lists_of works) n) (sym h.whole.0) (whole serves passes (map (λ work. work.pass) works) h.tooks (lists_of works) h.known h.items jobs h.served h.whole.3)
  may_collect (Err e) h = tt

  pub none_twice : (counted : Result ℕ E) → HasRun serves passes jobs ended counted works → AreApart (lists_of works)
  none_twice counted h = apart serves passes (map (λ work. work.pass) works) h.tooks (lists_of works) h.known h.items jobs h.served

  told : (counted : Result ℕ E) (replies : Result (Vec Reply) E) (h : HasRun serves passes jobs ended counted works) → IfOk replies (λ r. counted ≡ Ok r.len) → IfOk replies (λ r. AreReplies (lists_of works) r.items)
      → IfOk replies (λ r. (ended ≡ true) × (length r.items ≡ length h.known.given) × (h.items ≡ []) × (h.served.lost ≡ []) × AreReplies (lists_of works) r.items)
  told counted (Ok r) h is replied =
      let t = subst (λ (c : Result ℕ E). AreCounted h.known.given jobs ended h.items c) is h.whole in
      let none = none_left h.served.lost (omega (arith, t.1, ap (λ (l : List Job). length l) h.served.given, length-append h.known.given h.served.lost)) in
      (t.2, omega (arith, r.ok.0, t.0), t.3, none, replied)
  told counted (Err e) h is replied = tt

  -- what is made of the jobs
  pub all_fed : (after : List Pass) (counted : Result ℕ E) (replies : Result (Vec Reply) E) → HasRun serves passes jobs ended counted works → after ≡ map (λ work. work.pass) works → IfOk replies (λ r. counted ≡ Ok r.len)
      → IfOk replies (λ r. AreReplies (lists_of works) r.items) → AreFed serves passes jobs ended after replies
  all_fed after counted replies h are is replied =
      subst (λ (l : List Pass). AreFed serves passes jobs ended l replies) (sym are)
      (are_fed serves passes (map (λ work. work.pass) works) h.tooks (lists_of works) h.known h.items jobs h.served ended replies (told counted replies h is replied))
