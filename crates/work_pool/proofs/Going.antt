-- A worker goes on from job to job.
use Rattle.std.proofs.Common.{◌≡◌, List, [], ◌∷◌, ◌++◌, refl, ap, sym, ◌∙◌, subst, append_assoc, append-nil}
use Rattle.crossbeam_queue.specs.Passes.{view}
use Rattle.work_pool.specs.inner.Line.{puts, takes}
use Rattle.work_pool.specs.inner.Serving.{ServedItems, Goes}
use Rattle.work_pool.specs.declared.line.Numbered.{Numbered}
use Rattle.work_pool.specs.declared.line.Known.{Known}
use Rattle.work_pool.specs.declared.server.Answer.{Answer}
use Rattle.work_pool.specs.declared.server.Work.{Work}
use Rattle.work_pool.specs.declared.server.Server.{Server}

module _ {Pass Job Reply : Type 0} (serves : Pass → Job → Pass → Reply → Type 0) where
  -- one job more is served
  pub one_more_item : (items : List (Numbered Job)) (answers : List (Answer Reply)) (before pass : Pass) (item : Numbered Job) (after : Pass) (answer : Answer Reply)
      → ServedItems serves items answers before pass → answer.number ≡ item.number → serves pass item.job after answer.reply
      → ServedItems serves (items ++ item ∷ []) (answers ++ answer ∷ []) before after
  one_more_item [] [] before pass item after answer e number s = (after, number, subst (λ (p : Pass). serves p item.job after answer.reply) e s, refl)
  one_more_item [] (a ∷ more) before pass item after answer h number s = absurd h
  one_more_item (x ∷ xs) [] before pass item after answer h number s = absurd h
  one_more_item (x ∷ xs) (a ∷ more) before pass item after answer h number s = (h.0, h.1, h.2, one_more_item xs more h.0 pass item after answer h.3 number s)

  -- a worker that stays
  pub goes_nowhere : (server : Server Pass Job Reply) → Goes serves server server
  goes_nowhere server = record {
    more = [];
    taken = sym (append-nil (view server.token).taken);
    served = λ before items h. subst (λ (l : List (Numbered Job)). ServedItems serves l server.work.answers.items before server.work.pass) (sym (append-nil items)) h;
    parts = refl;
    alone = refl;
    feeds = refl;
  }

  -- and goes on
  pub goes_on : (a b c : Server Pass Job Reply) → Goes serves a b → Goes serves b c → Goes serves a c
  goes_on a b c h k = record {
    more = h.more ++ k.more;
    taken = k.taken ∙ ap (λ (l : List (Numbered Job)). l ++ k.more) h.taken ∙ append_assoc (view a.token).taken h.more k.more;
    served = λ before items s. subst (λ (l : List (Numbered Job)). ServedItems serves l c.work.answers.items before c.work.pass) (append_assoc items h.more k.more) (k.served before (items ++ h.more) (h.served before items s));
    parts = k.parts ∙ h.parts;
    alone = k.alone ∙ h.alone;
    feeds = k.feeds ∙ h.feeds;
  }

  -- where neither its answers nor its pass change, and of what its token knows only what it put
  pub goes_same : (a b : Server Pass Job Reply) → (view b.token).taken ≡ (view a.token).taken → (view b.token).parts ≡ (view a.token).parts → (view b.token).alone ≡ (view a.token).alone
      → (view b.token).feeds ≡ (view a.token).feeds → b.work.answers.items ≡ a.work.answers.items → b.work.pass ≡ a.work.pass → Goes serves a b
  goes_same a b taken parts alone feeds answers pass = record {
    more = [];
    taken = taken ∙ sym (append-nil (view a.token).taken);
    served = λ before items h. subst (λ (l : List (Numbered Job)). ServedItems serves l b.work.answers.items before b.work.pass) (sym (append-nil items))
        (subst (λ (x : List (Answer Reply) × Pass). ServedItems serves items x.0 before x.1) (λ i. (sym answers i, sym pass i)) h);
    parts = parts;
    alone = alone;
    feeds = feeds;
  }

  -- a job was taken and served
  pub goes_one : (a b : Server Pass Job Reply) (item : Numbered Job) (answer : Answer Reply) → view b.token ≡ takes (view a.token) item → b.work.answers.items ≡ a.work.answers.items ++ answer ∷ []
      → answer.number ≡ item.number → serves a.work.pass item.job b.work.pass answer.reply → Goes serves a b
  goes_one a b item answer took answers number s = record {
    more = item ∷ [];
    taken = ap (λ (v : Known Job). v.taken) took;
    served = λ before items h. subst (λ (l : List (Answer Reply)). ServedItems serves (items ++ item ∷ []) l before b.work.pass) (sym answers) (one_more_item items a.work.answers.items before a.work.pass item b.work.pass answer h number s);
    parts = ap (λ (v : Known Job). v.parts) took;
    alone = ap (λ (v : Known Job). v.alone) took;
    feeds = ap (λ (v : Known Job). v.feeds) took;
  }

  -- where its work and what its token knows are the same
  pub goes_view : (a b : Server Pass Job Reply) → view b.token ≡ view a.token → b.work ≡ a.work → Goes serves a b
  goes_view a b known work = goes_same a b (ap (λ (v : Known Job). v.taken) known) (ap (λ (v : Known Job). v.parts) known) (ap (λ (v : Known Job). v.alone) known) (ap (λ (v : Known Job). v.feeds) known)
      (ap (λ (w : Work Pass Reply). w.answers.items) work) (ap (λ (w : Work Pass Reply). w.pass) work)

  -- where it put a job into the line
  pub goes_put : (a b : Server Pass Job Reply) (item : Numbered Job) → view b.token ≡ puts (view a.token) item → b.work ≡ a.work → Goes serves a b
  goes_put a b item known work = goes_same a b (ap (λ (v : Known Job). v.taken) known) (ap (λ (v : Known Job). v.parts) known) (ap (λ (v : Known Job). v.alone) known) (ap (λ (v : Known Job). v.feeds) known)
      (ap (λ (w : Work Pass Reply). w.answers.items) work) (ap (λ (w : Work Pass Reply). w.pass) work)
