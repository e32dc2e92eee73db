-- The serves of one worker, one after another: what it knows in the end, and what of each serve stands then.
use Rattle.std.proofs.Common.{◌≡◌, ℕ, zero, suc, ◌-◌, ◌≤◌, List, [], ◌∷◌, length, Some, Result, refl, sym, ◌∙◌, subst, arith}
use Rattle.std.specs.Prelude.{slice_get}
use Rattle.std.proofs.lemmas.Option.{same_Some, none-some}
use mathlib.Core.List.{IsPrefix}
use mathlib.Core.Logic.{dite}
use native.Mathlib.Decide.{dec_lt}
use Rattle.day_model.specs.declared.entry.Entry.{Entry}
use Rattle.day_model.specs.declared.pay.Pay.{Pay}
use Rattle.day_model.specs.Legal.{IsLegal}
use Rattle.front_word.specs.declared.view.Act.{Act}
use Rattle.front_word.specs.Known.{PassKnows}
use Rattle.front_word.proofs.laws.Prefixes.{get_below, prefix_get_back, prefix_self, prefix_trans}
use Rattle.work_pool.specs.Served.{ServedWith}
use Rattle.corr_books.specs.Opening.{Opening}
use Rattle.corr_books.specs.Stand.{history_of}
use Rattle.corr_top.specs.declared.desk.Served.{Served}
use Rattle.corr_top.specs.inner.Workers.{Worker}
use Rattle.corr_top.specs.declared.message.NoPay.{NoPay}
use Rattle.corr_top.specs.inner.Serving.{IsTold, Serves}
use Rattle.corr_top.proofs.Serves.{HasTold, IsFrom, goes, stands, told_next}

module _ {Job : Type 0} (o : Opening) (reading : Job → Result Pay NoPay) (jobs : List Job) (made : List Served) where
  -- the serves of the jobs with these numbers
  abbrev pub Chain : List ℕ → Worker → Worker → Type 0
  Chain numbers before after = ServedWith (λ (old : Worker) (job : Job) (new : Worker) (one : Served). Serves o (reading job) old new one) jobs made numbers before after

  -- its pass is the same one, and knows no less
  pub record Grew (before after : PassKnows) : Type 0 where
    pub number : after.number ≡ before.number
    pub known : IsPrefix before.known after.known

  pub grew : (numbers : List ℕ) (before after : Worker) → Chain numbers before after → Grew before.pass after.pass
  grew [] before after c = subst (λ (w : Worker). Grew before.pass w.pass) (sym c) (record { number = refl; known = prefix_self before.pass.known })
  grew (n ∷ numbers) before after c =
      let g = goes o (reading c.0) before c.2 c.1 c.5 in
      let r = grew numbers c.2 after c.6 in
      record { number = r.number ∙ g.number; known = prefix_trans before.pass.known c.2.pass.known after.pass.known g.known r.known }

  -- each of its entries past what it knew at first is of a pay that one of the jobs asks for
  pub of_jobs : (numbers : List ℕ) (before after : Worker) → Chain numbers before after → (i : ℕ) (a : Act) → slice_get after.pass.known i ≡ Some a → length before.pass.known ≤ i → a.by ≡ before.pass.number
      → (k : ℕ) × (job : Job) × (slice_get jobs k ≡ Some job) × IsFrom o (reading job) a.entry
  of_jobs [] before after c i a at past tag =
      let b = get_below before.pass.known i a (subst (λ (w : Worker). slice_get w.pass.known i ≡ Some a) c at) in absurd (omega (arith, b, past))
  of_jobs (n ∷ numbers) before after c i a at past tag =
      let g = goes o (reading c.0) before c.2 c.1 c.5 in
      let r = grew numbers c.2 after c.6 in
      dite (dec_lt i (length c.2.pass.known))
      (λ below. (n - 1, c.0, c.3, g.own i a (prefix_get_back c.2.pass.known after.pass.known i a r.known below at) past tag))
      (λ beyond. of_jobs numbers c.2 after c.6 i a at (omega (arith, beyond)) (tag ∙ sym g.number))

  module _ (log : List Act) (history : List Entry) (is : history ≡ history_of o.base log) (legal : IsLegal o.accounts history) where
    -- what was made of each of the jobs stands
    pub record IsServed (n : ℕ) : Type 0 where
      pub job : Job
      pub one : Served
      pub job_is : slice_get jobs (n - 1) ≡ Some job
      pub one_is : slice_get made (n - 1) ≡ Some one
      pub told : IsTold o history (reading job) one

    pub each_stands : (numbers : List ℕ) (before after : Worker) → HasTold o before → Chain numbers before after → IsPrefix after.pass.known log → (i n : ℕ) → slice_get numbers i ≡ Some n → IsServed n
    each_stands [] before after told c p i n at = absurd (none-some n at)
    each_stands (m ∷ numbers) before after told c p zero n at =
        let r = grew numbers c.2 after c.6 in
        subst IsServed (same_Some m n at) (record {
          job = c.0;
          one = c.1;
          job_is = c.3;
          one_is = c.4;
          told = stands o log history is legal (reading c.0) before c.2 c.1 told c.5 (prefix_trans c.2.pass.known after.pass.known log r.known p);
        })
    each_stands (m ∷ numbers) before after told c p (suc i) n at =
        let r = grew numbers c.2 after c.6 in
        let here = stands o log history is legal (reading c.0) before c.2 c.1 told c.5 (prefix_trans c.2.pass.known after.pass.known log r.known p) in
        each_stands numbers c.2 after (told_next o log history is legal (reading c.0) before c.2 c.1 told c.5 here) c.6 p i n at
