-- What a run over a feed leaves, from what its tokens know.
use Rattle.std.proofs.Common.{◌≡◌, ◌≤◌, ◌<◌, ◌+◌, ◌-◌, ℕ, zero, suc, Bool, true, List, [], ◌∷◌, ◌++◌, length, length-append, map, slice_get, Some, Result, Ok, Err, IfOk, refl, ap, sym, ◌∙◌, subst, arith, rules, append-nil}
use Rattle.std.specs.Global.{Vec}
use Rattle.std.proofs.lemmas.Option.{slice_get_within}
use Rattle.std.proofs.lemmas.List.{length-map}
use Rattle.work_pool.specs.inner.Line.{times, numbered, numbers_of, AreAmong, IsAll}
use Rattle.work_pool.specs.inner.Seating.{joined}
use Rattle.work_pool.specs.inner.Serving.{ServedItems}
use Rattle.work_pool.specs.Fed.{FedWith, AreApart, AreFed, AreReplies, AreWhole, AreWithin, answer_in}
use Rattle.work_pool.specs.declared.line.Numbered.{Numbered}
use Rattle.work_pool.specs.declared.line.Known.{Known}
use Rattle.work_pool.specs.declared.server.Answer.{Answer}
use Rattle.work_pool.proofs.Rule.{get_stays, get_behind, times-append}
use Rattle.work_pool.proofs.Told.{all_times, get_map, map_get, numbered_get, once_numbered, all_numbered, answer_numbers, are_apart, stands, same_numbers, fed_with}

-- What is known at the end: each pass served the jobs of its list, one token took all of them, and what it put into the line are the
-- jobs, but perhaps for some that were given after
pub record IsServed {Pass Job Reply : Type 0} (serves : Pass → Job → Pass → Reply → Type 0) (before after : List Pass) (tooks : List (List (Numbered Job))) (lists : List (List (Answer Reply))) (v : Known Job) (items : List (Numbered Job)) (jobs : List Job) : Type 0 where
  pub passes : length after ≡ length before
  pub tooks_count : length tooks ≡ length before
  pub one_each : length lists ≡ length before
  pub served : (k : ℕ) (took : List (Numbered Job)) (list : List (Answer Reply)) (pass next : Pass) → slice_get tooks k ≡ Some took → slice_get lists k ≡ Some list → slice_get before k ≡ Some pass → slice_get after k ≡ Some next → ServedItems serves took list pass next
  pub all : IsAll v items
  pub total : (n : ℕ) → times n (numbers_of v.taken) ≡ times n (numbers_of (joined tooks))
  pub members : AreAmong (joined tooks) v.taken
  pub one : length before ≡ 1 → joined tooks ≡ all.left
  pub lost : List Job
  pub given : jobs ≡ v.given ++ lost

module _ {A : Type 0} where
  -- there is an element at each place
  pub get_there : (xs : List A) (k : ℕ) → k < length xs → (x : A) × (slice_get xs k ≡ Some x)
  get_there [] k within = absurd (omega arith)
  get_there (x ∷ xs) zero within = (x, refl)
  get_there (x ∷ xs) (suc k) within = get_there xs k (omega arith)

  -- an element of a list is among all
  pub among_joined : (lists : List (List A)) (k i : ℕ) (list : List A) (x : A) → slice_get lists k ≡ Some list → slice_get list i ≡ Some x → (m : ℕ) × (slice_get (joined lists) m ≡ Some x)
  among_joined [] k i list x at at' = absurd (search rules)
  among_joined (l ∷ lists) zero i list x at at' = let is : l ≡ list = search rules in (i, get_stays l (joined lists) i x (subst (λ (y : List A). slice_get y i ≡ Some x) (sym is) at'))
  among_joined (l ∷ lists) (suc k) i list x at at' = let t = among_joined lists k i list x at at' in (length l + t.0, get_behind l (joined lists) t.0 ∙ t.1)

  -- where there is one list, all are its own
  pub alone_at : (lists : List (List A)) (k i : ℕ) (list : List A) (x : A) → length lists ≡ 1 → slice_get lists k ≡ Some list → slice_get list i ≡ Some x → slice_get (joined lists) i ≡ Some x
  alone_at [] k i list x one at at' = absurd (omega arith)
  alone_at (l ∷ []) zero i list x one at at' = let is : l ≡ list = search rules in get_stays l [] i x (subst (λ (y : List A). slice_get y i ≡ Some x) (sym is) at')
  alone_at (l ∷ []) (suc k) i list x one at at' = absurd (search rules)
  alone_at (l ∷ m ∷ lists) k i list x one at at' = absurd (omega arith)

-- the list of an answer
pub list_of : {Reply : Type 0} (lists : List (List (Answer Reply))) (k i : ℕ) (a : Answer Reply) → answer_in lists k i ≡ Some a → (list : List (Answer Reply)) × (slice_get lists k ≡ Some list) × (slice_get list i ≡ Some a)
list_of [] k i a at = absurd (search rules)
list_of (l ∷ lists) zero i a at = (l, refl, at)
list_of (l ∷ lists) (suc k) i a at = list_of lists k i a at

module _ {Pass Job Reply : Type 0} (serves : Pass → Job → Pass → Reply → Type 0) (before after : List Pass) (tooks : List (List (Numbered Job))) (lists : List (List (Answer Reply))) (v : Known Job) (items : List (Numbered Job)) (jobs : List Job)
    (h : IsServed serves before after tooks lists v items jobs) where
  all_numbers : (before after : List Pass) (tooks : List (List (Numbered Job))) (lists : List (List (Answer Reply))) → length after ≡ length before → length tooks ≡ length before → length lists ≡ length before
      → ((k : ℕ) (took : List (Numbered Job)) (list : List (Answer Reply)) (pass next : Pass) → slice_get tooks k ≡ Some took → slice_get lists k ≡ Some list → slice_get before k ≡ Some pass → slice_get after k ≡ Some next → ServedItems serves took list pass next)
      → (n : ℕ) → times n (answer_numbers (joined lists)) ≡ times n (numbers_of (joined tooks))
  all_numbers [] [] [] [] e e' e'' each n = refl
  all_numbers (b ∷ bs) (a ∷ rest_) (t ∷ ts) (l ∷ ls) e e' e'' each n =
      let here = same_numbers serves t l b a (each 0 t l b a refl refl refl refl) in
      let rest = all_numbers bs rest_ ts ls (omega arith) (omega arith) (omega arith) (λ k took list pass next p q r s. each (suc k) took list pass next p q r s) n in
      omega (arith, all_times n l (joined ls), times-append n t (joined ts), ap (times n) here, rest)
  all_numbers [] (a ∷ rest_) ts ls e e' e'' each n = absurd (omega arith)
  all_numbers [] [] (t ∷ ts) ls e e' e'' each n = absurd (omega arith)
  all_numbers [] [] [] (l ∷ ls) e e' e'' each n = absurd (omega arith)
  all_numbers (b ∷ bs) [] ts ls e e' e'' each n = absurd (omega arith)
  all_numbers (b ∷ bs) (a ∷ rest_) [] ls e e' e'' each n = absurd (omega arith)
  all_numbers (b ∷ bs) (a ∷ rest_) (t ∷ ts) [] e e' e'' each n = absurd (omega arith)

  -- each number is answered as often as it left the line
  answered : (n : ℕ) → times n (answer_numbers (joined lists)) ≡ times n (numbers_of h.all.left)
  answered n = all_numbers before after tooks lists h.passes h.tooks_count h.one_each h.served n ∙ sym (h.total n) ∙ h.all.once n

  pub apart : AreApart lists
  apart = are_apart lists (λ n. omega (arith, answered n, times-append n h.all.left items, ap (λ (l : List (Numbered Job)). times n (numbers_of l)) h.all.in_order, once_numbered n 1 v.given))

  -- a job that was taken stands under its number
  fits : (k i : ℕ) (took : List (Numbered Job)) (item : Numbered Job) → slice_get tooks k ≡ Some took → slice_get took i ≡ Some item
      → (1 ≤ item.number) × (item.number ≤ length v.given) × (slice_get jobs (item.number - 1) ≡ Some item.job)
  fits k i took item at at' =
      let m = among_joined tooks k i took item at at' in
      let t = h.members m.0 item m.1 in
      let l = h.all.among t.0 item t.1 in
      let here = get_stays h.all.left items l.0 item l.1 in
      let of = numbered_get 1 v.given l.0 item (ap (λ (x : List (Numbered Job)). slice_get x l.0) (sym h.all.in_order) ∙ here) in
      let place : item.number - 1 ≡ l.0 = omega (arith, of.0) in
      let within = slice_get_within v.given l.0 item.job of.1 in (
        omega (arith, of.0),
        omega (arith, of.0, within),
        ap (λ (n : ℕ). slice_get jobs n) place ∙ ap (λ (x : List Job). slice_get x l.0) h.given ∙ get_stays v.given h.lost l.0 item.job of.1,
      )

  pub chains : (k : ℕ) (list : List (Answer Reply)) (pass next : Pass) → slice_get lists k ≡ Some list → slice_get before k ≡ Some pass → slice_get after k ≡ Some next → FedWith serves jobs list pass next
  chains k list pass next at at' at'' =
      let within : k < length tooks = omega (arith, slice_get_within before k pass at', h.tooks_count) in
      let took = get_there tooks k within in
      fed_with serves jobs took.0 list pass next (h.served k took.0 list pass next took.1 at at' at'') (λ i item is. (fits k i took.0 item took.1 is).2)

  -- the job of an answer
  item_of : (k i : ℕ) (a : Answer Reply) → answer_in lists k i ≡ Some a → (took : List (Numbered Job)) × (item : Numbered Job) × (slice_get tooks k ≡ Some took) × (slice_get took i ≡ Some item) × (item.number ≡ a.number)
  item_of k i a at =
      let l = list_of lists k i a at in
      let within : k < length lists = slice_get_within lists k l.0 l.1 in
      let took = get_there tooks k (omega (arith, within, h.tooks_count, h.one_each)) in
      let pass = get_there before k (omega (arith, within, h.one_each)) in
      let next = get_there after k (omega (arith, within, h.one_each, h.passes)) in
      let same = same_numbers serves took.0 l.0 pass.0 next.0 (h.served k took.0 l.0 pass.0 next.0 took.1 l.1 pass.1 next.1) in
      let here = get_map (λ (x : Answer Reply). x.number) l.0 i a l.2 in
      let item = map_get (λ (x : Numbered Job). x.number) took.0 i a.number (ap (λ (ns : List ℕ). slice_get ns i) (sym same) ∙ here) in (
        took.0,
        item.0,
        took.1,
        item.1,
        item.2,
      )

  pub within : AreWithin lists (length jobs)
  within k i a at =
      let t = item_of k i a at in
      let f = fits k i t.0 t.1 t.2 t.3 in
      let long = ap (λ (l : List Job). length l) h.given ∙ length-append v.given h.lost in (omega (arith, t.4, f.0), omega (arith, t.4, f.1, long))

  -- with one pass the numbers are 1, 2, ..
  pub in_turn : length before ≡ 1 → (k i : ℕ) (a : Answer Reply) → answer_in lists k i ≡ Some a → a.number ≡ i + 1
  in_turn one k i a at =
      let t = item_of k i a at in
      let here = alone_at tooks k i t.0 t.1 (h.tooks_count ∙ one) t.2 t.3 in
      let left = ap (λ (l : List (Numbered Job)). slice_get l i) (sym (h.one one)) ∙ here in
      let of = numbered_get 1 v.given i t.1 (ap (λ (l : List (Numbered Job)). slice_get l i) (sym h.all.in_order) ∙ get_stays h.all.left items i t.1 left) in
      omega (arith, of.0, t.4)

  -- where nothing is left in the line each job was served
  pub whole : items ≡ [] → AreWhole lists (length v.given)
  whole none n from to =
      let left : times n (numbers_of h.all.left) ≡ times n (numbers_of (numbered v.given)) = ap (λ (l : List (Numbered Job)). times n (numbers_of l)) (sym (append-nil h.all.left) ∙ ap (λ (l : List (Numbered Job)). h.all.left ++ l) (sym none) ∙ h.all.in_order) in
      stands n lists (omega (arith, answered n, left, all_numbered n 1 v.given (omega arith) (omega arith)))

  -- all that is told of the run
  pub are_fed : {E : Type 0} (ended : Bool) (replies : Result (Vec Reply) E)
      → IfOk replies (λ r. (ended ≡ true) × (length r.items ≡ length v.given) × (items ≡ []) × (h.lost ≡ []) × AreReplies lists r.items) → AreFed serves before jobs ended after replies
  are_fed ended (Ok r) t =
      let long : length jobs ≡ length v.given = ap (λ (l : List Job). length l) (h.given ∙ ap (λ (l : List Job). v.given ++ l) t.3 ∙ append-nil v.given) in
      record {
        lists = lists;
        one_each = h.one_each;
        passes = h.passes;
        jobs_only = within;
        apart = apart;
        in_turn = in_turn;
        served = chains;
        told = record { at_end = t.0; replies_count = t.1 ∙ sym long; every_job = subst (λ (n : ℕ). AreWhole lists n) (sym long) (whole t.2); replied = t.4 };
      }
  are_fed ended (Err e) t = record {
    lists = lists;
    one_each = h.one_each;
    passes = h.passes;
    jobs_only = within;
    apart = apart;
    in_turn = in_turn;
    served = chains;
    told = tt;
  }

-- no answer where no job was served
no_answer : {Pass Reply : Type 0} (passes : List Pass) (k i : ℕ) (a : Answer Reply) → answer_in (map (λ (_ : Pass). []) passes) k i ≡ Some a → ⊥
no_answer [] k i a at = absurd (search rules)
no_answer (p ∷ passes) zero i a at = absurd (search rules)
no_answer (p ∷ passes) (suc k) i a at = no_answer passes k i a at

empty_list : {Pass Reply : Type 0} (passes : List Pass) (k : ℕ) (list : List (Answer Reply)) → slice_get (map (λ (_ : Pass). []) passes) k ≡ Some list → list ≡ []
empty_list [] k list at = absurd (search rules)
empty_list (p ∷ passes) zero list at = search rules
empty_list (p ∷ passes) (suc k) list at = empty_list passes k list at

-- where memory lacked before the feed was read
pub none_fed : {Pass Job Reply E : Type 0} (serves : Pass → Job → Pass → Reply → Type 0) (passes : List Pass) (ended : Bool) (e : E) → AreFed {Reply = Reply} {E = E} serves passes [] ended passes (Err e)
none_fed {Reply = Reply} serves passes ended e = record {
  lists = map (λ _. []) passes;
  one_each = length-map passes (λ _. []);
  passes = refl;
  jobs_only = λ k i a at. absurd (no_answer passes k i a at);
  apart = λ k i l j a b at at' same. absurd (no_answer passes k i a at);
  in_turn = λ one k i a at. absurd (no_answer passes k i a at);
  served = λ k list pass next at at' at''. subst (λ (l : List (Answer Reply)). FedWith serves [] l pass next) (sym (empty_list passes k list at)) (search rules);
  told = tt;
}
