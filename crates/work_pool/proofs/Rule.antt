-- Each step keeps the rule of the line.
use Rattle.std.proofs.Common.{◌≡◌, ◌≢◌, ◌⊎◌, ◌<◌, ◌≤◌, ◌+◌, ◌==◌, ℕ, zero, suc, true, false, true≢false, cond, List, [], ◌∷◌, ◌++◌, length, length-set, set, sum_by, slice_get, Some, inl, inr, refl, ap, sym, ◌∙◌, subst, arith, rules, ⊎_elim, append_assoc}
use Rattle.std.proofs.lemmas.List.Sums.{sum_by-cons, sum_by-append, sum_by_push}
use Rattle.std.proofs.lemmas.List.{map-append}
use mathlib.Core.Option.{some, some-injective, some-ne-none}
use lib.ListN.{get_elem?}
use Rattle.crossbeam_queue.specs.Fifo.{Pushes, Pops, Forks, Merges, Learns}
use Rattle.crossbeam_queue.proofs.Lists.{at_set, at_snoc}
use Rattle.work_pool.specs.declared.line.Numbered.{Numbered}
use Rattle.work_pool.specs.declared.line.Known.{Known}
use Rattle.work_pool.specs.inner.Line.{times, numbered, numbered_from, numbers_of, AreAmong, knows_all, one_part, spent, without_part, with_other, puts, takes, IsKnown, IsShared, Tells}

-- the total after a change of one view
total_set : {A : Type 0} (f : A → ℕ) (views : List A) (place : ℕ) (v w : A) → get_elem? views place ≡ some v → sum_by f (set views place w) + f v ≡ sum_by f views + f w
total_set f [] place v w at = absurd (some-ne-none v (sym at))
total_set f (x ∷ xs) zero v w at = let is = some-injective x v at in omega (arith, sum_by-cons f w xs, sum_by-cons f x xs, ap f is)
total_set f (x ∷ xs) (suc place) v w at = omega (arith, sum_by-cons f x (set xs place w), sum_by-cons f x xs, total_set f xs place v w at)

-- one view is no more than the total
part_of : {A : Type 0} (f : A → ℕ) (views : List A) (place : ℕ) (v : A) → get_elem? views place ≡ some v → f v ≤ sum_by f views
part_of f [] place v at = absurd (some-ne-none v (sym at))
part_of f (x ∷ xs) zero v at = omega (arith, sum_by-cons f x xs, ap f (some-injective x v at))
part_of f (x ∷ xs) (suc place) v at = omega (arith, sum_by-cons f x xs, part_of f xs place v at)

-- where all views have nothing, nor have they of what one with nothing lacks
no_more : {A : Type 0} (f g : A → ℕ) (views : List A) → sum_by f views ≡ 0 → ((j : ℕ) (u : A) → get_elem? views j ≡ some u → f u ≡ 0 → g u ≡ 0) → sum_by g views ≡ 0
no_more f g [] e none = refl
no_more f g (x ∷ xs) e none =
    let parts = sum_by-cons f x xs in
    omega (arith, sum_by-cons g x xs, none zero x refl (omega (arith, parts, e)), no_more f g xs (omega (arith, parts, e)) (λ j u at. none (suc j) u at))

-- where one view has all, the other views have nothing
pub nothing_else : {A : Type 0} (f g : A → ℕ) (views : List A) (place : ℕ) (v : A) → get_elem? views place ≡ some v → f v ≡ sum_by f views
    → ((j : ℕ) (u : A) → get_elem? views j ≡ some u → f u ≡ 0 → g u ≡ 0) → sum_by g views ≡ g v
nothing_else f g [] place v at all none = absurd (some-ne-none v (sym at))
nothing_else f g (x ∷ xs) zero v at all none =
    let is = some-injective x v at in
    let rest : sum_by f xs ≡ 0 = omega (arith, sum_by-cons f x xs, ap f is, all) in
    omega (arith, sum_by-cons g x xs, ap g is, no_more f g xs rest (λ j u e. none (suc j) u e))
nothing_else f g (x ∷ xs) (suc place) v at all none =
    let mine = part_of f xs place v at in
    let zero_here : f x ≡ 0 = omega (arith, sum_by-cons f x xs, all, mine) in
    omega (arith, sum_by-cons g x xs, none zero x refl zero_here, nothing_else f g xs place v at (omega (arith, sum_by-cons f x xs, all)) (λ j u e. none (suc j) u e))

module _ {A : Type 0} where
  -- what stands in a list stands there when it is longer
  pub get_stays : (xs ys : List A) (k : ℕ) (x : A) → slice_get xs k ≡ Some x → slice_get (xs ++ ys) k ≡ Some x
  get_stays [] ys k x at = absurd (search rules)
  get_stays (x' ∷ xs) ys zero x at = at
  get_stays (x' ∷ xs) ys (suc k) x at = get_stays xs ys k x at

  -- the last of a list
  pub get_last : (xs : List A) (a : A) → slice_get (xs ++ a ∷ []) (length xs) ≡ Some a
  get_last [] a = refl
  get_last (x ∷ xs) a = get_last xs a

  -- the second of two lists stands behind the first
  pub get_behind : (xs ys : List A) (k : ℕ) → slice_get (xs ++ ys) (length xs + k) ≡ slice_get ys k
  get_behind [] ys k = let e : length {A = A} [] + k ≡ k = omega arith in ap (slice_get ys) e
  get_behind (x ∷ xs) ys k = let e : length (x ∷ xs) + k ≡ suc (length xs + k) = omega arith in ap (slice_get (x ∷ (xs ++ ys))) e ∙ get_behind xs ys k

  -- what stands in two lists stands in one of them
  pub get_of_two : (xs ys : List A) (k : ℕ) (x : A) → slice_get (xs ++ ys) k ≡ Some x → (slice_get xs k ≡ Some x) ⊎ ((i : ℕ) × (k ≡ length xs + i) × (slice_get ys i ≡ Some x))
  get_of_two [] ys k x at = inr (k, omega arith, at)
  get_of_two (x' ∷ xs) ys zero x at = inl at
  get_of_two (x' ∷ xs) ys (suc k) x at = ⊎_elim (λ e. inl e) (λ t. let e = t.1 in inr (t.0, omega arith, t.2)) (get_of_two xs ys k x at)

module _ {Job : Type 0} where
  -- a job more has the next number
  pub numbered-snoc : (n : ℕ) (jobs : List Job) (job : Job) → numbered_from n (jobs ++ job ∷ []) ≡ numbered_from n jobs ++ record { number = n + length jobs; job = job } ∷ []
  numbered-snoc n [] job = ap (λ (m : ℕ). record { number = m; job = job } ∷ []) (omega arith)
  numbered-snoc n (x ∷ jobs) job =
      ap (λ (items : List (Numbered Job)). record { number = n; job = x } ∷ items)
      (numbered-snoc (suc n) jobs job ∙ ap (λ (m : ℕ). numbered_from (suc n) jobs ++ record { number = m; job = job } ∷ []) (omega arith))

  -- how often a number stands in two lists of jobs
  pub times-append : (n : ℕ) (xs ys : List (Numbered Job)) → times n (numbers_of (xs ++ ys)) ≡ times n (numbers_of xs) + times n (numbers_of ys)
  times-append n xs ys = ap (times n) (map-append (λ (x : Numbered Job). x.number) xs ys) ∙ sum_by-append (λ m. cond (m == n) 1 0) (numbers_of xs) (numbers_of ys)

  abbrev All : (ℕ → Known Job → Type 0) → List (Known Job) → Type 0
  All F views = (place : ℕ) (v : Known Job) → get_elem? views place ≡ some v → F place v

  all_set : (F : ℕ → Known Job → Type 0) (views : List (Known Job)) (place : ℕ) (w : Known Job) → F place w → ((j : ℕ) (u : Known Job) → j ≢ place → get_elem? views j ≡ some u → F j u) → All F (set views place w)
  all_set F views place w mine others j u e = ⊎_elim (λ (x : (j ≡ place) × (w ≡ u)). subst (λ (y : ℕ × Known Job). F y.0 y.1) (λ i. (sym x.0 i, x.1 i)) mine)
      (λ (x : (j ≢ place) × (get_elem? views j ≡ some u)). others j u x.0 x.1) (at_set views place j w u e)

  among-longer : (xs left more : List (Numbered Job)) → AreAmong xs left → AreAmong xs (left ++ more)
  among-longer xs left more h i item at = let m = h i item at in (m.0, get_stays left more m.0 item m.1)

  only_one : (item : Numbered Job) (k : ℕ) (x : Numbered Job) → slice_get (item ∷ []) k ≡ Some x → Some item ≡ Some x
  only_one item zero x e = e
  only_one item (suc k) x e = absurd (search rules)

  -- one more on both sides
  among-more : (xs left : List (Numbered Job)) (item : Numbered Job) → AreAmong xs left → AreAmong (xs ++ item ∷ []) (left ++ item ∷ [])
  among-more xs left item h i x at = ⊎_elim (λ e. among-longer xs left (item ∷ []) h i x e)
      (λ t. (length left, get_last left item ∙ only_one item t.0 x t.2))
      (get_of_two xs (item ∷ []) i x at)

  -- both of two
  among-two : (xs ys left : List (Numbered Job)) → AreAmong xs left → AreAmong ys left → AreAmong (xs ++ ys) left
  among-two xs ys left h k i x at = ⊎_elim (λ e. h i x e) (λ t. k t.0 x t.2) (get_of_two xs ys i x at)

  first_known : (place : ℕ) (v : Known Job) → get_elem? (knows_all ∷ []) place ≡ some v → IsKnown [] [] 0 1 place v
  first_known zero v at = subst (IsKnown [] [] 0 1 0) (some-injective knows_all v at) (record { feeds = λ _. (refl, refl); idle = λ _. refl; among = λ i item e. absurd (search rules); alone = λ _. (refl, refl) })
  first_known (suc place) v at = absurd (some-ne-none v (sym at))

  -- the rule at the beginning
  pub begins : IsShared [] (knows_all {Job = Job} ∷ [])
  begins = record {
    given = [];
    left = [];
    feeder = 0;
    in_order = refl;
    parts = refl;
    once = λ n. refl;
    known = first_known;
  }

  -- a job more at the end of the line
  pub puts_on : (depth place : ℕ) (v : Known Job) (item : Numbered Job) → v.feeds ≡ true → item.number ≡ length v.given + 1 → Pushes IsShared depth place v item (λ w. w ≡ puts v item)
  puts_on depth place v item feeds number items views room h at =
      let w : Known Job = puts v item in
      let mine = h.known place v at in
      let all_given = (mine.feeds feeds).1 in
      let item_is : record { number = 1 + length h.given; job = item.job } ≡ item = ap (λ (m : ℕ). record { number = m; job = item.job }) (omega (arith, number, ap length all_given)) in
      let same : (n : ℕ) → sum_by (λ u. times n (numbers_of u.taken)) (set views place w) ≡ sum_by (λ u. times n (numbers_of u.taken)) views = λ n. omega (arith, total_set (λ u. times n (numbers_of u.taken)) views place v w at) in
      let F : ℕ → Known Job → Type 0 = IsKnown (h.given ++ item.job ∷ []) h.left h.feeder (length (set views place w)) in
      let long : length (set views place w) ≡ length views = length-set views place w in (
        w,
        record {
          given = h.given ++ item.job ∷ [];
          left = h.left;
          feeder = h.feeder;
          in_order = sym (append_assoc h.left items (item ∷ [])) ∙ ap (λ (l : List (Numbered Job)). l ++ item ∷ []) h.in_order ∙ ap (λ (x : Numbered Job). numbered h.given ++ x ∷ []) (sym item_is) ∙ sym (numbered-snoc 1 h.given item.job);
          parts = omega (arith, total_set (λ u. u.parts) views place v w at, h.parts);
          once = λ n. same n ∙ h.once n;
          known = all_set F views place w
              (record { feeds = λ e. ((mine.feeds e).0, ap (λ (l : List Job). l ++ item.job ∷ []) (mine.feeds e).1); idle = mine.idle; among = mine.among; alone = λ e. (long ∙ (mine.alone e).0, (mine.alone e).1) })
              (λ j u other e. let its = h.known j u e in record { feeds = λ f. absurd (other ((its.feeds f).0 ∙ sym (mine.feeds feeds).0)); idle = its.idle; among = its.among; alone = λ f. (long ∙ (its.alone f).0, (its.alone f).1) });
        },
        refl,
      )

  -- of one view there is only the first place
  only_place : (views : List (Known Job)) (j : ℕ) (u : Known Job) → length views ≡ 1 → get_elem? views j ≡ some u → j ≡ 0
  only_place [] j u one at = absurd (some-ne-none u (sym at))
  only_place (x ∷ xs) zero u one at = refl
  only_place (x ∷ []) (suc j) u one at = absurd (some-ne-none u (sym at))
  only_place (x ∷ y ∷ xs) (suc j) u one at = absurd (omega arith)

  -- the job at the front is taken
  pub takes_off : (place : ℕ) (v : Known Job) → 0 < v.parts → Pops IsShared place v (λ item w. w ≡ takes v item)
  takes_off place v part item items views h at =
      let w : Known Job = takes v item in
      let left : List (Numbered Job) = h.left ++ item ∷ [] in
      let mine = h.known place v at in
      let long : length (set views place w) ≡ length views = length-set views place w in
      let F : ℕ → Known Job → Type 0 = IsKnown h.given left h.feeder (length (set views place w)) in (
        w,
        record {
          given = h.given;
          left = left;
          feeder = h.feeder;
          in_order = append_assoc h.left (item ∷ []) items ∙ h.in_order;
          parts = omega (arith, total_set (λ u. u.parts) views place v w at, h.parts);
          once = λ n. omega (arith, total_set (λ u. times n (numbers_of u.taken)) views place v w at, h.once n, times-append n v.taken (item ∷ []), times-append n h.left (item ∷ []));
          known = all_set F views place w
              (record { feeds = mine.feeds; idle = λ none. absurd (omega arith); among = among-more v.taken h.left item mine.among; alone = λ e. (long ∙ (mine.alone e).0, ap (λ (l : List (Numbered Job)). l ++ item ∷ []) (mine.alone e).1) })
              (λ j u other e. let its = h.known j u e in record {
                feeds = its.feeds;
                idle = its.idle;
                among = among-longer u.taken h.left (item ∷ []) its.among;
                alone = λ f. absurd (other (only_place views j u (its.alone f).0 e ∙ sym (only_place views place v (its.alone f).0 at)));
              });
        },
        refl,
      )

  -- a token is cut off
  pub cuts : (place : ℕ) (v : Known Job) → 1 < v.parts → Forks IsShared place v (without_part v) one_part
  cuts place v parts items views h at =
      let l : Known Job = without_part v in
      let mine = h.known place v at in
      let vs : List (Known Job) = set views place l in
      let long : length vs ≡ length views = length-set views place l in
      let one : Known Job = one_part in
      let F : ℕ → Known Job → Type 0 = IsKnown h.given h.left h.feeder (length (vs ++ one ∷ [])) in
      let old : All F vs = all_set F views place l
      (record { feeds = mine.feeds; idle = λ none. absurd (omega arith); among = mine.among; alone = λ e. absurd (true≢false (sym e)) })
      (λ j u other e. let its = h.known j u e in record {
        feeds = its.feeds;
        idle = its.idle;
        among = its.among;
        alone = λ f. absurd (other (only_place views j u (its.alone f).0 e ∙ sym (only_place views place v (its.alone f).0 at)));
      }) in
      record {
        given = h.given;
        left = h.left;
        feeder = h.feeder;
        in_order = h.in_order;
        parts = omega (arith, total_set (λ u. u.parts) views place v l at, h.parts, sum_by_push (λ (u : Known Job). u.parts) vs one);
        once = λ n. omega (arith, total_set (λ u. times n (numbers_of u.taken)) views place v l at, h.once n, sum_by_push (λ (u : Known Job). times n (numbers_of u.taken)) vs one);
        known = λ j u e. ⊎_elim (λ x. old j u x)
            (λ (is : one ≡ u). subst (F j) is (record { feeds = λ f. absurd (true≢false (sym f)); idle = λ _. refl; among = λ i x a. absurd (search rules); alone = λ f. absurd (true≢false (sym f)) }))
            (at_snoc vs one u j e);
      }

  -- a token comes back
  pub comes_back : (place : ℕ) (v : Known Job) (other : ℕ) (u : Known Job) → 0 < v.parts → u.feeds ≡ false → Merges IsShared place v other u (with_other v u) spent
  comes_back place v other u some_part no_feed items views h at two at' =
      let both : Known Job = with_other v u in
      let mine = h.known place v at in
      let vs : List (Known Job) = set views place both in
      let was : get_elem? views other ≡ some u = ⊎_elim (λ x. absurd (two x.0)) (λ x. x.1) (at_set views place other both u at') in
      let theirs = h.known other u was in
      let empty : Known Job = spent in
      let end : List (Known Job) = set vs other empty in
      let long : length end ≡ length views = length-set vs other empty ∙ length-set views place both in
      let F : ℕ → Known Job → Type 0 = IsKnown h.given h.left h.feeder (length end) in
      record {
        given = h.given;
        left = h.left;
        feeder = h.feeder;
        in_order = h.in_order;
        parts = omega (arith, total_set (λ w. w.parts) views place v both at, total_set (λ w. w.parts) vs other u empty at', h.parts);
        once = λ n. omega (arith, total_set (λ w. times n (numbers_of w.taken)) views place v both at, total_set (λ w. times n (numbers_of w.taken)) vs other u empty at', h.once n, times-append n v.taken u.taken);
        known = all_set F vs other empty (record { feeds = λ f. absurd (true≢false (sym f)); idle = λ _. refl; among = λ i x a. absurd (search rules); alone = λ f. absurd (true≢false (sym f)) })
            (λ j w apart e. ⊎_elim
            (λ (x : (j ≡ place) × (both ≡ w)). subst (λ (y : ℕ × Known Job). F y.0 y.1) (λ i. (sym x.0 i, x.1 i)) (record {
              feeds = mine.feeds;
              idle = λ none. absurd (omega arith);
              among = among-two v.taken u.taken h.left mine.among theirs.among;
              alone = λ f. absurd (two (only_place views other u (mine.alone f).0 was ∙ sym (only_place views place v (mine.alone f).0 at)));
            }))
            (λ (x : (j ≢ place) × (get_elem? views j ≡ some w)). let its = h.known j w x.1 in record { feeds = its.feeds; idle = its.idle; among = its.among; alone = λ f. (long ∙ (its.alone f).0, (its.alone f).1) })
            (at_set views place j both w e));
      }

  -- the token with all parts took all that left the line
  pub tells : (place : ℕ) (v : Known Job) → Learns IsShared place v (λ items. Tells v items)
  tells place v items views h at feeds parts =
      let mine = h.known place v at in
      record {
        left = h.left;
        in_order = h.in_order ∙ ap (λ (l : List Job). numbered l) (sym (mine.feeds feeds).1);
        once = λ n. sym (nothing_else (λ u. u.parts) (λ u. times n (numbers_of u.taken)) views place v at (parts ∙ sym h.parts) (λ j u e none. ap (λ (l : List (Numbered Job)). times n (numbers_of l)) ((h.known j u e).idle none))) ∙ h.once n;
        among = mine.among;
        alone = λ e. (mine.alone e).1;
      }
