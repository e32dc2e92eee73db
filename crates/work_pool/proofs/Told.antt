-- From what was taken off the line to what is told of each job.
use Rattle.std.proofs.Common.{◌≡◌, ◌≢◌, ◌<◌, ◌≤◌, ◌+◌, ◌-◌, ◌==◌, ℕ, zero, suc, Bool, true, false, cond, List, [], ◌∷◌, ◌++◌, length, map, slice_get, Some, refl, ap, sym, ◌∙◌, arith, rules, ⊎_elim, eq-or-lt_of_le}
use Rattle.std.proofs.lemmas.List.Sums.{sum_by-cons, sum_by-append}
use Rattle.std.proofs.lemmas.List.{map-append}
use Rattle.std.proofs.lemmas.Bool.Decides.{nat_tests}
use Rattle.work_pool.specs.inner.Line.{times, numbered_from, numbers_of}
use Rattle.work_pool.specs.inner.Seating.{joined}
use Rattle.work_pool.specs.inner.Serving.{ServedItems}
use Rattle.work_pool.specs.Fed.{FedWith, AreApart, answer_in}
use Rattle.work_pool.specs.declared.line.Numbered.{Numbered}
use Rattle.work_pool.specs.declared.server.Answer.{Answer}

-- how often a number stands in a list with one more in front
times-cons : (n m : ℕ) (ms : List ℕ) → times n (m ∷ ms) ≡ cond (m == n) 1 0 + times n ms
times-cons n m ms = sum_by-cons (λ k. cond (k == n) 1 0) m ms

same_counts : (n m : ℕ) → m ≡ n → ◌≡◌ {A = ℕ} (cond (m == n) 1 0) 1
same_counts n m is = grind (arith, nat_tests)

other_counts : (n m : ℕ) → m ≢ n → ◌≡◌ {A = ℕ} (cond (m == n) 1 0) 0
other_counts n m is = grind (arith, nat_tests)

is_same : (n m : ℕ) → (m == n) ≡ true → m ≡ n
is_same n m is = grind (arith, nat_tests)

is_apart : (n m : ℕ) → (m == n) ≡ false → m ≢ n
is_apart n m is e = grind (arith, nat_tests)

not_counted : (n m : ℕ) → (m == n) ≡ false → ◌≡◌ {A = ℕ} (cond (m == n) 1 0) 0
not_counted n m is = ap (λ (b : Bool). cond {A = ℕ} b 1 0) is

-- a number that stands in a list is counted
counted : (n : ℕ) (ms : List ℕ) (i : ℕ) → slice_get ms i ≡ Some n → 1 ≤ times n ms
counted n [] i at = absurd (search rules)
counted n (m ∷ ms) zero at = let is : m ≡ n = search rules in omega (arith, times-cons n m ms, same_counts n m is)
counted n (m ∷ ms) (suc i) at = omega (arith, times-cons n m ms, counted n ms i at)

found_at : (n m : ℕ) (ms : List ℕ) (b : Bool) → (m == n) ≡ b → 1 ≤ times n (m ∷ ms) → (1 ≤ times n ms → (i : ℕ) × (slice_get ms i ≡ Some n)) → (i : ℕ) × (slice_get (m ∷ ms) i ≡ Some n)
found_at n m ms true is some later = (0, ap (λ (k : ℕ). Some k) (is_same n m is))
found_at n m ms false is some later = let t = later (omega (arith, times-cons n m ms, not_counted n m is, some)) in (suc t.0, t.1)

-- a number that is counted stands there
found : (n : ℕ) (ms : List ℕ) → 1 ≤ times n ms → (i : ℕ) × (slice_get ms i ≡ Some n)
found n [] some = absurd (omega arith)
found n (m ∷ ms) some = found_at n m ms (m == n) refl some (λ later. found n ms later)

-- where a number is counted once at most, it stands at one place at most
one_place : (n : ℕ) (ms : List ℕ) (i j : ℕ) → times n ms ≤ 1 → slice_get ms i ≡ Some n → slice_get ms j ≡ Some n → i ≡ j
one_place n [] i j once at at' = absurd (search rules)
one_place n (m ∷ ms) zero zero once at at' = refl
one_place n (m ∷ ms) zero (suc j) once at at' = let is : m ≡ n = search rules in absurd (omega (arith, times-cons n m ms, same_counts n m is, counted n ms j at', once))
one_place n (m ∷ ms) (suc i) zero once at at' = let is : m ≡ n = search rules in absurd (omega (arith, times-cons n m ms, same_counts n m is, counted n ms i at, once))
one_place n (m ∷ ms) (suc i) (suc j) once at at' = ap suc (one_place n ms i j (omega (arith, times-cons n m ms, once)) at at')

pub get_map : {A B : Type 0} (f : A → B) (xs : List A) (i : ℕ) (x : A) → slice_get xs i ≡ Some x → slice_get (map f xs) i ≡ Some (f x)
get_map f [] i x at = absurd (search rules)
get_map f (y ∷ xs) zero x at = let is : y ≡ x = search rules in ap (λ z. Some (f z)) is
get_map f (y ∷ xs) (suc i) x at = get_map f xs i x at

pub map_get : {A B : Type 0} (f : A → B) (xs : List A) (i : ℕ) (b : B) → slice_get (map f xs) i ≡ Some b → (x : A) × (slice_get xs i ≡ Some x) × (f x ≡ b)
map_get f [] i b at = absurd (search rules)
map_get f (y ∷ xs) zero b at = (y, refl, search rules)
map_get f (y ∷ xs) (suc i) b at = map_get f xs i b at

module _ {Job : Type 0} where
  -- the numbers of numbered jobs
  pub numbered_get : (n : ℕ) (jobs : List Job) (m : ℕ) (item : Numbered Job) → slice_get (numbered_from n jobs) m ≡ Some item → (item.number ≡ n + m) × (slice_get jobs m ≡ Some item.job)
  numbered_get n [] m item at = absurd (search rules)
  numbered_get n (job ∷ jobs) zero item at = let is : record { number = n; job = job } ≡ item = search rules in (sym (ap (λ (x : Numbered Job). x.number) is) ∙ omega arith, ap (λ (x : Numbered Job). Some x.job) is)
  numbered_get n (job ∷ jobs) (suc m) item at = let t = numbered_get (suc n) jobs m item at in let number = t.0 in (omega arith, t.1)

  too_low : (k n : ℕ) (jobs : List Job) → k < n → times k (numbers_of (numbered_from n jobs)) ≡ 0
  too_low k n [] low = refl
  too_low k n (job ∷ jobs) low = omega (arith, times-cons k n (numbers_of (numbered_from (suc n) jobs)), other_counts k n (λ e. omega arith), too_low k (suc n) jobs (omega arith))

  once_at : (k n : ℕ) (job : Job) (jobs : List Job) (b : Bool) → (n == k) ≡ b → times k (numbers_of (numbered_from (suc n) jobs)) ≤ 1 → times k (numbers_of (numbered_from n (job ∷ jobs))) ≤ 1
  once_at k n job jobs true is later = let e = is_same k n is in omega (arith, times-cons k n (numbers_of (numbered_from (suc n) jobs)), same_counts k n e, too_low k (suc n) jobs (omega arith))
  once_at k n job jobs false is later = omega (arith, times-cons k n (numbers_of (numbered_from (suc n) jobs)), not_counted k n is, later)

  -- each number stands once in them at most
  pub once_numbered : (k n : ℕ) (jobs : List Job) → times k (numbers_of (numbered_from n jobs)) ≤ 1
  once_numbered k n [] = omega arith
  once_numbered k n (job ∷ jobs) = once_at k n job jobs (n == k) refl (once_numbered k (suc n) jobs)

  all_at : (k n : ℕ) (job : Job) (jobs : List Job) (b : Bool) → (n == k) ≡ b → n ≤ k → (n < k → 1 ≤ times k (numbers_of (numbered_from (suc n) jobs))) → 1 ≤ times k (numbers_of (numbered_from n (job ∷ jobs)))
  all_at k n job jobs true is from later = omega (arith, times-cons k n (numbers_of (numbered_from (suc n) jobs)), same_counts k n (is_same k n is))
  all_at k n job jobs false is from later = let apart = is_apart k n is in omega (arith, times-cons k n (numbers_of (numbered_from (suc n) jobs)), later (⊎_elim (λ (e : n ≡ k). absurd (apart e)) (λ less. less) (eq-or-lt_of_le from)))

  -- and each of theirs does
  pub all_numbered : (k n : ℕ) (jobs : List Job) → n ≤ k → k < n + length jobs → 1 ≤ times k (numbers_of (numbered_from n jobs))
  all_numbered k n [] from to = absurd (omega arith)
  all_numbered k n (job ∷ jobs) from to = all_at k n job jobs (n == k) refl from (λ less. all_numbered k (suc n) jobs (omega arith) (omega arith))

module _ {Reply : Type 0} where
  abbrev pub answer_numbers : List (Answer Reply) → List ℕ
  answer_numbers answers = map (λ answer. answer.number) answers

  pub all_times : (n : ℕ) (xs ys : List (Answer Reply)) → times n (answer_numbers (xs ++ ys)) ≡ times n (answer_numbers xs) + times n (answer_numbers ys)
  all_times n xs ys = ap (times n) (map-append (λ (x : Answer Reply). x.number) xs ys) ∙ sum_by-append (λ m. cond (m == n) 1 0) (answer_numbers xs) (answer_numbers ys)

  -- an answer in a list is among all
  in_joined : (n : ℕ) (lists : List (List (Answer Reply))) (k i : ℕ) (a : Answer Reply) → answer_in lists k i ≡ Some a → a.number ≡ n → 1 ≤ times n (answer_numbers (joined lists))
  in_joined n [] k i a at is = absurd (search rules)
  in_joined n (list ∷ lists) zero i a at is =
      omega (arith, all_times n list (joined lists), counted n (answer_numbers list) i (get_map (λ (x : Answer Reply). x.number) list i a at ∙ ap (λ m. Some m) is))
  in_joined n (list ∷ lists) (suc k) i a at is = omega (arith, all_times n list (joined lists), in_joined n lists k i a at is)

  -- where each number is counted once at most, none stands twice
  pub are_apart : (lists : List (List (Answer Reply))) → ((n : ℕ) → times n (answer_numbers (joined lists)) ≤ 1) → AreApart lists
  are_apart [] once k i l j a b at at' same = absurd (search rules)
  are_apart (list ∷ lists) once zero i zero j a b at at' same = (
    refl,
    one_place b.number (answer_numbers list) i j (omega (arith, all_times b.number list (joined lists), once b.number))
        (get_map (λ (x : Answer Reply). x.number) list i a at ∙ ap (λ m. Some m) same) (get_map (λ (x : Answer Reply). x.number) list j b at'),
  )
  are_apart (list ∷ lists) once zero i (suc l) j a b at at' same =
      absurd (omega (
        arith,
        all_times b.number list (joined lists),
        once b.number,
        in_joined b.number lists l j b at' refl,
        counted b.number (answer_numbers list) i (get_map (λ (x : Answer Reply). x.number) list i a at ∙ ap (λ m. Some m) same),
      ))
  are_apart (list ∷ lists) once (suc k) i zero j a b at at' same =
      absurd (omega (
        arith,
        all_times b.number list (joined lists),
        once b.number,
        in_joined b.number lists k i a at same,
        counted b.number (answer_numbers list) j (get_map (λ (x : Answer Reply). x.number) list j b at'),
      ))
  are_apart (list ∷ lists) once (suc k) i (suc l) j a b at at' same =
      let t = are_apart lists (λ n. omega (arith, all_times n list (joined lists), once n)) k i l j a b at at' same in (ap suc t.0, t.1)

  abbrev Stands : ℕ → List (List (Answer Reply)) → Type 0
  Stands n lists = (k : ℕ) × (i : ℕ) × (a : Answer Reply) × (answer_in lists k i ≡ Some a) × (a.number ≡ n)

  stands_at : (n : ℕ) (list : List (Answer Reply)) (lists : List (List (Answer Reply))) (m : ℕ) → times n (answer_numbers list) ≡ m → 1 ≤ times n (answer_numbers (joined (list ∷ lists))) → (1 ≤ times n (answer_numbers (joined lists)) → Stands n lists) → Stands n (list ∷ lists)
  stands_at n list lists zero is some later = let t = later (omega (arith, all_times n list (joined lists), is, some)) in (suc t.0, t.1, t.2, t.3, t.4)
  stands_at n list lists (suc m) is some later =
      let at = found n (answer_numbers list) (omega (arith, is)) in
      let of = map_get (λ (x : Answer Reply). x.number) list at.0 n at.1 in
      (0, at.0, of.0, of.1, of.2)

  -- a number that is counted stands in a list
  pub stands : (n : ℕ) (lists : List (List (Answer Reply))) → 1 ≤ times n (answer_numbers (joined lists)) → (k : ℕ) × (i : ℕ) × (a : Answer Reply) × (answer_in lists k i ≡ Some a) × (a.number ≡ n)
  stands n [] some = absurd (omega arith)
  stands n (list ∷ lists) some = stands_at n list lists (times n (answer_numbers list)) refl some (λ later. stands n lists later)

module _ {Pass Job Reply : Type 0} (serves : Pass → Job → Pass → Reply → Type 0) where
  -- the answers have the numbers of the jobs
  pub same_numbers : (items : List (Numbered Job)) (answers : List (Answer Reply)) (before after : Pass) → ServedItems serves items answers before after → answer_numbers answers ≡ numbers_of items
  same_numbers [] [] before after h = refl
  same_numbers [] (a ∷ answers) before after h = absurd h
  same_numbers (x ∷ items) [] before after h = absurd h
  same_numbers (x ∷ items) (a ∷ answers) before after h = λ i. h.1 i ∷ same_numbers items answers h.0 after h.3 i

  -- serves of jobs that stand under their numbers
  pub fed_with : (jobs : List Job) (items : List (Numbered Job)) (answers : List (Answer Reply)) (before after : Pass) → ServedItems serves items answers before after
      → ((i : ℕ) (item : Numbered Job) → slice_get items i ≡ Some item → slice_get jobs (item.number - 1) ≡ Some item.job) → FedWith serves jobs answers before after
  fed_with jobs [] [] before after h fits = h
  fed_with jobs [] (a ∷ answers) before after h fits = absurd h
  fed_with jobs (x ∷ items) [] before after h fits = absurd h
  fed_with jobs (x ∷ items) (a ∷ answers) before after h fits =
      (x.job, h.0, ap (λ n. slice_get jobs (n - 1)) h.1 ∙ fits 0 x refl, h.2, fed_with jobs items answers h.0 after h.3 (λ i item at. fits (suc i) item at))
