-- The machine over bytes in turn.
use Rattle.std.proofs.Common.{◌≡◌, ◌<◌, ◌≤◌, ◌⊎◌, ℕ, zero, suc, ◌+◌, ◌==◌, true, false, nat_le, nat_lt, ◌&&◌, IsTrue, List, [], ◌∷◌, ◌++◌, length, take, get_or, Option, Some, None, Result, Ok, Err, refl, ap, sym, ◌∙◌, arith, inl, inr, append_assoc, length-append}
use Rattle.std.proofs.lemmas.List.{append-nil, length-take-le}
use Rattle.std.proofs.lemmas.Bool.Decides.{nat_tests}
use Rattle.corr_text.specs.Braces.{depth_after}
use Rattle.fin_frame.specs.File.{left_open, lead, is_gap_byte, most_bytes}
use Rattle.fin_frame.specs.inner.Machine.{State, to, fails, gives, begins, held_bytes, landed, grows, within, resumes, next_opening, next_close, next_after, next_at, next, run, HasTaken, HasTakenByte}
use Rattle.fin_frame.specs.declared.fault.FrameFault.{FrameFault}
use Rattle.fin_frame.specs.declared.fault.FrameFault.TheVariants.{Stray, TooLong, Unbalanced, Memory}
use Rattle.fin_frame.specs.declared.stage.Stage.{Stage}
use Rattle.fin_frame.specs.declared.stage.Stage.TheVariants.{Between, Opening, Within, After}

pub same-test : (m n : ℕ) → m ≡ n → (m == n) ≡ true
same-test m n e = grind (arith, nat_tests)

pub other-test : (m n : ℕ) → (m ≡ n → ⊥) → (m == n) ≡ false
other-test m n e = grind (arith, nat_tests)

pub le-test : (m n : ℕ) → m ≤ n → nat_le m n ≡ true
le-test m n e = grind (arith, nat_tests)

pub gt-test : (m n : ℕ) → n < m → nat_le m n ≡ false
gt-test m n e = grind (arith, nat_tests)

pub lt-test : (m n : ℕ) → m < n → nat_lt m n ≡ true
lt-test m n e = grind (arith, nat_tests)

-- bytes in two pieces are cut as the two pieces one after the other
pub run-append : (s : State) (xs ys : List ℕ) → run s (xs ++ ys) ≡ run (run s xs) ys
run-append s [] ys = refl
run-append s (x ∷ xs) ys = run-append (next s x) xs ys

-- after a fault nothing changes
pub run-failed : (s : State) (fault : FrameFault) (xs : List ℕ) → s.failed ≡ Some fault → run s xs ≡ s
run-failed s fault [] e = refl
run-failed s fault (x ∷ xs) e =
    let still : next s x ≡ s = rw e refl in
    ap (λ t. run t xs) still ∙ run-failed s fault xs e

pub next-sound : (s : State) (b : ℕ) → s.failed ≡ None → next s b ≡ next_at s.stage s b
next-sound s b e = rw e refl

-- the first byte of some
pub run-first : (s : State) (xs : List ℕ) → 0 < length xs → run s (take 1 xs) ≡ next s (get_or xs 0 0)
run-first s [] some = absurd (omega arith)
run-first s (x ∷ xs) some = refl

pub grows-grows : (from d e : ℕ) (xs ys : List ℕ) (s : State) → grows from e ys (grows from d xs s) ≡ grows from e (xs ++ ys) s
grows-grows from d e xs ys s =
    let held : (held_bytes s ++ xs) ++ ys ≡ held_bytes s ++ (xs ++ ys) = append_assoc (held_bytes s) xs ys in
    let fed : (s.fed + length xs) + length ys ≡ s.fed + length (xs ++ ys) = omega (arith, length-append xs ys) in
    ap (λ h. record s { stage = landed from e; held = Some h; fed = (s.fed + length xs) + length ys }) held
    ∙ ap (λ n. record s { stage = landed from e; held = Some (held_bytes s ++ (xs ++ ys)); fed = n }) fed

-- a byte for which the open message has room
pub within-room : (from d : ℕ) (s : State) (b : ℕ) → length (held_bytes s) < most_bytes → within from d s b ≡ grows from (depth_after d b) (b ∷ []) s
within-room from d s b room = rw (gt-test most_bytes (length (held_bytes s)) room) refl

-- bytes within groups go on as their braces say, as far as there is room
pub run-grows : (from d e : ℕ) (front bytes : List ℕ) (s : State) → s.failed ≡ None → left_open d bytes ≡ Some e
    → length (held_bytes s) + length front + length bytes ≤ most_bytes → run (grows from d front s) bytes ≡ grows from e (front ++ bytes) s
run-grows from d e front [] s sound is room =
    let same : d ≡ e = cc in
    ap (λ n. grows from n front s) same ∙ ap (λ xs. grows from e xs s) (sym (append-nil front))
run-grows from zero e front (b ∷ bytes) s sound is room = cc
run-grows from (suc d) e front (b ∷ bytes) s sound is room =
    let here : next (grows from (suc d) front s) b ≡ within from (suc d) (grows from (suc d) front s) b = rw sound refl in
    let size : length (held_bytes s ++ front) ≡ length (held_bytes s) + length front = length-append _ _ in
    let has : length (held_bytes s ++ front) < most_bytes = omega arith in
    let step : next (grows from (suc d) front s) b ≡ grows from (depth_after (suc d) b) (front ++ b ∷ []) s =
    here ∙ within-room from (suc d) (grows from (suc d) front s) b has ∙ grows-grows from (suc d) (depth_after (suc d) b) front (b ∷ []) s in
    let longer : length (front ++ b ∷ []) ≡ length front + 1 = length-append front (b ∷ []) in
    ap (λ t. run t bytes) step
    ∙ run-grows from (depth_after (suc d) b) e (front ++ b ∷ []) bytes s sound is (omega arith)
    ∙ ap (λ xs. grows from e xs s) (append_assoc front (b ∷ []) bytes)

-- the same from a state within a group
pub run-within : (from d e : ℕ) (bytes : List ℕ) (s : State) → s.failed ≡ None → s.stage ≡ Within from d → 0 < d → 0 < length bytes
    → left_open d bytes ≡ Some e → length (held_bytes s) + length bytes ≤ most_bytes → run s bytes ≡ grows from e bytes s
run-within from d e [] s sound stage deep some is room = absurd (omega arith)
run-within from zero e (b ∷ bytes) s sound stage deep some is room = absurd (omega arith)
run-within from (suc d) e (b ∷ bytes) s sound stage deep some is room =
    let here : next s b ≡ within from (suc d) s b = rw (sound, stage) refl in
    let has : length (held_bytes s) < most_bytes = omega arith in
    let step : next s b ≡ grows from (depth_after (suc d) b) (b ∷ []) s = here ∙ within-room from (suc d) s b has in
    ap (λ t. run t bytes) step ∙ run-grows from (depth_after (suc d) b) e (b ∷ []) bytes s sound is (omega arith)

-- a message that has no room
pub within-full : (from d : ℕ) (s : State) (b : ℕ) → most_bytes ≤ length (held_bytes s) → within from d s b ≡ fails (TooLong from) s
within-full from d s b full = rw (le-test most_bytes (length (held_bytes s)) full) refl

-- `{1:` goes on
pub opening-more : (matched : ℕ) (s : State) (b : ℕ) → b ≡ get_or lead matched 0 → (matched ≡ 2 → ⊥)
    → next_opening matched s b ≡ to (Opening (matched + 1)) s
opening-more matched s b is not-last = rw (same-test b (get_or lead matched 0) is, other-test matched 2 not-last) refl

pub after-more : (from matched : ℕ) (s : State) (b : ℕ) → b ≡ get_or lead matched 0 → (matched ≡ 2 → ⊥)
    → next_after from matched s b ≡ to (After from (matched + 1)) s
after-more from matched s b is not-last = rw (same-test b (get_or lead matched 0) is, other-test matched 2 not-last) refl

pub after-last : (from : ℕ) (s : State) → next_after from 2 s 58 ≡ begins s
after-last from s = refl

-- `{1:` doesn't go on: its bytes are the open message's
pub after-resumes : (from matched : ℕ) (s : State) (b : ℕ) → (b ≡ get_or lead matched 0 → ⊥) → 0 < matched
    → next_after from matched s b ≡ within from 1 (resumes from matched s) b
after-resumes from matched s b isnt some = rw (other-test b (get_or lead matched 0) isnt, other-test matched 0 (λ e. omega arith)) refl

-- a byte that ends the open message
pub close-gap : (s : State) (b : ℕ) → is_gap_byte b ≡ true → next_close s b ≡ to (Between (b == 36)) (gives s)
close-gap s b is = rw is refl

abbrev made : Stage → Option (List ℕ) → ℕ → ℕ → Option FrameFault → List (List ℕ) → State
made stage held fed begun failed given = record { stage = stage; held = held; fed = fed; begun = begun; failed = failed; given = given }

pub state-same : (s t : State) → s.stage ≡ t.stage → s.held ≡ t.held → s.fed ≡ t.fed → s.begun ≡ t.begun → s.failed ≡ t.failed → s.given ≡ t.given → s ≡ t
state-same s t stage held fed begun failed given =
    ap (λ x. made x s.held s.fed s.begun s.failed s.given) stage
    ∙ ap (λ x. made t.stage x s.fed s.begun s.failed s.given) held
    ∙ ap (λ x. made t.stage t.held x s.begun s.failed s.given) fed
    ∙ ap (λ x. made t.stage t.held t.fed x s.failed s.given) begun
    ∙ ap (λ x. made t.stage t.held t.fed t.begun x s.given) failed
    ∙ ap (λ x. made t.stage t.held t.fed t.begun t.failed x) given

-- the bytes after `{` or `{1` show that these are the open message's
pub run-resumed : (from matched : ℕ) (s : State) (xs : List ℕ) → s.failed ≡ None → s.stage ≡ After from matched → 0 < matched → 0 < length xs
    → (get_or xs 0 0 ≡ get_or lead matched 0 → ⊥) → run s xs ≡ run (resumes from matched s) xs
run-resumed from matched s [] sound stage begun some other = absurd (omega arith)
run-resumed from matched s (x ∷ xs) sound stage begun some other =
    let there : next s x ≡ next_after from matched s x = rw (sound, stage) refl in
    let back : next (resumes from matched s) x ≡ within from 1 (resumes from matched s) x = rw sound refl in
    ap (λ t. run t xs) (there ∙ after-resumes from matched s x other begun ∙ sym back)

take-first : (n : ℕ) (xs : List ℕ) → 0 < n → 0 < length xs → (0 < length (take n xs)) × (get_or (take n xs) 0 0 ≡ get_or xs 0 0)
take-first zero xs n some = absurd (omega arith)
take-first (suc n) [] n-some some = absurd (omega arith)
take-first (suc n) (x ∷ xs) n-some some = (omega arith, refl)

pub took-resumed : (from matched : ℕ) (r : Result ℕ FrameFault) (s : State) (rest : List ℕ) (now : State) → s.failed ≡ None
    → s.stage ≡ After from matched → 0 < matched → 0 < length rest → (get_or rest 0 0 ≡ get_or lead matched 0 → ⊥)
    → HasTaken r (resumes from matched s) rest now → HasTaken r s rest now
took-resumed from matched (Ok n) s rest now sound stage begun some other took =
    let first = take-first n rest took.0 some in
    (took.0, took.1, took.2 ∙ sym (run-resumed from matched s (take n rest) sound stage begun first.0 (λ e. other (sym first.1 ∙ e))))
took-resumed from matched (Err Memory) s rest now sound stage begun some other took = took
took-resumed from matched (Err (Stray at)) s rest now sound stage begun some other took =
    let first = take-first 1 rest (omega arith) some in
    run-resumed from matched s (take 1 rest) sound stage begun first.0 (λ e. other (sym first.1 ∙ e)) ∙ took
took-resumed from matched (Err (TooLong at)) s rest now sound stage begun some other took =
    let first = take-first 1 rest (omega arith) some in
    run-resumed from matched s (take 1 rest) sound stage begun first.0 (λ e. other (sym first.1 ∙ e)) ∙ took
took-resumed from matched (Err (Unbalanced at)) s rest now sound stage begun some other took =
    let first = take-first 1 rest (omega arith) some in
    run-resumed from matched s (take 1 rest) sound stage begun first.0 (λ e. other (sym first.1 ∙ e)) ∙ took

-- one byte
pub took-one : (r : Result ℕ FrameFault) (s after : State) (rest : List ℕ) (now : State) → 0 < length rest → after ≡ next s (get_or rest 0 0)
    → HasTakenByte r s after now → HasTaken r s rest now
took-one (Ok n) s after rest now some is took =
    let one : n ≡ 1 = took.0 in
    let ran : run s (take n rest) ≡ after = ap (λ k. run s (take k rest)) one ∙ run-first s rest some ∙ sym is in
    (omega arith, omega arith, took.1 ∙ sym ran)
took-one (Err Memory) s after rest now some is took = took
took-one (Err (Stray at)) s after rest now some is took = run-first s rest some ∙ sym is ∙ took
took-one (Err (TooLong at)) s after rest now some is took = run-first s rest some ∙ sym is ∙ took
took-one (Err (Unbalanced at)) s after rest now some is took = run-first s rest some ∙ sym is ∙ took

-- the answer of a call that took bytes within groups
pub took-within : (from d e len reach : ℕ) (rest : List ℕ) (s now : State) → s.failed ≡ None → s.stage ≡ Within from d → 0 < d → 0 < reach
    → reach ≤ length rest → length (held_bytes s) + reach ≤ most_bytes → len ≤ reach → left_open d (take len rest) ≡ Some e → (e ≡ 0) ⊎ (len ≡ reach)
    → now ≡ grows from e (take len rest) s → HasTaken (Ok len) s rest now
took-within from d e len reach rest s now sound stage deep some fits room most is end same =
    let size : length (take len rest) ≡ len = length-take-le len rest (omega arith) in
    let progress : 0 < len = progress-of d e len reach rest deep some is end in
    let ran : run s (take len rest) ≡ grows from e (take len rest) s =
    run-within from d e (take len rest) s sound stage deep (omega arith) is (omega arith) in
    (progress, omega arith, same ∙ sym ran)
  where
    progress-of : (d e len reach : ℕ) (rest : List ℕ) → 0 < d → 0 < reach → left_open d (take len rest) ≡ Some e → (e ≡ 0) ⊎ (len ≡ reach) → 0 < len
    progress-of zero e len reach rest deep some is end = absurd (omega arith)
    progress-of (suc d) e (suc len) reach rest deep some is end = omega arith
    progress-of (suc d) e zero reach rest deep some is (inl none) = absurd (let same : suc d ≡ e = cc in omega arith)
    progress-of (suc d) e zero reach rest deep some is (inr all) = absurd (omega arith)

pub deep-of : (d fed : ℕ) → IsTrue (nat_lt 0 d && nat_le d fed) → 0 < d
deep-of zero fed tidy = cc
deep-of (suc d) fed tidy = omega arith
