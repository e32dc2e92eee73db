-- What no step of the machine takes back.
use Rattle.std.proofs.Common.{◌≡◌, ◌≤◌, ◌⊎◌, ℕ, ◌+◌, ◌-◌, ◌==◌, Bool, true, false, cond, nat_le, List, [], ◌∷◌, ◌++◌, length, get_or, Option, Some, None, is_some, refl, ap, sym, ◌∙◌, arith, inl, inr, append_assoc}
use Rattle.std.proofs.lemmas.List.{append-nil}
use Rattle.fin_frame.proofs.laws.Running.{run-failed}
use Rattle.corr_text.specs.Braces.{depth_after}
use Rattle.fin_frame.specs.File.{lead, is_gap_byte, most_bytes}
use Rattle.fin_frame.specs.Shown.{Begins}
use Rattle.fin_frame.specs.inner.Machine.{State, to, fails, gives, begins, held_bytes, with_open, grows, within, resumes, moves, stage_between, next_close, next_at, next, run}
use Rattle.fin_frame.specs.declared.fault.FrameFault.{FrameFault}
use Rattle.fin_frame.specs.declared.fault.FrameFault.TheVariants.{Stray, TooLong}
use Rattle.fin_frame.specs.declared.stage.Stage.{Stage}
use Rattle.fin_frame.specs.declared.stage.Stage.TheVariants.{Between, Opening, Within, After}

-- what holds of both choices
pub choose : {A : Type 0} (P : A → Type 0) (b : Bool) (x y : A) → P x → P y → P (cond b x y)
choose P true x y px py = px
choose P false x y px py = py

pub begins-self : {A : Type 0} (xs : List A) → Begins xs xs
begins-self xs = ([], sym (append-nil xs))

pub begins-more : {A : Type 0} (xs ys : List A) → Begins xs (xs ++ ys)
begins-more xs ys = (ys, refl)

pub begins-begins : {A : Type 0} (xs ys zs : List A) → Begins xs ys → Begins ys zs → Begins xs zs
begins-begins xs ys zs a b = (a.0 ++ b.0, b.1 ∙ ap (λ l. l ++ b.0) a.1 ∙ append_assoc xs a.0 b.0)

-- a step: counts and messages given only grow, and each byte is counted
pub record Goes (s t : State) : Type 0 where
  pub fed : (t.fed ≡ s.fed + 1) ⊎ ((fault : FrameFault) × (t.failed ≡ Some fault))
  pub begun : s.begun ≤ t.begun
  pub most : t.begun ≤ s.begun + 1
  pub given : Begins s.given t.given

goes-to : (s : State) (stage : Stage) → Goes s (to stage s)
goes-to s stage = record { fed = inl refl; begun = omega arith; most = omega arith; given = begins-self s.given }

goes-fails : (s : State) (fault : FrameFault) → Goes s (fails fault s)
goes-fails s fault = record { fed = inr (fault, refl); begun = omega arith; most = omega arith; given = begins-self s.given }

with_open-begins : (given : List (List ℕ)) (held : Option (List ℕ)) → Begins given (with_open given held)
with_open-begins given None = begins-self given
with_open-begins given (Some m) = begins-more given (m ∷ [])

goes-closes : (s : State) (stage : Stage) → Goes s (to stage (gives s))
goes-closes s stage = record { fed = inl refl; begun = omega arith; most = omega arith; given = with_open-begins s.given s.held }

goes-begins : (s : State) → Goes s (begins s)
goes-begins s = record { fed = inl refl; begun = omega arith; most = omega arith; given = with_open-begins s.given s.held }

goes-grows : (s : State) (from d b : ℕ) → Goes s (grows from d (b ∷ []) s)
goes-grows s from d b = record { fed = inl refl; begun = omega arith; most = omega arith; given = begins-self s.given }

goes-within : (s : State) (from d b : ℕ) → Goes s (within from d s b)
goes-within s from d b =
    choose (Goes s) (nat_le most_bytes (length (held_bytes s))) (fails (TooLong from) s) (grows from (depth_after d b) (b ∷ []) s) (goes-fails s _)
    (goes-grows s from _ b)

goes-resumes : (s : State) (from matched b : ℕ) → Goes s (within from 1 (resumes from matched s) b)
goes-resumes s from matched b =
    let g = goes-within (resumes from matched s) from 1 b in
    record { fed = g.fed; begun = g.begun; most = g.most; given = g.given }

goes-moves : (s : State) (o : Option Stage) → Goes s (moves o s)
goes-moves s None = goes-fails s _
goes-moves s (Some stage) = goes-to s stage

goes-close : (s : State) (b : ℕ) → Goes s (next_close s b)
goes-close s b = choose (Goes s) (is_gap_byte b) (to (Between (b == 36)) (gives s)) (fails (Stray s.fed) s) (goes-closes s _) (goes-fails s _)

goes-at : (stage : Stage) (s : State) (b : ℕ) → Goes s (next_at stage s b)
goes-at (Between marked) s b = goes-moves s (stage_between marked b)
goes-at (Opening matched) s b =
    choose (Goes s) (b == get_or lead matched 0) (cond (matched == 2) (begins s) (to (Opening (matched + 1)) s)) (fails (Stray (s.fed - matched)) s)
    (choose (Goes s) (matched == 2) (begins s) (to (Opening (matched + 1)) s) (goes-begins s) (goes-to s _)) (goes-fails s _)
goes-at (Within from d) s b = goes-within s from d b
goes-at (After from matched) s b =
    choose (Goes s) (b == get_or lead matched 0) (cond (matched == 2) (begins s) (to (After from (matched + 1)) s))
    (cond (matched == 0) (next_close s b) (within from 1 (resumes from matched s) b))
    (choose (Goes s) (matched == 2) (begins s) (to (After from (matched + 1)) s) (goes-begins s) (goes-to s _))
    (choose (Goes s) (matched == 0) (next_close s b) (within from 1 (resumes from matched s) b) (goes-close s b) (goes-resumes s from matched b))

goes-by : (o : Option FrameFault) (s : State) (b : ℕ) → s.failed ≡ o → Goes s (cond (is_some o) s (next_at s.stage s b))
goes-by None s b is = goes-at s.stage s b
goes-by (Some fault) s b is = record { fed = inr (fault, is); begun = omega arith; most = omega arith; given = begins-self s.given }

pub next-goes : (s : State) (b : ℕ) → Goes s (next s b)
next-goes s b = goes-by s.failed s b refl

pub run-begun : (s : State) (xs : List ℕ) → s.begun ≤ (run s xs).begun
run-begun s [] = omega arith
run-begun s (x ∷ xs) = let step = (next-goes s x).begun in let rest = run-begun (next s x) xs in omega arith

-- each byte begins one message at most
pub run-few : (s : State) (xs : List ℕ) → (run s xs).begun ≤ s.begun + length xs
run-few s [] = omega arith
run-few s (x ∷ xs) = let step = (next-goes s x).most in let rest = run-few (next s x) xs in omega arith

pub run-given : (s : State) (xs : List ℕ) → Begins s.given (run s xs).given
run-given s [] = begins-self s.given
run-given s (x ∷ xs) = begins-begins s.given (next s x).given (run (next s x) xs).given (next-goes s x).given (run-given (next s x) xs)

-- where no fault comes, each byte is counted
pub run-fed : (s : State) (xs : List ℕ) → (run s xs).failed ≡ None → (run s xs).fed ≡ s.fed + length xs
run-fed s [] sound = omega arith
run-fed s (x ∷ xs) sound = counted (next-goes s x).fed (run-fed (next s x) xs sound)
  where
    counted : ((next s x).fed ≡ s.fed + 1) ⊎ ((fault : FrameFault) × ((next s x).failed ≡ Some fault))
        → (run (next s x) xs).fed ≡ (next s x).fed + length xs → (run (next s x) xs).fed ≡ s.fed + length (x ∷ xs)
    counted (inl one) rest = omega arith
    counted (inr failed) rest =
        let still : run (next s x) xs ≡ next s x = run-failed (next s x) failed.0 xs failed.1 in cc (ap (λ t. t.failed) still, failed.1, sound)

-- Messages that were given before don't matter.
abbrev pub after : List (List ℕ) → State → State
after front s = record s { given = front ++ s.given }

after-choice : (front : List (List ℕ)) (b : Bool) (x y x' y' : State) → x' ≡ after front x → y' ≡ after front y → cond b x' y' ≡ after front (cond b x y)
after-choice front true x y x' y' px py = px
after-choice front false x y x' y' px py = py

with_open-after : (front given : List (List ℕ)) (held : Option (List ℕ)) → with_open (front ++ given) held ≡ front ++ with_open given held
with_open-after front given None = refl
with_open-after front given (Some m) = append_assoc front given (m ∷ [])

given-is : (s : State) (xs ys : List (List ℕ)) → xs ≡ ys → record s { given = xs } ≡ record s { given = ys }
given-is s xs ys e = ap (λ l. record s { given = l }) e

after-moves : (front : List (List ℕ)) (s : State) (o : Option Stage) → moves o (after front s) ≡ after front (moves o s)
after-moves front s None = refl
after-moves front s (Some stage) = refl

after-close : (front : List (List ℕ)) (s : State) (b : ℕ) → next_close (after front s) b ≡ after front (next_close s b)
after-close front s b =
    after-choice front (is_gap_byte b) (to (Between (b == 36)) (gives s)) (fails (Stray s.fed) s) _ _
    (given-is (to (Between (b == 36)) (gives s)) _ _ (with_open-after front s.given s.held)) refl

after-begins : (front : List (List ℕ)) (s : State) → begins (after front s) ≡ after front (begins s)
after-begins front s = given-is (begins s) _ _ (with_open-after front s.given s.held)

after-within : (front : List (List ℕ)) (s : State) (from d b : ℕ) → within from d (after front s) b ≡ after front (within from d s b)
after-within front s from d b =
    after-choice front (nat_le most_bytes (length (held_bytes s))) (fails (TooLong from) s) (grows from (depth_after d b) (b ∷ []) s) _ _ refl refl

after-at : (front : List (List ℕ)) (stage : Stage) (s : State) (b : ℕ) → next_at stage (after front s) b ≡ after front (next_at stage s b)
after-at front (Between marked) s b = after-moves front s (stage_between marked b)
after-at front (Opening matched) s b =
    after-choice front (b == get_or lead matched 0) (cond (matched == 2) (begins s) (to (Opening (matched + 1)) s)) (fails (Stray (s.fed - matched)) s) _ _
    (after-choice front (matched == 2) (begins s) (to (Opening (matched + 1)) s) _ _ (after-begins front s) refl) refl
after-at front (Within from d) s b = after-within front s from d b
after-at front (After from matched) s b =
    after-choice front (b == get_or lead matched 0) (cond (matched == 2) (begins s) (to (After from (matched + 1)) s))
    (cond (matched == 0) (next_close s b) (within from 1 (resumes from matched s) b)) _ _
    (after-choice front (matched == 2) (begins s) (to (After from (matched + 1)) s) _ _ (after-begins front s) refl)
    (after-choice front (matched == 0) (next_close s b) (within from 1 (resumes from matched s) b) _ _ (after-close front s b)
    (after-within front (resumes from matched s) from 1 b))

after-next : (front : List (List ℕ)) (s : State) (b : ℕ) → next (after front s) b ≡ after front (next s b)
after-next front s b = after-choice front (is_some s.failed) s (next_at s.stage s b) _ _ refl (after-at front s.stage s b)

pub run-after : (front : List (List ℕ)) (s : State) (xs : List ℕ) → run (after front s) xs ≡ after front (run s xs)
run-after front s [] = refl
run-after front s (x ∷ xs) = ap (λ t. run t xs) (after-next front s x) ∙ run-after front (next s x) xs
