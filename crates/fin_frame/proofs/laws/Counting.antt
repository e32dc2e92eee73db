-- How many messages begin in bytes that come.
use Rattle.std.proofs.Common.{◌≡◌, ◌≤◌, inl, inr, ℕ, zero, suc, ◌+◌, ◌-◌, ◌==◌, Bool, true, false, cond, nat_le, List, [], ◌∷◌, ◌++◌, length, take, get_or, Option, Some, None, is_some, arith, ap, sym, subst, refl, ◌∙◌}
use Rattle.std.proofs.lemmas.Bool.Decides.{nat_tests}
use Rattle.corr_text.specs.Braces.{depth_after}
use Rattle.fin_frame.specs.File.{lead, is_gap_byte, most_bytes}
use Rattle.fin_frame.specs.inner.Machine.{State, to, fails, gives, begins, held_bytes, grows, within, resumes, moves, stage_between, next_close, next_at, next, at_start, run}
use Rattle.fin_frame.specs.Shown.{HasBegun, HaveBegun}
use Rattle.fin_frame.specs.inner.Shown.{HasNoColon, is_colon}
use Rattle.fin_frame.specs.declared.fault.FrameFault.{FrameFault}
use Rattle.fin_frame.specs.declared.fault.FrameFault.TheVariants.{Stray, TooLong}
use Rattle.fin_frame.specs.declared.stage.Stage.{Stage}
use Rattle.fin_frame.specs.declared.stage.Stage.TheVariants.{Between, Opening, Within, After}
use Rattle.fin_frame.proofs.Steps.{choose, run-few}
use Rattle.fin_frame.proofs.Tracked.{all-tracks}
use Rattle.fin_frame.proofs.laws.Running.{run-append}
use Rattle.fin_frame.proofs.laws.Showing.{begun-comes}
use Rattle.fin_frame.proofs.laws.Tracking.{LastBegun, tracks-begun}

-- the machine has counted no more than have begun
counted : (bytes : List ℕ) (n k : ℕ) → HaveBegun bytes n → LastBegun bytes k → k ≤ n
counted bytes n k have (inl none) = omega (arith, none)
counted bytes n k have (inr has) = have.most k has

-- each byte more begins one message at most
pub begun-few : (bytes more : List ℕ) {n k : ℕ} → HaveBegun bytes n → HasBegun (bytes ++ more) k → k ≤ n + length more
begun-few bytes more {n} {k} have has =
    let before = counted bytes n (run (at_start []) bytes).begun have (tracks-begun (all-tracks bytes)) in
    let grown = run-few (run (at_start []) bytes) more in
    let same = ap (λ t. t.begun) (run-append (at_start []) bytes more) in
    omega (arith, before, grown, same, begun-comes has)

-- ---- a byte that is no colon begins no message

-- as many messages have begun
abbrev BeginsNone : State → State → Type 0
BeginsNone s t = t.begun ≡ s.begun

quiet-moves : (s : State) (stage : Option Stage) → BeginsNone s (moves stage s)
quiet-moves s None = refl
quiet-moves s (Some stage) = refl

quiet-within : (s : State) (from d b : ℕ) → BeginsNone s (within from d s b)
quiet-within s from d b = choose (BeginsNone s) (nat_le most_bytes (length (held_bytes s))) (fails (TooLong from) s) (grows from (depth_after d b) (b ∷ []) s) refl refl

quiet-close : (s : State) (b : ℕ) → BeginsNone s (next_close s b)
quiet-close s b = choose (BeginsNone s) (is_gap_byte b) (to (Between (b == 36)) (gives s)) (fails (Stray s.fed) s) refl refl

-- a byte that isn't the third of `{1:`
quiet-lead : (matched b : ℕ) (s more other : State) → is_colon b ≡ false → BeginsNone s more → BeginsNone s other
    → BeginsNone s (cond (b == get_or lead matched 0) (cond (matched == 2) (begins s) more) other)
quiet-lead zero b s more other differs m o = choose (BeginsNone s) (b == 123) more other m o
quiet-lead (suc zero) b s more other differs m o = choose (BeginsNone s) (b == 49) more other m o
quiet-lead (suc (suc zero)) b s more other differs m o = subst (λ (t : Bool). BeginsNone s (cond t (begins s) other)) (sym differs) o
quiet-lead (suc (suc (suc k))) b s more other differs m o =
    let past : (suc (suc (suc k)) == 2) ≡ false = grind (arith, nat_tests) in
    subst (λ (t : Bool). BeginsNone s (cond (b == get_or lead (suc (suc (suc k))) 0) (cond t (begins s) more) other)) (sym past)
    (choose (BeginsNone s) (b == get_or lead (suc (suc (suc k))) 0) more other m o)

quiet-at : (stage : Stage) (s : State) (b : ℕ) → is_colon b ≡ false → BeginsNone s (next_at stage s b)
quiet-at (Between marked) s b differs = quiet-moves s (stage_between marked b)
quiet-at (Opening matched) s b differs = quiet-lead matched b s (to (Opening (matched + 1)) s) (fails (Stray (s.fed - matched)) s) differs refl refl
quiet-at (Within from d) s b differs = quiet-within s from d b
quiet-at (After from matched) s b differs =
    quiet-lead matched b s (to (After from (matched + 1)) s) (cond (matched == 0) (next_close s b) (within from 1 (resumes from matched s) b)) differs refl
    (choose (BeginsNone s) (matched == 0) (next_close s b) (within from 1 (resumes from matched s) b) (quiet-close s b) (quiet-within (resumes from matched s) from 1 b))

quiet-by : (failed : Option FrameFault) (s : State) (b : ℕ) → is_colon b ≡ false → BeginsNone s (cond (is_some failed) s (next_at s.stage s b))
quiet-by None s b differs = quiet-at s.stage s b differs
quiet-by (Some fault) s b differs = refl

-- bytes without a colon begin no message
run-quiet : (n : ℕ) (xs : List ℕ) (s : State) → HasNoColon n xs → BeginsNone s (run s (take n xs))
run-quiet zero xs s quiet = refl
run-quiet (suc n) [] s quiet = refl
run-quiet (suc n) (x ∷ xs) s quiet =
    run-quiet n xs (next s x) (λ k l. quiet (suc k) (omega (arith, l))) ∙ quiet-by s.failed s x (quiet 0 (omega arith))

-- so after them no more have begun than before
pub begun-quiet : (bytes more : List ℕ) (size : ℕ) {n k : ℕ} → HasNoColon size more → HaveBegun bytes n → HasBegun (bytes ++ take size more) k → k ≤ n
begun-quiet bytes more size {n} {k} quiet have has =
    let before = counted bytes n (run (at_start []) bytes).begun have (tracks-begun (all-tracks bytes)) in
    let same = run-quiet size more (run (at_start []) bytes) quiet in
    let whole = ap (λ t. t.begun) (run-append (at_start []) bytes (take size more)) in
    omega (arith, before, same, whole, begun-comes has)
