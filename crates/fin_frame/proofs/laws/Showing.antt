-- What bytes show is what the machine comes to.
use Rattle.std.proofs.Common.{◌≡◌, ◌≢◌, ◌<◌, ◌≤◌, ◌⊎◌, ℕ, zero, suc, ◌+◌, ◌-◌, ◌==◌, ◌||◌, ◌&&◌, not, Bool, true, false, cond, nat_le, nat_lt, List, [], ◌∷◌, ◌++◌, length, take, drop, get_or, Some, None, refl, ap, sym, ◌∙◌, arith, subst, inl, inr}
use Rattle.std.proofs.lemmas.Bool.{eqb-true, ltb-true}
use Rattle.std.proofs.lemmas.Bool.Decides.{eqb_tells, leb_tells}
use Rattle.fin_frame.specs.File.{lead, agrees, is_blank, is_gap_byte, most_bytes, IsCutInto}
use Rattle.fin_frame.specs.Shown.{is_marked, no_more, stands_apart, cannot_follow, Shows, EndsWithin, is_over, ShowWhole, Begins, HasBegun}
use Rattle.fin_frame.specs.Shown.Shows.{stray as shows_stray, long as shows_long}
use Rattle.fin_frame.specs.Shown.EndsWithin.{inside as ends_inside, after as ends_after, apart as ends_apart}
use Rattle.fin_frame.specs.Shown.ShowWhole.{none as whole_none, some as whole_some}
use Rattle.fin_frame.specs.Shown.HasBegun.{begun as has_begun}
use Rattle.fin_frame.specs.inner.Machine.{State, at_start, to, fails, with_open, next_opening, next_close, stage_between, moves, next, run, unbalanced_at}
use Rattle.fin_frame.specs.declared.fault.FrameFault.{FrameFault}
use Rattle.fin_frame.specs.declared.fault.FrameFault.TheVariants.{Stray, TooLong}
use Rattle.fin_frame.specs.declared.stage.Stage.TheVariants.{Opening, After}
use Rattle.fin_frame.proofs.laws.Running.{run-append, run-failed, other-test}
use Rattle.fin_frame.proofs.Steps.{run-given, run-begun}
use Rattle.fin_frame.proofs.laws.Led.{at_gap, in_message, Rests, file-run, message-run, message-over, lead-run, and-parts, or-parts, close-step, no-more-joined}
use Rattle.fin_frame.proofs.laws.Led.Rests.{rests_apart, rests_after}

not-parts : (b : Bool) → not b ≡ true → b ≡ false
not-parts true e = cc
not-parts false e = refl

-- a byte that isn't the one of `{1:` that would have to come
opening-strays : (s : State) (matched b n : ℕ) (bytes : List ℕ) → s.failed ≡ None → s.stage ≡ Opening matched → (b ≡ get_or lead matched 0 → ⊥)
    → s.fed - matched ≡ n → (run s (b ∷ bytes)).failed ≡ Some (Stray n)
opening-strays s matched b n bytes sound stage other place =
    let there : next s b ≡ next_opening matched s b = rw (sound, stage) refl in
    let fails_so : next_opening matched s b ≡ fails (Stray (s.fed - matched)) s = rw (other-test b (get_or lead matched 0) other) refl in
    let failed : next s b ≡ fails (Stray n) s = there ∙ fails_so ∙ ap (λ k. fails (Stray k) s) place in
    ap (λ t. (run t bytes).failed) failed ∙ ap (λ t. t.failed) (run-failed (fails (Stray n) s) (Stray n) bytes refl)

third-strays : (n e : ℕ) (messages : List (List ℕ)) (bytes : List ℕ) (marked : Bool) → (58 ≡ e → ⊥)
    → (run (at_gap n messages marked) (123 ∷ 49 ∷ e ∷ bytes)).failed ≡ Some (Stray n)
third-strays n e messages bytes marked other =
    opening-strays (to (Opening 2) (to (Opening 1) (at_gap n messages marked))) 2 e n bytes refl refl (λ q. other (sym q)) (omega arith)

second-strays : (n c : ℕ) (messages : List (List ℕ)) (bytes : List ℕ) (marked : Bool) → (49 ≡ c → ⊥)
    → (run (at_gap n messages marked) (123 ∷ c ∷ bytes)).failed ≡ Some (Stray n)
second-strays n c messages bytes marked other =
    opening-strays (to (Opening 1) (at_gap n messages marked)) 1 c n bytes refl refl (λ q. other (sym q)) (omega arith)

group-strays-1 : (n : ℕ) (messages : List (List ℕ)) (bytes : List ℕ) (marked : Bool) → agrees (58 ∷ []) bytes ≡ false
    → (run (at_gap n messages marked) (123 ∷ 49 ∷ bytes)).failed ≡ Some (Stray n)
group-strays-1 n messages [] marked other = cc
group-strays-1 n messages (e ∷ bytes) marked other = by-byte (eqb_tells 58 e)
  where
    by-byte : (((58 == e) ≡ true) × (58 ≡ e)) ⊎ (((58 == e) ≡ false) × (58 ≢ e))
        → (run (at_gap n messages marked) (123 ∷ 49 ∷ e ∷ bytes)).failed ≡ Some (Stray n)
    by-byte (inl same) = absurd (let t : true ≡ false = sym (ap (λ b. b && true) same.0) ∙ other in cc)
    by-byte (inr differ) = third-strays n e messages bytes marked differ.1

group-strays : (n : ℕ) (messages : List (List ℕ)) (bytes : List ℕ) (marked : Bool) → agrees (49 ∷ 58 ∷ []) bytes ≡ false
    → (run (at_gap n messages marked) (123 ∷ bytes)).failed ≡ Some (Stray n)
group-strays n messages [] marked other = cc
group-strays n messages (c ∷ bytes) marked other = by-byte (eqb_tells 49 c)
  where
    by-byte : (((49 == c) ≡ true) × (49 ≡ c)) ⊎ (((49 == c) ≡ false) × (49 ≢ c))
        → (run (at_gap n messages marked) (123 ∷ c ∷ bytes)).failed ≡ Some (Stray n)
    by-byte (inl same) =
        subst (λ x. (run (at_gap n messages marked) (123 ∷ x ∷ bytes)).failed ≡ Some (Stray n)) same.1
        (group-strays-1 n messages bytes marked (sym (ap (λ b. b && agrees (58 ∷ []) bytes) same.0) ∙ other))
    by-byte (inr differ) = second-strays n c messages bytes marked differ.1

-- a byte that fails at once
fails-now : (s : State) (b n : ℕ) (bytes : List ℕ) → next s b ≡ fails (Stray n) s → (run s (b ∷ bytes)).failed ≡ Some (Stray n)
fails-now s b n bytes failed = ap (λ t. (run t bytes).failed) failed ∙ ap (λ t. t.failed) (run-failed (fails (Stray n) s) (Stray n) bytes refl)

stray-apart : (n b : ℕ) (messages : List (List ℕ)) (gap bytes : List ℕ) → cannot_follow messages gap (b ∷ bytes) ≡ true
    → (run (at_gap n messages (is_marked messages gap)) (b ∷ bytes)).failed ≡ Some (Stray n)
stray-apart n b messages gap bytes wrong = by-brace (eqb_tells b 123)
  where
    s : State
    s = at_gap n messages (is_marked messages gap)

    by-dollar : (b == 123) ≡ false → (((b == 36) ≡ true) × (b ≡ 36)) ⊎ (((b == 36) ≡ false) × (b ≢ 36))
        → (run (at_gap n messages (is_marked messages gap)) (b ∷ bytes)).failed ≡ Some (Stray n)
    by-dollar brace (inl same) =
        let marked : is_marked messages gap ≡ true = rw (brace, same.0) at wrong in
        fails-now (at_gap n messages (is_marked messages gap)) b n bytes
        (ap (λ m. moves (stage_between m b) (at_gap n messages (is_marked messages gap))) marked
        ∙ ap (λ x. moves (stage_between true x) (at_gap n messages (is_marked messages gap))) same.1)
    by-dollar brace (inr other) =
        let blank : is_blank b ≡ false = not-parts (is_blank b) (rw (brace, other.0) at wrong) in
        let stage : stage_between (is_marked messages gap) b ≡ None = rw (brace, other.0, blank) refl in
        fails-now (at_gap n messages (is_marked messages gap)) b n bytes (ap (λ o. moves o (at_gap n messages (is_marked messages gap))) stage)

    by-brace : (((b == 123) ≡ true) × (b ≡ 123)) ⊎ (((b == 123) ≡ false) × (b ≢ 123))
        → (run (at_gap n messages (is_marked messages gap)) (b ∷ bytes)).failed ≡ Some (Stray n)
    by-brace (inl same) =
        let wrong_brace : cannot_follow messages gap (123 ∷ bytes) ≡ true = subst (λ x. cannot_follow messages gap (x ∷ bytes) ≡ true) same.1 wrong in
        let other : agrees (49 ∷ 58 ∷ []) bytes ≡ false =
        not-parts (agrees (49 ∷ 58 ∷ []) bytes) (and-parts (stands_apart messages gap) (not (agrees lead (123 ∷ bytes))) wrong_brace).1 in
        subst (λ x. (run (at_gap n messages (is_marked messages gap)) (x ∷ bytes)).failed ≡ Some (Stray n)) (sym same.1)
        (group-strays n messages bytes (is_marked messages gap) other)
    by-brace (inr other) = by-dollar other.0 (eqb_tells b 36)

stray-after : (n from b : ℕ) (messages : List (List ℕ)) (m bytes : List ℕ) → cannot_follow (messages ++ m ∷ []) [] (b ∷ bytes) ≡ true
    → (run (in_message from 0 m messages n) (b ∷ bytes)).failed ≡ Some (Stray n)
stray-after n from b messages m bytes wrong = by-brace (eqb_tells b 123)
  where
    joined : no_more (messages ++ m ∷ []) ≡ false
    joined = no-more-joined messages m

    by-dollar : (b == 123) ≡ false → (((b == 36) ≡ true) × (b ≡ 36)) ⊎ (((b == 36) ≡ false) × (b ≢ 36))
        → (run (in_message from 0 m messages n) (b ∷ bytes)).failed ≡ Some (Stray n)
    by-dollar brace (inl same) = absurd (let t : false ≡ true = rw (brace, same.0, joined) at wrong in cc)
    by-dollar brace (inr other) =
        let blank : is_blank b ≡ false = not-parts (is_blank b) (rw (brace, other.0) at wrong) in
        let closes : next (in_message from 0 m messages n) b ≡ next_close (in_message from 0 m messages n) b =
        ap (λ t. cond t (to (After from 1) (in_message from 0 m messages n)) (next_close (in_message from 0 m messages n) b)) brace in
        let gapless : is_gap_byte b ≡ false = rw (blank, other.0) refl in
        fails-now (in_message from 0 m messages n) b n bytes (closes ∙ rw gapless refl)

    by-brace : (((b == 123) ≡ true) × (b ≡ 123)) ⊎ (((b == 123) ≡ false) × (b ≢ 123))
        → (run (in_message from 0 m messages n) (b ∷ bytes)).failed ≡ Some (Stray n)
    by-brace (inl same) =
        let wrong_brace : cannot_follow (messages ++ m ∷ []) [] (123 ∷ bytes) ≡ true =
        subst (λ x. cannot_follow (messages ++ m ∷ []) [] (x ∷ bytes) ≡ true) same.1 wrong in
        let t : (no_more (messages ++ m ∷ []) || false) ≡ true =
        (and-parts (stands_apart (messages ++ m ∷ []) []) (not (agrees lead (123 ∷ bytes))) wrong_brace).0 in
        let f : false ≡ true = sym (ap (λ x. x || false) joined) ∙ t in
        absurd (cc)
    by-brace (inr other) = by-dollar other.0 (eqb_tells b 36)

stray-run : {n : ℕ} {messages : List (List ℕ)} {gap : List ℕ} {s : State} (rest : List ℕ) → Rests n messages gap s
    → cannot_follow messages gap rest ≡ true → (run s rest).failed ≡ Some (Stray n)
stray-run [] rests wrong = cc
stray-run (b ∷ bytes) (rests_apart n messages gap apart) wrong = stray-apart n b messages gap bytes wrong
stray-run (b ∷ bytes) (rests_after n from messages message) wrong = stray-after n from b messages message bytes wrong

-- a fault that the bytes show comes
pub shown-comes : {bytes : List ℕ} {messages : List (List ℕ)} {fault : FrameFault} → Shows bytes messages fault
    → (run (at_start []) bytes).failed ≡ Some fault
shown-comes (shows_stray file rest front wrong) = ap (λ t. t.failed) (run-append (at_start []) file rest) ∙ stray-run rest (file-run front) wrong
shown-comes (shows_long {d} {gap} {messages} file message rest front is over) =
    let failed : (run (run (at_start []) file) message).failed ≡ Some (TooLong (length file)) = message-over is (file-run front) over in
    ap (λ t. t.failed)
    (run-append (at_start []) (file ++ message) rest ∙ ap (λ t. run t rest) (run-append (at_start []) file message)
    ∙ run-failed (run (run (at_start []) file) message) (TooLong (length file)) rest failed) ∙ failed

pub agrees-leads : (xs : List ℕ) → agrees lead xs ≡ true → 2 < length xs → xs ≡ lead ++ drop 3 xs
agrees-leads [] same long = absurd (omega arith)
agrees-leads (a ∷ []) same long = absurd (omega arith)
agrees-leads (a ∷ b ∷ []) same long = absurd (omega arith)
agrees-leads (a ∷ b ∷ c ∷ xs) same long =
    let first = and-parts (123 == a) ((49 == b) && ((58 == c) && true)) same in
    let second = and-parts (49 == b) ((58 == c) && true) first.1 in
    let third = and-parts (58 == c) true second.1 in
    let at_a : a ≡ 123 = sym (eqb-true 123 a first.0) in
    let at_b : b ≡ 49 = sym (eqb-true 49 b second.0) in
    let at_c : c ≡ 58 = sym (eqb-true 58 c third.0) in
    ap (λ x. x ∷ b ∷ c ∷ xs) at_a ∙ ap (λ x. 123 ∷ x ∷ c ∷ xs) at_b ∙ ap (λ x. 123 ∷ 49 ∷ x ∷ xs) at_c

-- a whole message that is over was given
over-given : (from n : ℕ) (m rest : List ℕ) (messages : List (List ℕ)) → is_over rest ≡ true
    → Begins (messages ++ m ∷ []) (run (in_message from 0 m messages n) rest).given
over-given from n m [] messages over = cc
over-given from n m (b ∷ bytes) messages over = by-byte (or-parts (is_gap_byte b) (nat_lt 2 (length (b ∷ bytes)) && agrees lead (b ∷ bytes)) over)
  where
    by-byte : (is_gap_byte b ≡ true) ⊎ ((nat_lt 2 (length (b ∷ bytes)) && agrees lead (b ∷ bytes)) ≡ true)
        → Begins (messages ++ m ∷ []) (run (in_message from 0 m messages n) (b ∷ bytes)).given
    by-byte (inl gap) =
        subst (λ t. Begins (messages ++ m ∷ []) (run t bytes).given) (sym (close-step from n b m messages gap))
        (run-given (at_gap (n + 1) (messages ++ m ∷ []) (b == 36)) bytes)
    by-byte (inr begins) =
        let parts = and-parts (nat_lt 2 (length (b ∷ bytes))) (agrees lead (b ∷ bytes)) begins in
        let whole : b ∷ bytes ≡ lead ++ drop 3 (b ∷ bytes) = agrees-leads (b ∷ bytes) parts.1 (ltb-true 2 (length (b ∷ bytes)) parts.0) in
        let there : run (in_message from 0 m messages n) (b ∷ bytes) ≡ run (in_message n 1 lead (messages ++ m ∷ []) (n + 3)) (drop 3 (b ∷ bytes)) =
        ap (λ x. run (in_message from 0 m messages n) x) whole ∙ run-append (in_message from 0 m messages n) lead (drop 3 (b ∷ bytes))
        ∙ ap (λ t. run t (drop 3 (b ∷ bytes))) (lead-run (rests_after n from messages m)) in
        subst (λ t. Begins (messages ++ m ∷ []) t.given) (sym there) (run-given (in_message n 1 lead (messages ++ m ∷ []) (n + 3)) (drop 3 (b ∷ bytes)))

pub whole-comes : {bytes : List ℕ} {messages : List (List ℕ)} → ShowWhole bytes messages → Begins messages (run (at_start []) bytes).given
whole-comes {bytes} whole_none = ((run (at_start []) bytes).given, refl)
whole-comes (whole_some file message rest messages front is over) =
    let there : run (at_start []) (file ++ message ++ rest) ≡ run (in_message (length file) 0 message messages (length file + length message)) rest =
    run-append (at_start []) (file ++ message) rest
    ∙ ap (λ t. run t rest) (run-append (at_start []) file message ∙ message-run is.0 (file-run front) is.1) in
    subst (λ t. Begins (messages ++ message ∷ []) t.given) (sym there) (over-given (length file) (length file + length message) message rest messages over)

-- the cutter has counted each message that has begun
pub begun-comes : {bytes : List ℕ} {k : ℕ} → HasBegun bytes k → k ≤ (run (at_start []) bytes).begun
begun-comes (has_begun file rest messages front) =
    let there : run (at_start []) (file ++ lead ++ rest) ≡ run (in_message (length file) 1 lead messages (length file + 3)) rest =
    run-append (at_start []) (file ++ lead) rest ∙ ap (λ t. run t rest) (run-append (at_start []) file lead ∙ lead-run (file-run front)) in
    subst (λ t. length messages + 1 ≤ t.begun) (sym there) (run-begun (in_message (length file) 1 lead messages (length file + 3)) rest)

-- the machine after a whole file: no fault, no group that is open, and all its messages
pub record Finished (messages : List (List ℕ)) (s : State) : Type 0 where
  pub sound : s.failed ≡ None
  pub balanced : unbalanced_at s.stage s.fed ≡ None
  pub all : with_open s.given s.held ≡ messages

rests-finished : {n : ℕ} {messages : List (List ℕ)} {gap : List ℕ} {s : State} → Rests n messages gap s → Finished messages s
rests-finished (rests_apart n messages gap far) = record { sound = refl; balanced = refl; all = refl }
rests-finished (rests_after n from messages message) = record { sound = refl; balanced = refl; all = refl }

-- over a file of messages the cutter ends with all of them
pub cut-comes : {file : List ℕ} {messages : List (List ℕ)} → IsCutInto file messages → Finished messages (run (at_start []) file)
cut-comes cut = rests-finished (file-run cut.1)

apart-ends : {n : ℕ} {messages : List (List ℕ)} {gap : List ℕ} {s : State} (k : ℕ) → Rests n messages gap s → stands_apart messages gap ≡ true → k ≤ 1
    → unbalanced_at (run s (take (suc k) lead)).stage (run s (take (suc k) lead)).fed ≡ Some n
apart-ends zero (rests_apart n messages gap far) stands le = ap (λ x. Some x) (let e : (n + 1) - 1 ≡ n = omega arith in e)
apart-ends (suc zero) (rests_apart n messages gap far) stands le = ap (λ x. Some x) (let e : (n + 1 + 1) - 2 ≡ n = omega arith in e)
apart-ends (suc (suc k)) (rests_apart n messages gap far) stands le = absurd (omega arith)
apart-ends k (rests_after n from messages message) stands le =
    absurd (let f : false ≡ true = sym (ap (λ x. x || false) (no-more-joined messages message)) ∙ stands in cc)

after-ends : (k from n : ℕ) (m : List ℕ) (messages : List (List ℕ)) → k ≤ 1
    → unbalanced_at (run (in_message from 0 m messages n) (take (suc k) lead)).stage (run (in_message from 0 m messages n) (take (suc k) lead)).fed
    ≡ Some from
after-ends zero from n m messages le = refl
after-ends (suc zero) from n m messages le = refl
after-ends (suc (suc k)) from n m messages le = absurd (omega arith)

-- the end within a group
pub ends-come : {bytes : List ℕ} {at : ℕ} → EndsWithin bytes at → (run (at_start []) bytes).failed ≡ None
    → unbalanced_at (run (at_start []) bytes).stage (run (at_start []) bytes).fed ≡ Some at
ends-come (ends_inside {d} {gap} {messages} file message front is) sound = by-size (leb_tells (length message) most_bytes)
  where
    by-size : ((nat_le (length message) most_bytes ≡ true) × (length message ≤ most_bytes))
        ⊎ ((nat_le (length message) most_bytes ≡ false) × (most_bytes < length message))
        → unbalanced_at (run (at_start []) (file ++ message)).stage (run (at_start []) (file ++ message)).fed ≡ Some (length file)
    by-size (inl fits) = ap (λ t. unbalanced_at t.stage t.fed) (run-append (at_start []) file message ∙ message-run is (file-run front) fits.1)
    by-size (inr over) =
        let failed : (run (at_start []) (file ++ message)).failed ≡ Some (TooLong (length file)) =
        ap (λ t. t.failed) (run-append (at_start []) file message) ∙ message-over is (file-run front) over.1 in
        let t : None ≡ Some (TooLong (length file)) = sym sound ∙ failed in
        absurd (cc)
ends-come (ends_after {gap} {messages} n file message front is le) sound =
    ap (λ t. unbalanced_at t.stage t.fed)
    (run-append (at_start []) (file ++ message) (take (suc n) lead)
    ∙ ap (λ t. run t (take (suc n) lead)) (run-append (at_start []) file message ∙ message-run is.0 (file-run front) is.1))
    ∙ after-ends n (length file) (length file + length message) message messages le
ends-come (ends_apart n file front stands le) sound =
    ap (λ t. unbalanced_at t.stage t.fed) (run-append (at_start []) file (take (suc n) lead)) ∙ apart-ends n (file-run front) stands le
