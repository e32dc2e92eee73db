-- Where the machine is led by files, messages and gaps.
use Rattle.std.proofs.Common.{◌≡◌, ◌≢◌, ◌<◌, ◌≤◌, ◌⊎◌, ℕ, zero, suc, ◌+◌, ◌-◌, ◌==◌, ◌||◌, ◌&&◌, Bool, true, false, cond, nat_le, nat_lt, List, [], ◌∷◌, ◌++◌, length, take, drop, Some, None, if◌then◌else◌, refl, ap, sym, ◌∙◌, arith, subst, inl, inr, append_assoc, length-append}
use Rattle.std.specs.List.{list_all}
use Rattle.std.proofs.lemmas.List.{take-append-drop}
use Rattle.std.proofs.lemmas.Bool.{eqb-true}
use Rattle.std.proofs.lemmas.Bool.Decides.{eqb_tells, leb_tells, nat_tests}
use Rattle.corr_text.specs.Braces.{depth_after}
use Rattle.fin_frame.specs.File.{left_open, lead, agrees, is_blank, is_gap_byte, dollars, most_bytes, IsGroupTo, IsMessageTo, IsGap, IsFileOf}
use Rattle.fin_frame.specs.File.IsMessageTo.{head, next as joined}
use Rattle.fin_frame.specs.File.IsFileOf.{start as file_start, more as file_more}
use Rattle.fin_frame.specs.Shown.{is_marked, no_more, stands_apart}
use Rattle.fin_frame.specs.inner.Machine.{State, at_start, to, fails, gives, held_bytes, landed, grows, within, next_close, next, run, moves, stage_between}
use Rattle.fin_frame.specs.declared.fault.FrameFault.TheVariants.{TooLong}
use Rattle.fin_frame.specs.declared.stage.Stage.TheVariants.{Between, Within, After}
use Rattle.fin_frame.proofs.laws.Running.{run-append, run-failed, run-within, run-resumed, within-full, within-room, same-test, other-test, state-same, close-gap}

-- in a gap after these messages, or before them all
abbrev pub at_gap : ℕ → List (List ℕ) → Bool → State
at_gap n messages marked = record { stage = Between marked; held = None; fed = n; begun = length messages; failed = None; given = messages }

-- in a message that begins at from and leaves d groups left, after these messages
abbrev pub in_message : ℕ → ℕ → List ℕ → List (List ℕ) → ℕ → State
in_message from d message messages n = record {
  stage = landed from d;
  held = Some message;
  fed = n;
  begun = length messages + 1;
  failed = None;
  given = messages;
}

-- the machine after a file: in a gap, or directly after the last message
pub data Rests : ℕ → List (List ℕ) → List ℕ → State → Type 0 where
  rests_apart : (n : ℕ) (messages : List (List ℕ)) (gap : List ℕ) → stands_apart messages gap ≡ true
      → Rests n messages gap (at_gap n messages (is_marked messages gap))
  rests_after : (n from : ℕ) (messages : List (List ℕ)) (message : List ℕ) → Rests n (messages ++ message ∷ []) [] (in_message from 0 message messages n)

-- `{1:` begins a message
pub lead-run : {n : ℕ} {messages : List (List ℕ)} {gap : List ℕ} {s : State} → Rests n messages gap s → run s lead ≡ in_message n 1 lead messages (n + 3)
lead-run (rests_apart n messages gap apart) =
    state-same _ (in_message n 1 lead messages (n + 3)) (ap (λ k. Within k 1) (let e : (n + 1 + 1) - 2 ≡ n = omega arith in e)) refl
    (omega arith) refl refl refl
lead-run (rests_after n from messages message) =
    state-same _ (in_message n 1 lead (messages ++ message ∷ []) (n + 3)) (ap (λ k. Within k 1) (let e : (n + 1 + 1) - 2 ≡ n = omega arith in e)) refl
    (omega arith) (let e = length-append messages (message ∷ []) in omega arith) refl refl

pub in-message-same : (from d : ℕ) (messages : List (List ℕ)) (m m' : List ℕ) (n n' : ℕ) → m ≡ m' → n ≡ n'
    → in_message from d m messages n ≡ in_message from d m' messages n'
in-message-same from d messages m m' n n' same count = ap (λ x. in_message from d x messages n) same ∙ ap (λ x. in_message from d m' messages x) count

pub leads : (g : List ℕ) → take 3 g ≡ lead → g ≡ lead ++ drop 3 g
leads g e = sym (take-append-drop 3 g) ∙ ap (λ f. f ++ drop 3 g) e

-- a message begins `{1:`
pub message-leads : {d : ℕ} {m : List ℕ} → IsMessageTo d m → m ≡ lead ++ drop 3 m
message-leads {d} {m} (head is begin) = leads m begin
message-leads (joined message group closed is other) =
    subst (λ x. x ++ group ≡ lead ++ drop 3 (x ++ group)) (sym (message-leads closed)) refl

-- bytes within the open message, for which there is room
inner-run : (from d : ℕ) (m xs : List ℕ) (messages : List (List ℕ)) (n : ℕ) → 0 < length xs → left_open 1 xs ≡ Some d
    → length m + length xs ≤ most_bytes → run (in_message from 1 m messages n) xs ≡ in_message from d (m ++ xs) messages (n + length xs)
inner-run from d m xs messages n some is room = run-within from 1 d xs (in_message from 1 m messages n) refl refl (omega arith) some is room

-- the first of bytes for which there is no room, where the others come to that
over-rest : (from d e x k : ℕ) (xs : List ℕ) (s : State) → depth_after (suc d) x ≡ k → left_open k xs ≡ Some e → length (held_bytes s) < most_bytes
    → most_bytes < length (held_bytes s) + length (x ∷ xs)
    → ((k : ℕ) → depth_after (suc d) x ≡ suc k → 0 < length xs → (run (grows from (depth_after (suc d) x) (x ∷ []) s) xs).failed ≡ Some (TooLong from))
    → (run (grows from (depth_after (suc d) x) (x ∷ []) s) xs).failed ≡ Some (TooLong from)
over-rest from d e x k [] s nests is room over again = absurd (omega arith)
over-rest from d e x zero (y ∷ ys) s nests is room over again = cc
over-rest from d e x (suc k) (y ∷ ys) s nests is room over again = again k nests (omega arith)

over-step : (from d e x : ℕ) (xs : List ℕ) (s : State) → s.failed ≡ None → s.stage ≡ Within from (suc d)
    → left_open (depth_after (suc d) x) xs ≡ Some e → most_bytes < length (held_bytes s) + length (x ∷ xs)
    → ((k : ℕ) → length (held_bytes s) < most_bytes → depth_after (suc d) x ≡ suc k → 0 < length xs
    → (run (grows from (depth_after (suc d) x) (x ∷ []) s) xs).failed ≡ Some (TooLong from)) → (run (next s x) xs).failed ≡ Some (TooLong from)
over-step from d e x xs s sound stage is over again = by-room (leb_tells most_bytes (length (held_bytes s)))
  where
    here : next s x ≡ within from (suc d) s x
    here = rw (sound, stage) refl

    by-room : ((nat_le most_bytes (length (held_bytes s)) ≡ true) × (most_bytes ≤ length (held_bytes s)))
        ⊎ ((nat_le most_bytes (length (held_bytes s)) ≡ false) × (length (held_bytes s) < most_bytes)) → (run (next s x) xs).failed ≡ Some (TooLong from)
    by-room (inl full) =
        let failed : next s x ≡ fails (TooLong from) s = here ∙ within-full from (suc d) s x full.1 in
        ap (λ t. (run t xs).failed) failed ∙ ap (λ t. t.failed) (run-failed (fails (TooLong from) s) (TooLong from) xs refl)
    by-room (inr room) =
        ap (λ t. (run t xs).failed) (here ∙ within-room from (suc d) s x room.1)
        ∙ over-rest from d e x (depth_after (suc d) x) xs s refl is room.1 over (λ k nests some. again k room.1 nests some)

-- bytes within the open message, for which there is no room
pub run-over : (from d e : ℕ) (xs : List ℕ) (s : State) → s.failed ≡ None → s.stage ≡ Within from d → 0 < d → 0 < length xs → left_open d xs ≡ Some e
    → most_bytes < length (held_bytes s) + length xs → (run s xs).failed ≡ Some (TooLong from)
run-over from d e [] s sound stage deep some is over = absurd (omega arith)
run-over from zero e (x ∷ xs) s sound stage deep some is over = absurd (omega arith)
run-over from (suc d) e (x ∷ xs) s sound stage deep some is over =
    over-step from d e x xs s sound stage is over (λ k room nests more.
    let grown : length (held_bytes s ++ x ∷ []) ≡ length (held_bytes s) + 1 = length-append (held_bytes s) (x ∷ []) in
    run-over from (suc k) e xs (grows from (depth_after (suc d) x) (x ∷ []) s) sound (ap (λ n. landed from n) nests) (omega arith) more
    (subst (λ n. left_open n xs ≡ Some e) nests is) (omega arith))

-- A group after the open message that doesn't begin `{1:`: from some byte on it is known to be the message's.
record Resumed (from : ℕ) (m g : List ℕ) (messages : List (List ℕ)) (n d : ℕ) : Type 0 where
  pending : List ℕ
  xs : List ℕ
  whole : g ≡ pending ++ xs
  some : 0 < length xs
  is : left_open 1 xs ≡ Some d
  ran : run (in_message from 0 m messages n) g ≡ run (in_message from 1 (m ++ pending) messages (n + length pending)) xs

resumed-third : (from n d e : ℕ) (m more : List ℕ) (messages : List (List ℕ)) → (e ≡ 58 → ⊥) → left_open 1 (e ∷ more) ≡ Some d
    → Resumed from m (123 ∷ 49 ∷ e ∷ more) messages n d
resumed-third from n d e m more messages other is = record {
  pending = 123 ∷ 49 ∷ [];
  xs = e ∷ more;
  whole = refl;
  some = omega arith;
  is = is;
  ran =
      let s = record (in_message from 0 m messages n) { stage = After from 2; fed = n + 1 + 1 } in
      run-resumed from 2 s (e ∷ more) refl refl (omega arith) (omega arith) other
      ∙ ap (λ t. run t (e ∷ more)) (in-message-same from 1 messages (m ++ 123 ∷ 49 ∷ []) (m ++ 123 ∷ 49 ∷ []) (n + 1 + 1) (n + 2) refl (omega arith));
}

resumed-second : (from n d c : ℕ) (m more : List ℕ) (messages : List (List ℕ)) → (c ≡ 49 → ⊥) → left_open 1 (c ∷ more) ≡ Some d
    → Resumed from m (123 ∷ c ∷ more) messages n d
resumed-second from n d c m more messages other is = record {
  pending = 123 ∷ [];
  xs = c ∷ more;
  whole = refl;
  some = omega arith;
  is = is;
  ran =
      let s = record (in_message from 0 m messages n) { stage = After from 1; fed = n + 1 } in
      run-resumed from 1 s (c ∷ more) refl refl (omega arith) (omega arith) other;
}

resumed-after-1 : (from n d : ℕ) (m more : List ℕ) (messages : List (List ℕ)) → left_open 1 more ≡ Some d → agrees (58 ∷ []) more ≡ false
    → Resumed from m (123 ∷ 49 ∷ more) messages n d
resumed-after-1 from n d m [] messages is other = cc
resumed-after-1 from n d m (e ∷ more) messages is other = by-third (eqb_tells 58 e)
  where
    by-third : (((58 == e) ≡ true) × (58 ≡ e)) ⊎ (((58 == e) ≡ false) × (58 ≢ e)) → Resumed from m (123 ∷ 49 ∷ e ∷ more) messages n d
    by-third (inl same) = absurd (let t : true ≡ false = sym (ap (λ b. b && true) same.0) ∙ other in cc)
    by-third (inr differ) = resumed-third from n d e m more messages (λ q. differ.1 (sym q)) is

resumed-after : (from n d : ℕ) (m inside : List ℕ) (messages : List (List ℕ)) → left_open 1 inside ≡ Some d → agrees (49 ∷ 58 ∷ []) inside ≡ false
    → Resumed from m (123 ∷ inside) messages n d
resumed-after from n d m [] messages is other = cc
resumed-after from n d m (c ∷ more) messages is other = by-second (eqb_tells 49 c)
  where
    by-second : (((49 == c) ≡ true) × (49 ≡ c)) ⊎ (((49 == c) ≡ false) × (49 ≢ c)) → Resumed from m (123 ∷ c ∷ more) messages n d
    by-second (inl same) =
        let rest : agrees (58 ∷ []) more ≡ false = sym (ap (λ b. b && agrees (58 ∷ []) more) same.0) ∙ other in
        let left : left_open 1 (49 ∷ more) ≡ Some d = subst (λ x. left_open 1 (x ∷ more) ≡ Some d) (sym same.1) is in
        subst (λ x. Resumed from m (123 ∷ x ∷ more) messages n d) same.1 (resumed-after-1 from n d m more messages left rest)
    by-second (inr differ) = resumed-second from n d c m more messages (λ q. differ.1 (sym q)) is

group-resumed : (from n d : ℕ) (m g : List ℕ) (messages : List (List ℕ)) → IsGroupTo d g → agrees lead g ≡ false → Resumed from m g messages n d
group-resumed from n d m [] messages is other = absurd is
group-resumed from n d m (b ∷ inside) messages is other =
    let rest : agrees (49 ∷ 58 ∷ []) inside ≡ false = sym (ap (λ t. t && agrees (49 ∷ 58 ∷ []) inside) (same-test 123 b (sym is.0))) ∙ other in
    subst (λ x. Resumed from m (x ∷ inside) messages n d) (sym is.0) (resumed-after from n d m inside messages is.1 rest)

-- a message's bytes as far as they leave d groups left
pub message-run : {n d : ℕ} {m gap : List ℕ} {messages : List (List ℕ)} {s : State} → IsMessageTo d m → Rests n messages gap s → length m ≤ most_bytes
    → run s m ≡ in_message n d m messages (n + length m)
message-run {n} {d} {m} {gap} {messages} {s} (head is begin) rests room = by-rest (drop 3 m) (leads m begin)
  where
    by-rest : (r : List ℕ) → m ≡ lead ++ r → run s m ≡ in_message n d m messages (n + length m)
    by-rest r whole =
        let left : left_open 1 r ≡ Some d = (subst (λ x. IsGroupTo d x) whole is).1 in
        let size : length (lead ++ r) ≡ length m = ap length (sym whole) in
        ap (λ x. run s x) whole ∙ opened r left (omega arith)
        ∙ in-message-same n d messages (lead ++ r) m (n + length (lead ++ r)) (n + length m) (sym whole) (ap (λ k. n + k) size)
      where
        opened : (r : List ℕ) → left_open 1 r ≡ Some d → length (lead ++ r) ≤ most_bytes
            → run s (lead ++ r) ≡ in_message n d (lead ++ r) messages (n + length (lead ++ r))
        opened [] left fits = let one : 1 ≡ d = cc in lead-run rests ∙ ap (λ k. in_message n k lead messages (n + 3)) one
        opened (x ∷ xs) left fits =
            run-append s lead (x ∷ xs) ∙ ap (λ t. run t (x ∷ xs)) (lead-run rests)
            ∙ inner-run n d lead (x ∷ xs) messages (n + 3) (omega arith) left (omega arith)
            ∙ in-message-same n d messages (lead ++ x ∷ xs) (lead ++ x ∷ xs) ((n + 3) + length (x ∷ xs)) (n + length (lead ++ x ∷ xs)) refl (omega arith)
message-run {n} {d} {m} {gap} {messages} {s} (joined message group closed is other) rests room =
    let r = group-resumed n (n + length message) d message group messages is other in
    let sizes : length (message ++ group) ≡ length message + length group = length-append message group in
    let parts : length group ≡ length r.pending + length r.xs = ap length r.whole ∙ length-append r.pending r.xs in
    let held : length (message ++ r.pending) ≡ length message + length r.pending = length-append message r.pending in
    let same : (message ++ r.pending) ++ r.xs ≡ message ++ group = append_assoc message r.pending r.xs ∙ ap (λ x. message ++ x) (sym r.whole) in
    run-append s message group ∙ ap (λ t. run t group) (message-run closed rests (omega arith))
    ∙ r.ran ∙ inner-run n d (message ++ r.pending) r.xs messages (n + length message + length r.pending) r.some r.is (omega arith)
    ∙ in-message-same n d messages ((message ++ r.pending) ++ r.xs) (message ++ group) (n + length message + length r.pending + length r.xs)
    (n + length (message ++ group)) same (omega arith)

-- a message's bytes past what it may have
pub message-over : {n d : ℕ} {m gap : List ℕ} {messages : List (List ℕ)} {s : State} → IsMessageTo d m → Rests n messages gap s → most_bytes < length m
    → (run s m).failed ≡ Some (TooLong n)
message-over {n} {d} {m} {gap} {messages} {s} (head is begin) rests over =
    let whole : m ≡ lead ++ drop 3 m = leads m begin in
    let size : length m ≡ length lead + length (drop 3 m) = ap length whole ∙ length-append lead (drop 3 m) in
    let within_it : left_open 1 (drop 3 m) ≡ Some d = (subst (λ x. IsGroupTo d x) whole is).1 in
    ap (λ x. (run s x).failed) whole
    ∙ ap (λ t. t.failed) (run-append s lead (drop 3 m) ∙ ap (λ t. run t (drop 3 m)) (lead-run rests))
    ∙ run-over n 1 d (drop 3 m) (in_message n 1 lead messages (n + 3)) refl refl (omega arith) (omega arith) within_it (omega arith)
message-over {n} {d} {m} {gap} {messages} {s} (joined message group closed is other) rests over =
    by-size (leb_tells (length message) most_bytes) (message-over closed rests)
  where
    by-size : ((nat_le (length message) most_bytes ≡ true) × (length message ≤ most_bytes))
        ⊎ ((nat_le (length message) most_bytes ≡ false) × (most_bytes < length message))
        → (most_bytes < length message → (run s message).failed ≡ Some (TooLong n)) → (run s (message ++ group)).failed ≡ Some (TooLong n)
    by-size (inr long) again =
        ap (λ t. t.failed) (run-append s message group ∙ run-failed (run s message) (TooLong n) group (again long.1)) ∙ again long.1
    by-size (inl fits) again =
        let r = group-resumed n (n + length message) d message group messages is other in
        let sizes : length (message ++ group) ≡ length message + length group = length-append message group in
        let parts : length group ≡ length r.pending + length r.xs = ap length r.whole ∙ length-append r.pending r.xs in
        let held : length (message ++ r.pending) ≡ length message + length r.pending = length-append message r.pending in
        ap (λ t. t.failed) (run-append s message group ∙ ap (λ t. run t group) (message-run closed rests fits.1) ∙ r.ran)
        ∙ run-over n 1 d r.xs (in_message n 1 (message ++ r.pending) messages (n + length message + length r.pending)) refl refl
        (omega arith) r.some r.is (omega arith)

-- `$` in a gap
abbrev pub limit : Bool → ℕ
limit marked = if marked then 0 else 1

pub gap-again : (n : ℕ) (messages : List (List ℕ)) (a b : Bool) (k : ℕ) → n ≡ k → a ≡ b → at_gap n messages a ≡ at_gap k messages b
gap-again n messages a b k count same = ap (λ x. at_gap x messages a) count ∙ ap (λ x. at_gap k messages x) same

pub and-parts : (a b : Bool) → (a && b) ≡ true → (a ≡ true) × (b ≡ true)
and-parts true b e = (refl, e)
and-parts false b e = cc

pub or-parts : (a b : Bool) → (a || b) ≡ true → (a ≡ true) ⊎ (b ≡ true)
or-parts true b e = inl refl
or-parts false b e = inr e

pub or-none : (a b : Bool) → (a || b) ≡ false → (a ≡ false) × (b ≡ false)
or-none true b e = cc
or-none false b e = (refl, e)

pub some-test : (n : ℕ) → 0 < n → nat_lt 0 n ≡ true
some-test n some = grind (arith, nat_tests)

pub blank-stage : (b : ℕ) (marked : Bool) → is_blank b ≡ true → stage_between marked b ≡ Some (Between marked)
blank-stage b marked is = by-byte (or-parts (b == 10 || b == 13) (b == 32) is)
  where
    at : (n : ℕ) → stage_between marked n ≡ Some (Between marked) → (b == n) ≡ true → stage_between marked b ≡ Some (Between marked)
    at n holds same = subst (λ x. stage_between marked x ≡ Some (Between marked)) (sym (eqb-true b n same)) holds

    by-two : ((b == 10) ≡ true) ⊎ ((b == 13) ≡ true) → stage_between marked b ≡ Some (Between marked)
    by-two (inl same) = at 10 refl same
    by-two (inr same) = at 13 refl same

    by-byte : ((b == 10 || b == 13) ≡ true) ⊎ ((b == 32) ≡ true) → stage_between marked b ≡ Some (Between marked)
    by-byte (inl two) = by-two (or-parts (b == 10) (b == 13) two)
    by-byte (inr same) = at 32 refl same

gap-step : (b : ℕ) (gap : List ℕ) (n : ℕ) (messages : List (List ℕ)) (marked : Bool) → list_all is_gap_byte (b ∷ gap) ≡ true
    → dollars (b ∷ gap) ≤ limit marked → (((b == 36) ≡ true) × (b ≡ 36)) ⊎ (((b == 36) ≡ false) × (b ≢ 36))
    → ((marked : Bool) → list_all is_gap_byte gap ≡ true → dollars gap ≤ limit marked
    → run (at_gap (n + 1) messages marked) gap ≡ at_gap ((n + 1) + length gap) messages (marked || nat_lt 0 (dollars gap)))
    → run (at_gap n messages marked) (b ∷ gap) ≡ at_gap (n + length (b ∷ gap)) messages (marked || nat_lt 0 (dollars (b ∷ gap)))
gap-step b gap n messages marked all few (inr other) again =
    let parts = and-parts (is_gap_byte b) (list_all is_gap_byte gap) all in
    let blank : is_blank b ≡ true = other-way (is_blank b) (b == 36) parts.0 other.0 in
    let counted : dollars (b ∷ gap) ≡ dollars gap = rw other.0 refl in
    ap (λ o. run (moves o (at_gap n messages marked)) gap) (blank-stage b marked blank)
    ∙ again marked parts.1 (subst (λ k. k ≤ limit marked) counted few)
    ∙ gap-again (n + 1 + length gap) messages _ _ (n + length (b ∷ gap)) (omega arith) (ap (λ k. marked || nat_lt 0 k) (sym counted))
  where
    other-way : (x y : Bool) → (x || y) ≡ true → y ≡ false → x ≡ true
    other-way true y e f = refl
    other-way false y e f = cc
gap-step b gap n messages true all few (inl same) again =
    let counted : dollars (b ∷ gap) ≡ dollars gap + 1 = rw same.0 refl in
    absurd (omega arith)
gap-step b gap n messages false all few (inl same) again =
    let counted : dollars (b ∷ gap) ≡ dollars gap + 1 = rw same.0 refl in
    let parts = and-parts (is_gap_byte b) (list_all is_gap_byte gap) all in
    let step : next (at_gap n messages false) b ≡ at_gap (n + 1) messages true = ap (λ x. next (at_gap n messages false) x) same.1 in
    ap (λ t. run t gap) step ∙ again true parts.1 (omega arith)
    ∙ gap-again (n + 1 + length gap) messages true _ (n + length (b ∷ gap)) (omega arith)
    (sym (ap (λ k. nat_lt 0 k) counted ∙ some-test (dollars gap + 1) (omega arith)))

-- the bytes of a gap
pub gap-run : (gap : List ℕ) (n : ℕ) (messages : List (List ℕ)) (marked : Bool) → list_all is_gap_byte gap ≡ true → dollars gap ≤ limit marked
    → run (at_gap n messages marked) gap ≡ at_gap (n + length gap) messages (marked || nat_lt 0 (dollars gap))
gap-run [] n messages true all few = gap-again n messages true true (n + 0) (omega arith) refl
gap-run [] n messages false all few = gap-again n messages false false (n + 0) (omega arith) refl
gap-run (b ∷ gap) n messages marked all few = gap-step b gap n messages marked all few (eqb_tells b 36) (gap-run gap (n + 1) messages)

pub no-more-joined : (messages : List (List ℕ)) (message : List ℕ) → no_more (messages ++ message ∷ []) ≡ false
no-more-joined [] message = refl
no-more-joined (m ∷ messages) message = refl

pub or-true : (b : Bool) → (b || true) ≡ true
or-true true = refl
or-true false = refl

-- a byte of a gap after the open message
pub close-step : (from n b : ℕ) (m : List ℕ) (messages : List (List ℕ)) → is_gap_byte b ≡ true
    → next (in_message from 0 m messages n) b ≡ at_gap (n + 1) (messages ++ m ∷ []) (b == 36)
close-step from n b m messages is =
    let s = in_message from 0 m messages n in
    let other : (b == 123) ≡ false = other-test b 123 (λ e. let t : is_gap_byte 123 ≡ true = subst (λ x. is_gap_byte x ≡ true) e is in cc) in
    let closes : next s b ≡ next_close s b = ap (λ t. cond t (to (After from 1) s) (next_close s b)) other in
    closes ∙ close-gap s b is
    ∙ state-same (to (Between (b == 36)) (gives s)) (at_gap (n + 1) (messages ++ m ∷ []) (b == 36)) refl refl refl
    (let e = length-append messages (m ∷ []) in omega arith) refl refl

pub marked-joined : (b : ℕ) (gap : List ℕ) (messages : List (List ℕ)) (m : List ℕ)
    → ((b == 36) || nat_lt 0 (dollars gap)) ≡ is_marked (messages ++ m ∷ []) (b ∷ gap)
marked-joined b gap messages m = by-byte (eqb_tells b 36) ∙ sym (ap (λ t. t || nat_lt 0 (dollars (b ∷ gap))) (no-more-joined messages m))
  where
    by-byte : (((b == 36) ≡ true) × (b ≡ 36)) ⊎ (((b == 36) ≡ false) × (b ≢ 36)) → ((b == 36) || nat_lt 0 (dollars gap)) ≡ nat_lt 0 (dollars (b ∷ gap))
    by-byte (inl same) =
        let counted : dollars (b ∷ gap) ≡ dollars gap + 1 = rw same.0 refl in
        ap (λ t. t || nat_lt 0 (dollars gap)) same.0 ∙ sym (ap (λ k. nat_lt 0 k) counted ∙ some-test (dollars gap + 1) (omega arith))
    by-byte (inr other) =
        let counted : dollars (b ∷ gap) ≡ dollars gap = rw other.0 refl in
        ap (λ t. t || nat_lt 0 (dollars gap)) other.0 ∙ ap (λ k. nat_lt 0 k) (sym counted)

-- a gap, or nothing, after the open message
pub rests-after : (from n : ℕ) (m gap : List ℕ) (messages : List (List ℕ)) → IsGap 1 gap
    → Rests (n + length gap) (messages ++ m ∷ []) gap (run (in_message from 0 m messages n) gap)
rests-after from n m [] messages is =
    let e : n ≡ n + 0 = omega arith in subst (λ k. Rests k (messages ++ m ∷ []) [] (in_message from 0 m messages n)) e (at-once)
  where
    at-once : Rests n (messages ++ m ∷ []) [] (in_message from 0 m messages n)
    at-once = rests_after n from messages m
rests-after from n m (b ∷ gap) messages is =
    let parts = and-parts (is_gap_byte b) (list_all is_gap_byte gap) is.0 in
    let few : dollars gap ≤ limit (b == 36) = fewer b gap is.1 (eqb_tells b 36) in
    let there :
    run (in_message from 0 m messages n) (b ∷ gap) ≡ at_gap (n + length (b ∷ gap)) (messages ++ m ∷ []) (is_marked (messages ++ m ∷ []) (b ∷ gap)) =
    ap (λ t. run t gap) (close-step from n b m messages parts.0)
    ∙ gap-run gap (n + 1) (messages ++ m ∷ []) (b == 36) parts.1 few
    ∙ gap-again (n + 1 + length gap) (messages ++ m ∷ []) _ _ (n + length (b ∷ gap)) (omega arith) (marked-joined b gap messages m) in
    subst (λ t. Rests (n + length (b ∷ gap)) (messages ++ m ∷ []) (b ∷ gap) t) (sym there)
    (rests_apart (n + length (b ∷ gap)) (messages ++ m ∷ []) (b ∷ gap) (or-true (no_more (messages ++ m ∷ []))))
  where
    fewer : (b : ℕ) (gap : List ℕ) → dollars (b ∷ gap) ≤ 1 → (((b == 36) ≡ true) × (b ≡ 36)) ⊎ (((b == 36) ≡ false) × (b ≢ 36))
        → dollars gap ≤ limit (b == 36)
    fewer b gap few (inl same) =
        let counted : dollars (b ∷ gap) ≡ dollars gap + 1 = rw same.0 refl in
        subst (λ t. dollars gap ≤ limit t) (sym same.0) (omega arith)
    fewer b gap few (inr other) =
        let counted : dollars (b ∷ gap) ≡ dollars gap = rw other.0 refl in
        subst (λ t. dollars gap ≤ limit t) (sym other.0) (omega arith)

-- a file leads into its last gap, or after its last message
pub file-run : {file gap : List ℕ} {messages : List (List ℕ)} → IsFileOf file messages gap → Rests (length file) messages gap (run (at_start []) file)
file-run {file} (file_start is) =
    let there : run (at_start []) file ≡ at_gap (length file) [] true =
    gap-run file 0 [] true is.0 is.1 ∙ gap-again (0 + length file) [] true true (length file) (omega arith) refl in
    subst (λ t. Rests (length file) [] file t) (sym there) (rests_apart (length file) [] file refl)
file-run (file_more file message gap messages front is gapped) =
    let sizes : length (file ++ message ++ gap) ≡ (length file + length message) + length gap =
    length-append (file ++ message) gap ∙ ap (λ k. k + length gap) (length-append file message) in
    let there : run (at_start []) (file ++ message ++ gap) ≡ run (in_message (length file) 0 message messages (length file + length message)) gap =
    run-append (at_start []) (file ++ message) gap
    ∙ ap (λ t. run t gap) (run-append (at_start []) file message ∙ message-run is.0 (file-run front) is.1) in
    subst (λ t. Rests (length (file ++ message ++ gap)) (messages ++ message ∷ []) gap t) (sym there)
    (subst (λ k. Rests k (messages ++ message ∷ []) gap (run (in_message (length file) 0 message messages (length file + length message)) gap)) (sym sizes)
    (rests-after (length file) (length file + length message) message gap messages gapped))
