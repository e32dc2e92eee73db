-- Each byte leads the machine to what the bytes then show.
use Rattle.std.proofs.Common.{◌≡◌, ◌≢◌, ◌<◌, ◌≤◌, ◌⊎◌, ℕ, zero, suc, ◌+◌, ◌-◌, ◌==◌, ◌||◌, ◌&&◌, not, Bool, true, false, cond, nat_le, nat_lt, List, [], ◌∷◌, ◌++◌, length, take, get_or, Some, None, refl, ap, sym, ◌∙◌, arith, subst, inl, inr, append_assoc, length-append}
use Rattle.std.proofs.lemmas.List.{append-nil}
use Rattle.std.proofs.lemmas.Bool.Decides.{eqb_tells, leb_tells, nat_tests}
use Rattle.corr_text.specs.Braces.{depth_after}
use Rattle.fin_frame.specs.File.{lead, agrees, is_blank, is_gap_byte, dollars, most_bytes, IsGroupTo, IsMessageTo, IsMessage, IsFileOf}
use Rattle.fin_frame.specs.File.IsMessageTo.{head as message_head, next as message_next}
use Rattle.fin_frame.specs.File.IsFileOf.{start as file_start, more as file_more}
use Rattle.fin_frame.specs.Shown.{is_marked, no_more, stands_apart, cannot_follow, Shows, ShowWhole, Begins}
use Rattle.fin_frame.specs.Shown.Shows.{stray as shows_stray, long as shows_long}
use Rattle.fin_frame.specs.inner.Machine.{State, at_start, to, fails, begins, grows, within, resumes, held_bytes, next_opening, next_close, stage_between, moves, landed, next, run}
use Rattle.fin_frame.specs.declared.fault.FrameFault.{FrameFault}
use Rattle.fin_frame.specs.declared.fault.FrameFault.TheVariants.{Stray, TooLong}
use Rattle.fin_frame.specs.declared.stage.Stage.TheVariants.{Between, Opening, Within, After}
use Rattle.fin_frame.proofs.laws.Running.{other-test, state-same, within-full, within-room, after-resumes}
use Rattle.fin_frame.proofs.Steps.{begins-self, begins-more}
use Rattle.fin_frame.proofs.laws.Led.{at_gap, in_message, or-none, some-test, close-step, no-more-joined, marked-joined, or-true, gap-again, blank-stage}
use Rattle.fin_frame.proofs.laws.Tracking.{whole-more, shown-more, not-true, both-true, dollars-append, message-more, file-more, room_of, LastBegun, last-more, in_opening, in_after, Tracks, tracks-moved, tracks-whole, tracks-begun}
use Rattle.fin_frame.proofs.laws.Tracking.Tracks.{tracks_gap, tracks_opening, tracks_message, tracks_after, tracks_failed}

some-joined : {A : Type 0} (xs : List A) (x : A) → no_more (xs ++ x ∷ []) ≡ false
some-joined [] x = refl
some-joined (y ∷ xs) x = refl

file-room : {file gap : List ℕ} {messages : List (List ℕ)} → IsFileOf file messages gap → dollars gap ≤ room_of messages
file-room (file_start is) = is.1
file-room (file_more file message gap messages front is gapped) = subst (λ t. dollars gap ≤ cond t 0 1) (sym (no-more-joined messages message)) gapped.1

-- a fault that the next byte shows
fail-tracks : {bytes : List ℕ} (s : State) (b : ℕ) (messages : List (List ℕ)) (fault : FrameFault) → Tracks bytes s
    → Shows (bytes ++ b ∷ []) messages fault → Begins s.given messages → Tracks (bytes ++ b ∷ []) (fails fault s)
fail-tracks {bytes} s b messages fault tracks shown begins =
    tracks_failed (bytes ++ b ∷ []) (fails fault s) messages fault shown refl begins (whole-more (b ∷ []) (tracks-whole tracks))
    (last-more (b ∷ []) (tracks-begun tracks))

-- in a gap, or at the front

gap-byte-tracks : (file gap : List ℕ) (messages : List (List ℕ)) (b : ℕ) (marked : Bool) → IsFileOf file messages gap → is_gap_byte b ≡ true
    → dollars (gap ++ b ∷ []) ≤ room_of messages → marked ≡ is_marked messages (gap ++ b ∷ [])
    → Tracks (file ++ b ∷ []) (at_gap (length file + 1) messages marked)
gap-byte-tracks file gap messages b marked front byte few same =
    tracks-moved refl
    (gap-again (length (file ++ b ∷ [])) messages (is_marked messages (gap ++ b ∷ [])) marked (length file + 1) (length-append file (b ∷ [])) (sym same))
    (tracks_gap (file ++ b ∷ []) (gap ++ b ∷ []) messages (file-more b front byte few)
    (ap (λ t. no_more messages || not t) (some-joined gap b) ∙ or-true (no_more messages)))

dollar-tracks : (file gap : List ℕ) (messages : List (List ℕ)) (b : ℕ) (marked : Bool) → IsFileOf file messages gap → stands_apart messages gap ≡ true
    → (b == 123) ≡ false → (b == 36) ≡ true → is_marked messages gap ≡ marked
    → Tracks (file ++ b ∷ []) (moves (stage_between marked b) (at_gap (length file) messages (is_marked messages gap)))
dollar-tracks file gap messages b true front far brace dollar same =
    let s = at_gap (length file) messages (is_marked messages gap) in
    let wrong : cannot_follow messages gap (b ∷ []) ≡ true = rw (brace, dollar) same in
    let stage : stage_between true b ≡ None = rw (brace, dollar) refl in
    subst (λ o. Tracks (file ++ b ∷ []) (moves o s)) (sym stage)
    (fail-tracks s b messages (Stray (length file)) (tracks_gap file gap messages front far) (shows_stray file (b ∷ []) front wrong)
    (begins-self messages))
dollar-tracks file gap messages b false front far brace dollar same =
    let s = at_gap (length file) messages (is_marked messages gap) in
    let parts = or-none (no_more messages) (nat_lt 0 (dollars gap)) same in
    let none : dollars gap ≤ 0 = grind (arith, nat_tests, parts.1) in
    let one : dollars (b ∷ []) ≡ 1 = rw dollar refl in
    let both : dollars (gap ++ b ∷ []) ≡ dollars gap + dollars (b ∷ []) = dollars-append gap (b ∷ []) in
    let room : room_of messages ≡ 1 = ap (λ t. cond t 0 1) parts.0 in
    let stage : stage_between false b ≡ Some (Between true) = rw (brace, dollar) refl in
    let marks : true ≡ is_marked messages (gap ++ b ∷ []) =
    sym (ap (λ t. no_more messages || t) (some-test (dollars (gap ++ b ∷ [])) (omega arith)) ∙ or-true (no_more messages)) in
    let byte : is_gap_byte b ≡ true = ap (λ t. is_blank b || t) dollar ∙ or-true (is_blank b) in
    subst (λ o. Tracks (file ++ b ∷ []) (moves o s)) (sym stage) (gap-byte-tracks file gap messages b true front byte (omega arith) marks)

blank-tracks : (file gap : List ℕ) (messages : List (List ℕ)) (b : ℕ) (blank : Bool) → IsFileOf file messages gap → stands_apart messages gap ≡ true
    → (b == 123) ≡ false → (b == 36) ≡ false → is_blank b ≡ blank
    → Tracks (file ++ b ∷ []) (moves (stage_between (is_marked messages gap) b) (at_gap (length file) messages (is_marked messages gap)))
blank-tracks file gap messages b true front far brace dollar is =
    let s = at_gap (length file) messages (is_marked messages gap) in
    let none : dollars (b ∷ []) ≡ 0 = rw dollar refl in
    let both : dollars (gap ++ b ∷ []) ≡ dollars gap + dollars (b ∷ []) = dollars-append gap (b ∷ []) in
    let same : dollars (gap ++ b ∷ []) ≡ dollars gap = omega arith in
    let byte : is_gap_byte b ≡ true = ap (λ t. t || (b == 36)) is in
    subst (λ o. Tracks (file ++ b ∷ []) (moves o s)) (sym (blank-stage b (is_marked messages gap) is))
    (gap-byte-tracks file gap messages b (is_marked messages gap) front byte (subst (λ n. n ≤ room_of messages) (sym same) (file-room front))
    (ap (λ n. no_more messages || nat_lt 0 n) (sym same)))
blank-tracks file gap messages b false front far brace dollar is =
    let s = at_gap (length file) messages (is_marked messages gap) in
    let wrong : cannot_follow messages gap (b ∷ []) ≡ true = rw (brace, dollar, is) refl in
    let stage : stage_between (is_marked messages gap) b ≡ None = rw (brace, dollar, is) refl in
    subst (λ o. Tracks (file ++ b ∷ []) (moves o s)) (sym stage)
    (fail-tracks s b messages (Stray (length file)) (tracks_gap file gap messages front far) (shows_stray file (b ∷ []) front wrong)
    (begins-self messages))

gap-tracks : (file gap : List ℕ) (messages : List (List ℕ)) (b : ℕ) → IsFileOf file messages gap → stands_apart messages gap ≡ true
    → Tracks (file ++ b ∷ []) (next (at_gap (length file) messages (is_marked messages gap)) b)
gap-tracks file gap messages b front far = by-brace (eqb_tells b 123)
  where
    by-dollar : (b == 123) ≡ false → (((b == 36) ≡ true) × (b ≡ 36)) ⊎ (((b == 36) ≡ false) × (b ≢ 36))
        → Tracks (file ++ b ∷ []) (next (at_gap (length file) messages (is_marked messages gap)) b)
    by-dollar brace (inl same) =
        let s = at_gap (length file) messages (is_marked messages gap) in
        dollar-tracks file gap messages b (is_marked messages gap) front far brace same.0 refl
    by-dollar brace (inr other) = blank-tracks file gap messages b (is_blank b) front far brace other.0 refl

    by-brace : (((b == 123) ≡ true) × (b ≡ 123)) ⊎ (((b == 123) ≡ false) × (b ≢ 123))
        → Tracks (file ++ b ∷ []) (next (at_gap (length file) messages (is_marked messages gap)) b)
    by-brace (inl same) =
        subst (λ x. Tracks (file ++ x ∷ []) (next (at_gap (length file) messages (is_marked messages gap)) x)) (sym same.1)
        (tracks_opening file gap messages 0 front far (omega arith))
    by-brace (inr other) = by-dollar other.0 (eqb_tells b 36)

-- in a `{1:` that stands apart

opening-fails : (s : State) (matched b n : ℕ) → s.failed ≡ None → s.stage ≡ Opening matched → (b ≡ get_or lead matched 0 → ⊥) → s.fed - matched ≡ n
    → next s b ≡ fails (Stray n) s
opening-fails s matched b n sound stage other place =
    let there : next s b ≡ next_opening matched s b = rw (sound, stage) refl in
    let fails_so : next_opening matched s b ≡ fails (Stray (s.fed - matched)) s = rw (other-test b (get_or lead matched 0) other) refl in
    there ∙ fails_so ∙ ap (λ k. fails (Stray k) s) place

-- a byte that doesn't go on with the `{1:`
stray-opening : (file gap : List ℕ) (messages : List (List ℕ)) (matched b : ℕ) → IsFileOf file messages gap → stands_apart messages gap ≡ true
    → matched ≤ 1 → agrees lead (take (suc matched) lead ++ b ∷ []) ≡ false → (b ≡ get_or lead (suc matched) 0 → ⊥)
    → Tracks ((file ++ take (suc matched) lead) ++ b ∷ []) (next (in_opening (length file) messages (suc matched)) b)
stray-opening file gap messages matched b front far le other differs =
    let pending = take (suc matched) lead in
    let s = in_opening (length file) messages (suc matched) in
    let wrong : cannot_follow messages gap (pending ++ b ∷ []) ≡ true =
    both-true (stands_apart messages gap) (not (agrees lead (pending ++ b ∷ []))) far (not-true (agrees lead (pending ++ b ∷ [])) other) in
    let shown : Shows ((file ++ pending) ++ b ∷ []) messages (Stray (length file)) =
    subst (λ x. Shows x messages (Stray (length file))) (sym (append_assoc file pending (b ∷ []))) (shows_stray file (pending ++ b ∷ []) front wrong) in
    tracks-moved refl (sym (opening-fails s (suc matched) b (length file) refl refl differs (omega arith)))
    (fail-tracks s b messages (Stray (length file)) (tracks_opening file gap messages matched front far le) shown (begins-self messages))

second-tracks : (file gap : List ℕ) (messages : List (List ℕ)) (b : ℕ) → IsFileOf file messages gap → stands_apart messages gap ≡ true
    → Tracks ((file ++ 123 ∷ []) ++ b ∷ []) (next (in_opening (length file) messages 1) b)
second-tracks file gap messages b front far = by-byte (eqb_tells 49 b)
  where
    by-byte : (((49 == b) ≡ true) × (49 ≡ b)) ⊎ (((49 == b) ≡ false) × (49 ≢ b))
        → Tracks ((file ++ 123 ∷ []) ++ b ∷ []) (next (in_opening (length file) messages 1) b)
    by-byte (inl same) =
        subst (λ x. Tracks ((file ++ 123 ∷ []) ++ x ∷ []) (next (in_opening (length file) messages 1) x)) same.1
        (tracks-moved (sym (append_assoc file (123 ∷ []) (49 ∷ [])))
        (state-same (in_opening (length file) messages 2) (to (Opening 2) (in_opening (length file) messages 1)) refl refl (omega arith) refl refl refl)
        (tracks_opening file gap messages 1 front far (omega arith)))
    by-byte (inr other) = stray-opening file gap messages 0 b front far (omega arith) (ap (λ t. t && true) other.0) (λ q. other.1 (sym q))

lead-message : IsMessageTo 1 lead
lead-message = message_head (refl, refl) refl

third-tracks : (file gap : List ℕ) (messages : List (List ℕ)) (b : ℕ) → IsFileOf file messages gap → stands_apart messages gap ≡ true
    → Tracks ((file ++ 123 ∷ 49 ∷ []) ++ b ∷ []) (next (in_opening (length file) messages 2) b)
third-tracks file gap messages b front far = by-byte (eqb_tells 58 b)
  where
    by-byte : (((58 == b) ≡ true) × (58 ≡ b)) ⊎ (((58 == b) ≡ false) × (58 ≢ b))
        → Tracks ((file ++ 123 ∷ 49 ∷ []) ++ b ∷ []) (next (in_opening (length file) messages 2) b)
    by-byte (inl same) =
        subst (λ x. Tracks ((file ++ 123 ∷ 49 ∷ []) ++ x ∷ []) (next (in_opening (length file) messages 2) x)) same.1
        (tracks-moved (sym (append_assoc file (123 ∷ 49 ∷ []) (58 ∷ [])))
        (state-same (in_message (length file) 1 lead messages (length file + 3)) (begins (in_opening (length file) messages 2))
        (ap (λ k. Within k 1) (let e : length file ≡ (length file + 2) - 2 = omega arith in e)) refl (omega arith) refl refl refl)
        (tracks_message file gap lead messages 1 front lead-message (omega arith)))
    by-byte (inr other) = stray-opening file gap messages 1 b front far (omega arith) (ap (λ t. t && true) other.0) (λ q. other.1 (sym q))

-- within a group of the open message

-- the next byte of a message, which leaves so many groups open
held-tracks : {d : ℕ} (file gap front_of bytes : List ℕ) (messages : List (List ℕ)) (s : State) (b : ℕ) → IsFileOf file messages gap
    → IsMessageTo d (front_of ++ b ∷ []) → ShowWhole bytes s.given → LastBegun bytes s.begun → bytes ≡ file ++ front_of → held_bytes s ≡ front_of
    → s.fed ≡ length file + length front_of → s.begun ≡ length messages + 1 → s.failed ≡ None → s.given ≡ messages → (k : ℕ) → depth_after k b ≡ d
    → Tracks (bytes ++ b ∷ []) (within (length file) k s b)
held-tracks {d} file gap front_of bytes messages s b front is whole_given last whole held fed begun sound given k nests =
    by-room (leb_tells most_bytes (length (held_bytes s)))
  where
    longer : length (front_of ++ b ∷ []) ≡ length front_of + 1
    longer = length-append front_of (b ∷ [])

    by-room : ((nat_le most_bytes (length (held_bytes s)) ≡ true) × (most_bytes ≤ length (held_bytes s)))
        ⊎ ((nat_le most_bytes (length (held_bytes s)) ≡ false) × (length (held_bytes s) < most_bytes))
        → Tracks (bytes ++ b ∷ []) (within (length file) k s b)
    by-room (inl full) =
        let size : length (held_bytes s) ≡ length front_of = ap length held in
        let grown : length (front_of ++ b ∷ []) ≡ length front_of + 1 = length-append front_of (b ∷ []) in
        let same : file ++ (front_of ++ b ∷ []) ++ [] ≡ bytes ++ b ∷ [] =
        append-nil (file ++ (front_of ++ b ∷ [])) ∙ sym (append_assoc file front_of (b ∷ [])) ∙ ap (λ x. x ++ b ∷ []) (sym whole) in
        let shown : Shows (bytes ++ b ∷ []) messages (TooLong (length file)) =
        subst (λ x. Shows x messages (TooLong (length file))) same (shows_long file (front_of ++ b ∷ []) [] front is (omega arith)) in
        tracks-moved refl (sym (within-full (length file) k s b full.1))
        (tracks_failed (bytes ++ b ∷ []) (fails (TooLong (length file)) s) messages (TooLong (length file)) shown refl
        (subst (λ g. Begins g messages) (sym given) (begins-self messages)) (whole-more (b ∷ []) whole_given) (last-more (b ∷ []) last))
    by-room (inr room) =
        let size : length (held_bytes s) ≡ length front_of = ap length held in
        let grown : length (front_of ++ b ∷ []) ≡ length front_of + 1 = length-append front_of (b ∷ []) in
        let same : file ++ (front_of ++ b ∷ []) ≡ bytes ++ b ∷ [] = sym (append_assoc file front_of (b ∷ [])) ∙ ap (λ x. x ++ b ∷ []) (sym whole) in
        let there : in_message (length file) d (front_of ++ b ∷ []) messages (length file + length (front_of ++ b ∷ []))
        ≡ grows (length file) (depth_after k b) (b ∷ []) s =
        state-same (in_message (length file) d (front_of ++ b ∷ []) messages (length file + length (front_of ++ b ∷ [])))
        (grows (length file) (depth_after k b) (b ∷ []) s)
        (ap (λ e. landed (length file) e) (sym nests)) (ap (λ h. Some (h ++ b ∷ [])) (sym held)) (omega arith) (sym begun) (sym sound) (sym given) in
        tracks-moved same (there ∙ sym (within-room (length file) k s b room.1)) (tracks_message file gap (front_of ++ b ∷ []) messages d front is (omega arith))

inside-tracks : (file gap message : List ℕ) (messages : List (List ℕ)) (d b : ℕ) → IsFileOf file messages gap → IsMessageTo (suc d) message
    → length message ≤ most_bytes
    → Tracks ((file ++ message) ++ b ∷ []) (next (in_message (length file) (suc d) message messages (length file + length message)) b)
inside-tracks file gap message messages d b front is fits =
    held-tracks file gap message (file ++ message) messages (in_message (length file) (suc d) message messages (length file + length message)) b front
    (message-more b is)
    (tracks-whole (tracks_message file gap message messages (suc d) front is fits))
    (tracks-begun (tracks_message file gap message messages (suc d) front is fits)) refl refl refl refl refl refl (suc d) refl

-- directly after a group of the open message

or-none-same : (t : Bool) → (t || false) ≡ t
or-none-same true = refl
or-none-same false = refl

dollars-one : (b : ℕ) → dollars (b ∷ []) ≤ 1
dollars-one b = by-test (b == 36)
  where
    by-test : (t : Bool) → cond t (0 + 1) 0 ≤ 1
    by-test true = omega arith
    by-test false = omega arith

-- a message that a byte which can't follow comes after is whole
closed-file : (file gap message : List ℕ) (messages : List (List ℕ)) → IsFileOf file messages gap → IsMessage message
    → IsFileOf (file ++ message ++ []) (messages ++ message ∷ []) []
closed-file file gap message messages front is = file_more file message [] messages front is (refl, omega arith)

closed-tracks : (file gap message : List ℕ) (messages : List (List ℕ)) (b : ℕ) → IsFileOf file messages gap → IsMessage message
    → Tracks ((file ++ message) ++ b ∷ []) (next (in_message (length file) 0 message messages (length file + length message)) b)
closed-tracks file gap message messages b front is = by-brace (eqb_tells b 123)
  where
    s : State
    s = in_message (length file) 0 message messages (length file + length message)

    by-gap : (b == 123) ≡ false → (t : Bool) → is_gap_byte b ≡ t
        → Tracks ((file ++ message) ++ b ∷ []) (next (in_message (length file) 0 message messages (length file + length message)) b)
    by-gap brace true gapped =
        let n = length file + length message in
        let size : length (file ++ message ++ b ∷ []) ≡ n + 1 = length-append (file ++ message) (b ∷ []) ∙ ap (λ k. k + 1) (length-append file message) in
        let marks : is_marked (messages ++ message ∷ []) (b ∷ []) ≡ (b == 36) = sym (marked-joined b [] messages message) ∙ or-none-same (b == 36) in
        tracks-moved refl
        (gap-again (length (file ++ message ++ b ∷ [])) (messages ++ message ∷ []) (is_marked (messages ++ message ∷ []) (b ∷ [])) (b == 36)
        (n + 1) size marks ∙ sym (close-step (length file) n b message messages gapped))
        (tracks_gap (file ++ message ++ b ∷ []) (b ∷ []) (messages ++ message ∷ [])
        (file_more file message (b ∷ []) messages front is (ap (λ t. t && true) gapped, dollars-one b)) (or-true (no_more (messages ++ message ∷ []))))
    by-gap brace false gapped =
        let n = length file + length message in
        let here = in_message (length file) 0 message messages n in
        let parts = or-none (is_blank b) (b == 36) gapped in
        let wrong : cannot_follow (messages ++ message ∷ []) [] (b ∷ []) ≡ true = rw (brace, parts.1, parts.0) refl in
        let place : length (file ++ message ++ []) ≡ n = ap length (append-nil (file ++ message)) ∙ length-append file message in
        let same : (file ++ message ++ []) ++ b ∷ [] ≡ (file ++ message) ++ b ∷ [] = ap (λ x. x ++ b ∷ []) (append-nil (file ++ message)) in
        let shown : Shows ((file ++ message) ++ b ∷ []) (messages ++ message ∷ []) (Stray n) =
        subst (λ k. Shows ((file ++ message) ++ b ∷ []) (messages ++ message ∷ []) (Stray k)) place
        (subst (λ x. Shows x (messages ++ message ∷ []) (Stray (length (file ++ message ++ [])))) same
        (shows_stray (file ++ message ++ []) (b ∷ []) (closed-file file gap message messages front is) wrong)) in
        let closes : next here b ≡ next_close here b = ap (λ t. cond t (to (After (length file) 1) here) (next_close here b)) brace in
        let failed : next_close here b ≡ fails (Stray n) here = rw gapped refl in
        tracks-moved refl (sym (closes ∙ failed))
        (fail-tracks here b (messages ++ message ∷ []) (Stray n) (tracks_message file gap message messages 0 front is.0 is.1) shown
        (begins-more messages (message ∷ [])))

    by-brace : (((b == 123) ≡ true) × (b ≡ 123)) ⊎ (((b == 123) ≡ false) × (b ≢ 123))
        → Tracks ((file ++ message) ++ b ∷ []) (next (in_message (length file) 0 message messages (length file + length message)) b)
    by-brace (inl same) =
        subst (λ x. Tracks ((file ++ message) ++ x ∷ []) (next (in_message (length file) 0 message messages (length file + length message)) x))
        (sym same.1) (tracks_after file gap message messages 0 front is (omega arith))
    by-brace (inr other) = by-gap other.0 (is_gap_byte b) refl

-- bytes of `{1:` that don't go on are the open message's
resumed-tracks : (file gap message pending : List ℕ) (messages : List (List ℕ)) (matched b : ℕ) → IsFileOf file messages gap → IsMessage message
    → matched ≤ 1 → pending ≡ take (suc matched) lead → length pending ≡ suc matched → IsGroupTo (depth_after 1 b) (pending ++ b ∷ [])
    → agrees lead (pending ++ b ∷ []) ≡ false
    → next (in_after (length file) message messages (length file + length message) (suc matched)) b
    ≡ within (length file) 1
    (resumes (length file) (suc matched) (in_after (length file) message messages (length file + length message) (suc matched))) b
    → Tracks ((file ++ message ++ take (suc matched) lead) ++ b ∷ [])
    (next (in_after (length file) message messages (length file + length message) (suc matched)) b)
resumed-tracks file gap message pending messages matched b front is le pends size group other there =
    let s = in_after (length file) message messages (length file + length message) (suc matched) in
    let t = resumes (length file) (suc matched) s in
    let joined : IsMessageTo (depth_after 1 b) ((message ++ pending) ++ b ∷ []) =
    subst (λ x. IsMessageTo (depth_after 1 b) x) (sym (append_assoc message pending (b ∷ [])))
    (message_next message (pending ++ b ∷ []) is.0 group other) in
    let tracks : Tracks (file ++ message ++ take (suc matched) lead) s = tracks_after file gap message messages matched front is le in
    let held : message ++ take (suc matched) lead ≡ message ++ pending = ap (λ x. message ++ x) (sym pends) in
    let whole : file ++ message ++ take (suc matched) lead ≡ file ++ (message ++ pending) =
    append_assoc file message (take (suc matched) lead) ∙ ap (λ x. file ++ x) held in
    let sizes : length (message ++ pending) ≡ length message + length pending = length-append message pending in
    tracks-moved refl (sym there)
    (held-tracks file gap (message ++ pending) (file ++ message ++ take (suc matched) lead) messages t b front joined (tracks-whole tracks)
    (tracks-begun tracks) whole held (omega arith) refl refl refl 1 refl)

after-second : (file gap message : List ℕ) (messages : List (List ℕ)) (b : ℕ) → IsFileOf file messages gap → IsMessage message
    → Tracks ((file ++ message ++ 123 ∷ []) ++ b ∷ []) (next (in_after (length file) message messages (length file + length message) 1) b)
after-second file gap message messages b front is = by-byte (eqb_tells 49 b)
  where
    by-byte : (((49 == b) ≡ true) × (49 ≡ b)) ⊎ (((49 == b) ≡ false) × (49 ≢ b))
        → Tracks ((file ++ message ++ 123 ∷ []) ++ b ∷ []) (next (in_after (length file) message messages (length file + length message) 1) b)
    by-byte (inl same) =
        let n = length file + length message in
        subst
        (λ x. Tracks ((file ++ message ++ 123 ∷ []) ++ x ∷ []) (next (in_after (length file) message messages (length file + length message) 1) x)) same.1
        (tracks-moved (sym (append_assoc (file ++ message) (123 ∷ []) (49 ∷ [])))
        (state-same (in_after (length file) message messages n 2)
        (to (After (length file) 2) (in_after (length file) message messages n 1)) refl refl (omega arith) refl refl refl)
        (tracks_after file gap message messages 1 front is (omega arith)))
    by-byte (inr other) =
        resumed-tracks file gap message (123 ∷ []) messages 0 b front is (omega arith) refl refl (refl, refl) (ap (λ t. t && true) other.0)
        (after-resumes (length file) 1 (in_after (length file) message messages (length file + length message) 1) b (λ q. other.1 (sym q)) (omega arith))

after-third : (file gap message : List ℕ) (messages : List (List ℕ)) (b : ℕ) → IsFileOf file messages gap → IsMessage message
    → Tracks ((file ++ message ++ 123 ∷ 49 ∷ []) ++ b ∷ []) (next (in_after (length file) message messages (length file + length message) 2) b)
after-third file gap message messages b front is = by-byte (eqb_tells 58 b)
  where
    by-byte : (((58 == b) ≡ true) × (58 ≡ b)) ⊎ (((58 == b) ≡ false) × (58 ≢ b))
        → Tracks ((file ++ message ++ 123 ∷ 49 ∷ []) ++ b ∷ []) (next (in_after (length file) message messages (length file + length message) 2) b)
    by-byte (inl same) =
        let n = length file + length message in
        let closed = file ++ message ++ [] in
        let place : length closed ≡ n = ap length (append-nil (file ++ message)) ∙ length-append file message in
        let bytes : closed ++ lead ≡ (file ++ message ++ 123 ∷ 49 ∷ []) ++ 58 ∷ [] =
        ap (λ x. x ++ lead) (append-nil (file ++ message)) ∙ sym (append_assoc (file ++ message) (123 ∷ 49 ∷ []) (58 ∷ [])) in
        let count : length (messages ++ message ∷ []) ≡ length messages + 1 = length-append messages (message ∷ []) in
        subst
        (λ x. Tracks ((file ++ message ++ 123 ∷ 49 ∷ []) ++ x ∷ []) (next (in_after (length file) message messages (length file + length message) 2) x))
        same.1
        (tracks-moved bytes
        (state-same (in_message (length closed) 1 lead (messages ++ message ∷ []) (length closed + 3))
        (begins (in_after (length file) message messages n 2)) (ap (λ k. Within k 1) (let e : length closed ≡ (n + 2) - 2 = omega arith in e)) refl
        (omega arith) (omega arith) refl refl)
        (tracks_message closed [] lead (messages ++ message ∷ []) 1 (closed-file file gap message messages front is) lead-message (omega arith)))
    by-byte (inr other) =
        resumed-tracks file gap message (123 ∷ 49 ∷ []) messages 1 b front is (omega arith) refl refl (refl, refl) (ap (λ t. t && true) other.0)
        (after-resumes (length file) 2 (in_after (length file) message messages (length file + length message) 2) b (λ q. other.1 (sym q)) (omega arith))

failed-still : (s : State) (fault : FrameFault) (b : ℕ) → s.failed ≡ Some fault → next s b ≡ s
failed-still s fault b e = rw e refl

-- one byte
pub next-tracks : {bytes : List ℕ} {s : State} (b : ℕ) → Tracks bytes s → Tracks (bytes ++ b ∷ []) (next s b)
next-tracks b (tracks_gap file gap messages front far) = gap-tracks file gap messages b front far
next-tracks b (tracks_opening file gap messages zero front far le) = second-tracks file gap messages b front far
next-tracks b (tracks_opening file gap messages (suc zero) front far le) = third-tracks file gap messages b front far
next-tracks b (tracks_opening file gap messages (suc (suc matched)) front far le) = absurd (omega arith)
next-tracks b (tracks_message file gap message messages zero front is fits) = closed-tracks file gap message messages b front (is, fits)
next-tracks b (tracks_message file gap message messages (suc d) front is fits) = inside-tracks file gap message messages d b front is fits
next-tracks b (tracks_after file gap message messages zero front is le) = after-second file gap message messages b front is
next-tracks b (tracks_after file gap message messages (suc zero) front is le) = after-third file gap message messages b front is
next-tracks b (tracks_after file gap message messages (suc (suc matched)) front is le) = absurd (omega arith)
next-tracks b (tracks_failed bytes s messages fault shown failed begins whole last) =
    tracks-moved refl (sym (failed-still s fault b failed))
    (tracks_failed (bytes ++ b ∷ []) s messages fault (shown-more (b ∷ []) shown) failed begins (whole-more (b ∷ []) whole) (last-more (b ∷ []) last))

run-tracks : (added bytes : List ℕ) (s : State) → Tracks bytes s → Tracks (bytes ++ added) (run s added)
run-tracks [] bytes s tracks = tracks-moved (sym (append-nil bytes)) refl tracks
run-tracks (b ∷ added) bytes s tracks =
    tracks-moved (append_assoc bytes (b ∷ []) added) refl (run-tracks added (bytes ++ b ∷ []) (next s b) (next-tracks b tracks))

-- bytes from the front of a file
pub all-tracks : (bytes : List ℕ) → Tracks bytes (run (at_start []) bytes)
all-tracks bytes = run-tracks bytes [] (at_start []) (tracks_gap [] [] [] (file_start (refl, omega arith)) refl)
