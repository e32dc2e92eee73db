-- What the machine came to is what the bytes show.
use Rattle.std.proofs.Common.{◌≡◌, ◌<◌, ◌≤◌, ◌⊎◌, ℕ, suc, ◌+◌, ◌==◌, ◌||◌, ◌&&◌, not, Bool, true, false, cond, nat_lt, List, [], ◌∷◌, ◌++◌, length, take, drop, Some, None, if◌then◌else◌, refl, ap, sym, ◌∙◌, arith, subst, inl, inr, append_assoc, length-append}
use Rattle.std.specs.List.{list_all}
use Rattle.std.proofs.lemmas.List.Folds.{list_all-append}
use Rattle.std.proofs.lemmas.Bool.{ltb-true}
use Rattle.corr_text.specs.Braces.{depth_after}
use Rattle.fin_frame.specs.File.{lead, agrees, is_blank, is_gap_byte, dollars, most_bytes, IsGroupTo, IsMessageTo, IsMessage, IsGap, IsFileOf}
use Rattle.fin_frame.specs.File.IsMessageTo.{head as message_head, next as message_next}
use Rattle.fin_frame.specs.File.IsFileOf.{start as file_start, more as file_more}
use Rattle.fin_frame.specs.Shown.{is_marked, no_more, stands_apart, cannot_follow, Shows, is_over, ShowWhole, Begins, HasBegun}
use Rattle.fin_frame.specs.Shown.Shows.{stray as shows_stray, long as shows_long}
use Rattle.fin_frame.specs.Shown.ShowWhole.{none as whole_none, some as whole_some}
use Rattle.fin_frame.specs.Shown.HasBegun.{begun as has_begun}
use Rattle.fin_frame.specs.inner.Machine.{State, begins}
use Rattle.fin_frame.specs.declared.fault.FrameFault.{FrameFault}
use Rattle.fin_frame.specs.declared.fault.FrameFault.TheVariants.{Stray, TooLong}
use Rattle.fin_frame.specs.declared.stage.Stage.TheVariants.{Opening, After}
use Rattle.fin_frame.proofs.Groups.{left_open-more}
use Rattle.fin_frame.proofs.laws.Running.{lt-test}
use Rattle.fin_frame.proofs.laws.Led.{at_gap, in_message, and-parts, or-parts, no-more-joined, or-true, message-leads, leads}

-- more bytes show no less

pub whole-more : {bytes : List ℕ} {messages : List (List ℕ)} (added : List ℕ) → ShowWhole bytes messages → ShowWhole (bytes ++ added) messages
whole-more added whole_none = whole_none
whole-more added (whole_some file message rest messages front is over) =
    subst (λ x. ShowWhole x (messages ++ message ∷ [])) (sym (append_assoc (file ++ message) rest added))
    (whole_some file message (rest ++ added) messages front is (over-more rest over))
  where
    agrees-long : (xs ys : List ℕ) → length xs ≤ length ys → agrees xs ys ≡ true → agrees xs (ys ++ added) ≡ true
    agrees-long [] ys le same = refl
    agrees-long (x ∷ xs) [] le same = absurd (omega arith)
    agrees-long (x ∷ xs) (y ∷ ys) le same =
        let parts = and-parts (x == y) (agrees xs ys) same in
        ap (λ b. b && agrees xs (ys ++ added)) parts.0 ∙ agrees-long xs ys (omega arith) parts.1

    over-more : (rest : List ℕ) → is_over rest ≡ true → is_over (rest ++ added) ≡ true
    over-more [] over = cc
    over-more (b ∷ rest) over = by-byte (or-parts (is_gap_byte b) (nat_lt 2 (length (b ∷ rest)) && agrees lead (b ∷ rest)) over)
      where
        by-byte : (is_gap_byte b ≡ true) ⊎ ((nat_lt 2 (length (b ∷ rest)) && agrees lead (b ∷ rest)) ≡ true) → is_over ((b ∷ rest) ++ added) ≡ true
        by-byte (inl gap) = ap (λ t. t || (nat_lt 2 (length ((b ∷ rest) ++ added)) && agrees lead ((b ∷ rest) ++ added))) gap
        by-byte (inr both) =
            let parts = and-parts (nat_lt 2 (length (b ∷ rest))) (agrees lead (b ∷ rest)) both in
            let long : 2 < length (b ∷ rest) = ltb-true 2 (length (b ∷ rest)) parts.0 in
            let size : length ((b ∷ rest) ++ added) ≡ length (b ∷ rest) + length added = length-append (b ∷ rest) added in
            let longer : nat_lt 2 (length ((b ∷ rest) ++ added)) ≡ true = lt-test 2 (length ((b ∷ rest) ++ added)) (omega arith) in
            let same : agrees lead ((b ∷ rest) ++ added) ≡ true = agrees-long lead (b ∷ rest) (omega arith) parts.1 in
            ap (λ t. is_gap_byte b || t) (ap (λ t. t && agrees lead ((b ∷ rest) ++ added)) longer ∙ same) ∙ or-true (is_gap_byte b)

-- a message that has begun has begun whatever follows
pub begun-more : {bytes : List ℕ} {n : ℕ} (added : List ℕ) → HasBegun bytes n → HasBegun (bytes ++ added) n
begun-more added (has_begun file rest messages front) =
    subst (λ x. HasBegun x (length messages + 1)) (sym (append_assoc (file ++ lead) rest added)) (has_begun file (rest ++ added) messages front)

pub agrees-other : (xs ys added : List ℕ) → agrees xs ys ≡ false → agrees xs (ys ++ added) ≡ false
agrees-other [] ys added other = cc
agrees-other (x ∷ xs) [] added other = cc
agrees-other (x ∷ xs) (y ∷ ys) added other = by-first (x == y) refl (agrees-other xs ys added)
  where
    tail-other : (t : Bool) → (t && agrees xs ys) ≡ false → t ≡ true → agrees xs ys ≡ false
    tail-other true e is = e
    tail-other false e is = cc

    by-first : (t : Bool) → (x == y) ≡ t → (agrees xs ys ≡ false → agrees xs (ys ++ added) ≡ false) → ((x == y) && agrees xs (ys ++ added)) ≡ false
    by-first true is again = ap (λ t. t && agrees xs (ys ++ added)) is ∙ again (tail-other (x == y) other is)
    by-first false is again = ap (λ t. t && agrees xs (ys ++ added)) is

pub not-true : (b : Bool) → b ≡ false → not b ≡ true
not-true b e = ap not e

pub not-false : (b : Bool) → not b ≡ true → b ≡ false
not-false true e = cc
not-false false e = refl

choice-more : (t x x' y : Bool) → (x ≡ true → x' ≡ true) → cond t x y ≡ true → cond t x' y ≡ true
choice-more true x x' y f e = f e
choice-more false x x' y f e = e

pub both-true : (a b : Bool) → a ≡ true → b ≡ true → (a && b) ≡ true
both-true a b p q = ap (λ t. t && b) p ∙ q

follow-more : (messages : List (List ℕ)) (gap rest added : List ℕ) → cannot_follow messages gap rest ≡ true
    → cannot_follow messages gap (rest ++ added) ≡ true
follow-more messages gap [] added wrong = cc
follow-more messages gap (b ∷ rest) added wrong =
    choice-more (b == 123) (stands_apart messages gap && not (agrees lead (b ∷ rest)))
    (stands_apart messages gap && not (agrees lead (b ∷ rest ++ added)))
    (if b == 36 then no_more messages || nat_lt 0 (dollars gap) else not (is_blank b))
    (λ e. let parts = and-parts (stands_apart messages gap) (not (agrees lead (b ∷ rest))) e in
    both-true (stands_apart messages gap) (not (agrees lead (b ∷ rest ++ added))) parts.0
    (not-true (agrees lead (b ∷ rest ++ added)) (agrees-other lead (b ∷ rest) added (not-false (agrees lead (b ∷ rest)) parts.1))))
    wrong

pub shown-more : {bytes : List ℕ} {messages : List (List ℕ)} {fault : FrameFault} (added : List ℕ) → Shows bytes messages fault
    → Shows (bytes ++ added) messages fault
shown-more {bytes} {messages} added (shows_stray {gap} file rest front wrong) =
    subst (λ x. Shows x messages (Stray (length file))) (sym (append_assoc file rest added))
    (shows_stray file (rest ++ added) front (follow-more messages gap rest added wrong))
shown-more {bytes} {messages} added (shows_long file message rest front is over) =
    subst (λ x. Shows x messages (TooLong (length file))) (sym (append_assoc (file ++ message) rest added))
    (shows_long file message (rest ++ added) front is over)

-- messages and gaps grow by a byte

pub dollars-append : (xs ys : List ℕ) → dollars (xs ++ ys) ≡ dollars xs + dollars ys
dollars-append [] ys = omega arith
dollars-append (x ∷ xs) ys = by-byte (x == 36) (dollars-append xs ys)
  where
    by-byte : (t : Bool) → dollars (xs ++ ys) ≡ dollars xs + dollars ys
        → cond t (dollars (xs ++ ys) + 1) (dollars (xs ++ ys)) ≡ cond t (dollars xs + 1) (dollars xs) + dollars ys
    by-byte true e = omega arith
    by-byte false e = e

-- one more byte of the open message
pub message-more : {d : ℕ} {m : List ℕ} (b : ℕ) → IsMessageTo (suc d) m → IsMessageTo (depth_after (suc d) b) (m ++ b ∷ [])
message-more {d} {m} b (message_head is begin) = message_head (group-more m is) (begins-more-bytes)
  where
    group-more : (g : List ℕ) → IsGroupTo (suc d) g → IsGroupTo (depth_after (suc d) b) (g ++ b ∷ [])
    group-more [] is = absurd is
    group-more (x ∷ xs) is = (is.0, left_open-more 1 xs b (suc d) is.1 (omega arith))

    begins-more-bytes : take 3 (m ++ b ∷ []) ≡ lead
    begins-more-bytes = subst (λ x. take 3 (x ++ b ∷ []) ≡ lead) (sym (leads m begin)) refl
message-more {d} b (message_next message group closed is other) =
    subst (λ x. IsMessageTo (depth_after (suc d) b) x) (sym (append_assoc message group (b ∷ [])))
    (message_next message (group ++ b ∷ []) closed (group-more group is) (agrees-other lead group (b ∷ []) other))
  where
    group-more : (g : List ℕ) → IsGroupTo (suc d) g → IsGroupTo (depth_after (suc d) b) (g ++ b ∷ [])
    group-more [] is = absurd is
    group-more (x ∷ xs) is = (is.0, left_open-more 1 xs b (suc d) is.1 (omega arith))

-- one more byte of a gap
pub gap-more : (most b : ℕ) (gap : List ℕ) → IsGap most gap → is_gap_byte b ≡ true → dollars (gap ++ b ∷ []) ≤ most → IsGap most (gap ++ b ∷ [])
gap-more most b gap is byte few =
    (list_all-append is_gap_byte gap (b ∷ []) ∙ both-true (list_all is_gap_byte gap) (is_gap_byte b && true) is.0 (ap (λ t. t && true) byte), few)

-- how many `$` may stand in the last gap
abbrev pub room_of : List (List ℕ) → ℕ
room_of messages = if no_more messages then 0 else 1

pub file-more : {file gap : List ℕ} {messages : List (List ℕ)} (b : ℕ) → IsFileOf file messages gap → is_gap_byte b ≡ true
    → dollars (gap ++ b ∷ []) ≤ room_of messages → IsFileOf (file ++ b ∷ []) messages (gap ++ b ∷ [])
file-more {file} b (file_start is) byte few = file_start (gap-more 0 b file is byte few)
file-more b (file_more file message gap messages front is gapped) byte few =
    let room : dollars (gap ++ b ∷ []) ≤ 1 = at-most (no_more (messages ++ message ∷ [])) few in
    subst (λ x. IsFileOf x (messages ++ message ∷ []) (gap ++ b ∷ [])) (sym (append_assoc (file ++ message) gap (b ∷ [])))
    (file_more file message (gap ++ b ∷ []) messages front is (gap-more 1 b gap gapped byte room))
  where
    at-most : (t : Bool) → dollars (gap ++ b ∷ []) ≤ cond t 0 1 → dollars (gap ++ b ∷ []) ≤ 1
    at-most true le = omega arith
    at-most false le = le

abbrev pub LastBegun : List ℕ → ℕ → Type 0
LastBegun bytes n = (n ≡ 0) ⊎ HasBegun bytes n

pub last-more : {bytes : List ℕ} {n : ℕ} (added : List ℕ) → LastBegun bytes n → LastBegun (bytes ++ added) n
last-more added (inl none) = inl none
last-more added (inr last) = inr (begun-more added last)

-- in the second or third byte of a `{1:` that stands apart
abbrev pub in_opening : ℕ → List (List ℕ) → ℕ → State
in_opening n messages matched = record {
  stage = Opening matched;
  held = None;
  fed = n + matched;
  begun = length messages;
  failed = None;
  given = messages;
}

-- after a whole group of the open message and bytes of `{1:`
abbrev pub in_after : ℕ → List ℕ → List (List ℕ) → ℕ → ℕ → State
in_after from message messages n matched = record {
  stage = After from matched;
  held = Some message;
  fed = n + matched;
  begun = length messages + 1;
  failed = None;
  given = messages;
}

-- where the machine is, and how the bytes are made up
pub data Tracks : List ℕ → State → Type 0 where
  tracks_gap : (file gap : List ℕ) (messages : List (List ℕ)) → IsFileOf file messages gap → stands_apart messages gap ≡ true
      → Tracks file (at_gap (length file) messages (is_marked messages gap))
  tracks_opening : (file gap : List ℕ) (messages : List (List ℕ)) (matched : ℕ) → IsFileOf file messages gap → stands_apart messages gap ≡ true
      → matched ≤ 1 → Tracks (file ++ take (suc matched) lead) (in_opening (length file) messages (suc matched))
  tracks_message : (file gap message : List ℕ) (messages : List (List ℕ)) (d : ℕ) → IsFileOf file messages gap → IsMessageTo d message
      → length message ≤ most_bytes → Tracks (file ++ message) (in_message (length file) d message messages (length file + length message))
  tracks_after : (file gap message : List ℕ) (messages : List (List ℕ)) (matched : ℕ) → IsFileOf file messages gap → IsMessage message → matched ≤ 1
      → Tracks (file ++ message ++ take (suc matched) lead) (in_after (length file) message messages (length file + length message) (suc matched))
  tracks_failed : (bytes : List ℕ) (s : State) (messages : List (List ℕ)) (fault : FrameFault) → Shows bytes messages fault → s.failed ≡ Some fault
      → Begins s.given messages → ShowWhole bytes s.given → LastBegun bytes s.begun → Tracks bytes s

pub tracks-moved : {bytes bytes' : List ℕ} {s s' : State} → bytes ≡ bytes' → s ≡ s' → Tracks bytes s → Tracks bytes' s'
tracks-moved {bytes} {bytes'} {s} {s'} same there t = subst (λ x. Tracks bytes' x) there (subst (λ x. Tracks x s) same t)

-- the messages of a file are whole where what follows shows it
whole-before : {file gap : List ℕ} {messages : List (List ℕ)} (rest : List ℕ) → IsFileOf file messages gap → is_over rest ≡ true
    → ShowWhole (file ++ rest) messages
whole-before rest (file_start is) over = whole_none
whole-before rest (file_more file message gap messages front is gapped) over =
    subst (λ x. ShowWhole x (messages ++ message ∷ [])) (sym (append_assoc (file ++ message) gap rest))
    (whole_some file message (gap ++ rest) messages front is (over-gap gap gapped.0))
  where
    over-gap : (gap : List ℕ) → list_all is_gap_byte gap ≡ true → is_over (gap ++ rest) ≡ true
    over-gap [] all = over
    over-gap (b ∷ gap) all =
        ap (λ t. t || (nat_lt 2 (length ((b ∷ gap) ++ rest)) && agrees lead ((b ∷ gap) ++ rest)))
        (and-parts (is_gap_byte b) (list_all is_gap_byte gap) all).0

whole-at-gap : {file gap : List ℕ} {messages : List (List ℕ)} → IsFileOf file messages gap → stands_apart messages gap ≡ true → ShowWhole file messages
whole-at-gap (file_start is) far = whole_none
whole-at-gap (file_more file message [] messages front is gapped) far =
    absurd (let f : false ≡ true = sym (ap (λ x. x || false) (no-more-joined messages message)) ∙ far in cc)
whole-at-gap (file_more file message (b ∷ gap) messages front is gapped) far =
    whole_some file message (b ∷ gap) messages front is
    (ap (λ t. t || (nat_lt 2 (length (b ∷ gap)) && agrees lead (b ∷ gap))) (and-parts (is_gap_byte b) (list_all is_gap_byte gap) gapped.0).0)

pub lead-over : (m : List ℕ) → m ≡ lead ++ drop 3 m → is_over m ≡ true
lead-over m whole = ap is_over whole ∙ ap (λ t. t && true) (lt-test 2 (length (lead ++ drop 3 m)) (omega arith))

begun-at-gap : {file gap : List ℕ} {messages : List (List ℕ)} → IsFileOf file messages gap → LastBegun file (length messages)
begun-at-gap (file_start is) = inl refl
begun-at-gap (file_more file message gap messages front is gapped) =
    let whole : file ++ lead ++ (drop 3 message ++ gap) ≡ file ++ message ++ gap =
    append_assoc file lead (drop 3 message ++ gap) ∙ ap (λ x. file ++ x) (sym (append_assoc lead (drop 3 message) gap))
    ∙ ap (λ x. file ++ (x ++ gap)) (sym (message-leads is.0)) ∙ sym (append_assoc file message gap) in
    let count : length messages + 1 ≡ length (messages ++ message ∷ []) = sym (length-append messages (message ∷ [])) in
    inr
    (subst (λ x. HasBegun x (length (messages ++ message ∷ []))) whole
    (subst (λ n. HasBegun (file ++ lead ++ (drop 3 message ++ gap)) n) count (has_begun file (drop 3 message ++ gap) messages front)))

begun-in-message : {d : ℕ} {file gap message : List ℕ} {messages : List (List ℕ)} → IsFileOf file messages gap → IsMessageTo d message
    → HasBegun (file ++ message) (length messages + 1)
begun-in-message {d} {file} {gap} {message} {messages} front is =
    let whole : file ++ lead ++ drop 3 message ≡ file ++ message =
    append_assoc file lead (drop 3 message) ∙ ap (λ x. file ++ x) (sym (message-leads is)) in
    subst (λ x. HasBegun x (length messages + 1)) whole (has_begun file (drop 3 message) messages front)

pub tracks-whole : {bytes : List ℕ} {s : State} → Tracks bytes s → ShowWhole bytes s.given
tracks-whole (tracks_gap file gap messages front far) = whole-at-gap front far
tracks-whole (tracks_opening file gap messages matched front far le) = whole-more (take (suc matched) lead) (whole-at-gap front far)
tracks-whole (tracks_message file gap message messages d front is fits) = whole-before message front (lead-over message (message-leads is))
tracks-whole (tracks_after file gap message messages matched front is le) =
    whole-more (take (suc matched) lead) (whole-before message front (lead-over message (message-leads is.0)))
tracks-whole (tracks_failed bytes s messages fault shown failed begins whole last) = whole

pub tracks-begun : {bytes : List ℕ} {s : State} → Tracks bytes s → LastBegun bytes s.begun
tracks-begun (tracks_gap file gap messages front far) = begun-at-gap front
tracks-begun (tracks_opening file gap messages matched front far le) = last-more (take (suc matched) lead) (begun-at-gap front)
tracks-begun (tracks_message file gap message messages d front is fits) = inr (begun-in-message front is)
tracks-begun (tracks_after file gap message messages matched front is le) = inr (begun-more (take (suc matched) lead) (begun-in-message front is.0))
tracks-begun (tracks_failed bytes s messages fault shown failed begins whole last) = last
