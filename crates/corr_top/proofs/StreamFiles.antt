-- A message file that is read in pieces: its messages so far are shown to be whole, and so are its first ones; what no file begins with.
use Rattle.std.proofs.Common.{◌≡◌, ◌&&◌, ◌||◌, ℕ, ◌≤◌, Bool, true, false, List, [], ◌∷◌, ◌++◌, drop, length, Option, None, Some, inl, inr, refl, sym, ap, ◌∙◌, subst, arith, append_assoc, append-nil, length-append}
use Rattle.std.specs.List.{list_all}
use Rattle.std.proofs.lemmas.Option.{none-some}
use mathlib.Core.Bool.{true≢false}
use Rattle.fin_frame.specs.File.{IsCutInto, IsFileOf, IsGap, IsMessage, is_gap_byte, lead}
use Rattle.fin_frame.specs.File.IsFileOf.{start as file_start, more as file_more}
use Rattle.fin_frame.specs.inner.Machine.{at_start, run, with_open}
use Rattle.fin_frame.specs.Pieces.{HasTakenFile, IsFaulty}
use Rattle.fin_frame.specs.Shown.{Begins, ShowWhole, is_over, stands_apart}
use Rattle.fin_frame.specs.Shown.ShowWhole.{none as whole_none, some as whole_some}
use Rattle.fin_frame.specs.Whole.{is_led}
use Rattle.fin_frame.specs.declared.pieces.PieceCutter.{PieceCutter}
use Rattle.fin_frame.proofs.laws.Led.{and-parts, message-leads, no-more-joined, or-true}
use Rattle.fin_frame.proofs.laws.Running.{lt-test}
use Rattle.fin_frame.proofs.laws.Showing.{cut-comes, ends-come, shown-comes, whole-comes}
use Rattle.fin_frame.proofs.laws.Tracking.{shown-more, whole-more}
use Rattle.corr_top.specs.MessageFile.{IsMessageFile}

-- ---- what stands behind a message shows that it is whole

led_over : (rest : List ℕ) → is_led rest ≡ true → is_over rest ≡ true
led_over [] led = absurd (true≢false (sym led))
led_over (b ∷ bytes) led = ap (λ (t : Bool). is_gap_byte b || t) led ∙ or-true (is_gap_byte b)

gap_over : (b : ℕ) (gap rest : List ℕ) → IsGap 1 (b ∷ gap) → is_over ((b ∷ gap) ++ rest) ≡ true
gap_over b gap rest is = ap (λ (t : Bool). t || is_led (b ∷ (gap ++ rest))) (and-parts (is_gap_byte b) (list_all is_gap_byte gap) is.0).0

-- the messages of a file of which more comes, and directly behind the last of them a `{1:`
pub shown_on : {file gap : List ℕ} {messages : List (List ℕ)} (rest : List ℕ) → IsFileOf file messages gap → (stands_apart messages gap ≡ false → is_led rest ≡ true) → ShowWhole (file ++ rest) messages
shown_on rest (file_start is) led = whole_none
shown_on rest (file_more file message [] messages front is gapped) led =
    let near : stands_apart (messages ++ message ∷ []) [] ≡ false = ap (λ (t : Bool). t || false) (no-more-joined messages message) in
    let same : file ++ message ++ rest ≡ (file ++ message ++ []) ++ rest = ap (λ (l : List ℕ). l ++ rest) (sym (append-nil (file ++ message))) in
    subst (λ (l : List ℕ). ShowWhole l (messages ++ message ∷ [])) same (whole_some file message rest messages front is (led_over rest (led near)))
shown_on rest (file_more file message (b ∷ gap) messages front is gapped) led =
    subst (λ (l : List ℕ). ShowWhole l (messages ++ message ∷ [])) (sym (append_assoc (file ++ message) (b ∷ gap) rest))
    (whole_some file message ((b ∷ gap) ++ rest) messages front is (gap_over b gap rest gapped))

-- what a cutter of pieces has taken
pub taken_shown : (c : PieceCutter) (file rest : List ℕ) (messages : List (List ℕ)) → HasTakenFile c file messages → (c.apart ≡ false → is_led rest ≡ true) → ShowWhole (file ++ rest) messages
taken_shown c file rest messages taken led = shown_on rest taken.is (λ near. led (taken.apart ∙ near))

-- ---- the first of messages that are shown to be whole

led_lead : (message : List ℕ) → message ≡ lead ++ drop 3 message → is_led message ≡ true
led_lead message leads = ap is_led leads ∙ ap (λ (t : Bool). t && true) (lt-test 2 (length (lead ++ drop 3 message)) (omega arith))

-- a message that stands behind others shows these to be whole
pub shown_before : {file gap : List ℕ} {messages : List (List ℕ)} (message rest : List ℕ) → IsFileOf file messages gap → IsMessage message → ShowWhole (file ++ message ++ rest) messages
shown_before {file} {gap} {messages} message rest front is =
    let led = led_lead message (message-leads is.0) in
    whole-more rest (shown_on message front (λ near. led))

one_less : {bytes : List ℕ} {all : List (List ℕ)} → ShowWhole bytes all → (messages : List (List ℕ)) (message : List ℕ) → all ≡ messages ++ message ∷ [] → ShowWhole bytes messages
one_less whole_none messages message is = absurd (let long = length-append messages (message ∷ []) in let e = ap length is in omega (arith, long, e))
one_less (whole_some file last rest before front is_message over) messages message is =
    subst (λ (ms : List (List ℕ)). ShowWhole (file ++ last ++ rest) ms) (same before messages last message is) (shown_before last rest front is_message)
  where
    same : (xs ys : List (List ℕ)) (x y : List ℕ) → xs ++ x ∷ [] ≡ ys ++ y ∷ [] → xs ≡ ys
    same [] [] x y e = refl
    same [] (z ∷ ys) x y e = absurd (let long = length-append ys (y ∷ []) in let l = ap length e in omega (arith, long, l))
    same (z ∷ xs) [] x y e = absurd (let long = length-append xs (x ∷ []) in let l = ap length e in omega (arith, long, l))
    same (w ∷ xs) (z ∷ ys) x y e = let first : w ≡ z = cc (e) in let rest : xs ++ x ∷ [] ≡ ys ++ y ∷ [] = cc (e) in (λ i. first i ∷ same xs ys x y rest i)

-- the first ones of messages that are shown to be whole are, too
pub shown_front : (more front : List (List ℕ)) {bytes : List ℕ} → ShowWhole bytes (front ++ more) → ShowWhole bytes front
shown_front [] front {bytes} shown = subst (λ (ms : List (List ℕ)). ShowWhole bytes ms) (append-nil front) shown
shown_front (m ∷ more) front {bytes} shown =
    one_less (shown_front more (front ++ m ∷ []) (subst (λ (ms : List (List ℕ)). ShowWhole bytes ms) (sym (append_assoc front (m ∷ []) more)) shown)) front m refl

-- ---- what is no message file

-- a file has at least the messages that its first bytes show to be whole
pub shown_few : (bytes more : List ℕ) (messages all : List (List ℕ)) → ShowWhole bytes messages → IsCutInto (bytes ++ more) all → length messages ≤ length all
shown_few bytes more messages all shown cut =
    let s = run (at_start []) (bytes ++ more) in
    let begins : Begins messages s.given = whole-comes (whole-more more shown) in
    let first = ap length begins.1 ∙ length-append messages begins.0 in
    let opened = open_more s.given s.held in
    let whole = ap length (cut-comes cut).all in
    omega (arith, first, opened, whole)
  where
    open_more : (given : List (List ℕ)) (held : Option (List ℕ)) → length given ≤ length (with_open given held)
    open_more given None = omega arith
    open_more given (Some message) = let long = length-append given (message ∷ []) in omega (arith, long)

-- bytes with a fault begin no file, and those that end within a group are none
pub faulty_none : (last : Bool) (bytes more : List ℕ) (messages : List (List ℕ)) → IsFaulty last bytes → (last ≡ true → more ≡ []) → IsMessageFile (bytes ++ more) messages → ⊥
faulty_none last bytes more messages (inl shows) ends is =
    none-some shows.1 (sym (cut-comes is.cut).sound ∙ shown-comes (shown-more more shows.2))
faulty_none last bytes more messages (inr within) ends is =
    let whole : IsCutInto bytes messages = subst (λ (l : List ℕ). IsCutInto l messages) (ap (λ (l : List ℕ). bytes ++ l) (ends within.0) ∙ append-nil bytes) is.cut in
    none-some within.1 (sym (cut-comes whole).balanced ∙ ends-come within.2 (cut-comes whole).sound)
