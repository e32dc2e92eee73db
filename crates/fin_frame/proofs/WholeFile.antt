-- A file read at once: its gaps, its groups and its messages, and what stands in the way of a cut.
use Rattle.std.proofs.Common.{◌≡◌, ◌≢◌, ◌<◌, ◌≤◌, ◌⊎◌, ℕ, zero, suc, ◌+◌, ◌==◌, ◌||◌, ◌&&◌, not, nat_le, nat_lt, Bool, true, false, List, [], ◌∷◌, ◌++◌, length, take, drop, get_or, Some, None, refl, ap, sym, ◌∙◌, arith, subst, inl, inr, append_assoc, length-append}
use Rattle.std.proofs.lemmas.List.{append-nil, drop_all, length-take-le, take_all, take-append-drop, take-append-le}
use Rattle.std.proofs.lemmas.Bool.{eqb-true, ltb-true}
use Rattle.std.proofs.lemmas.Bool.Decides.{eqb_tells, leb_tells, nat_tests}
use Rattle.fin_frame.specs.File.{lead, agrees, is_blank, is_gap_byte, dollars, most_bytes, left_open, IsGap, IsGroupTo, IsMessageTo, IsMessage, IsFileOf, IsCutInto}
use Rattle.fin_frame.specs.File.IsMessageTo.{head as message_head, next as message_next}
use Rattle.fin_frame.specs.File.IsFileOf.{start as file_start, more as file_more}
use Rattle.fin_frame.specs.Shown.{is_marked, no_more, stands_apart, cannot_follow, Shows, EndsWithin, HasBegun}
use Rattle.fin_frame.specs.Shown.Shows.{stray as shows_stray, long as shows_long}
use Rattle.fin_frame.specs.Shown.EndsWithin.{inside as ends_inside, after as ends_after, apart as ends_apart}
use Rattle.fin_frame.specs.Shown.HasBegun.{begun as has_begun}
use Rattle.fin_frame.specs.inner.Machine.{State, at_start, run, stage_between}
use Rattle.fin_frame.specs.Whole.{is_led}
use Rattle.fin_frame.specs.inner.Whole.{has_group, gap_goes_on, IsFront, IsOpenGroup, IsPart, EndsOpen, RunsOver, CutsNoFile}
use Rattle.fin_frame.specs.inner.Whole.EndsOpen.{inside as ends_open_inside, after as ends_open_after}
use Rattle.fin_frame.specs.declared.fault.FrameFault.{FrameFault}
use Rattle.fin_frame.specs.declared.fault.FrameFault.TheVariants.{TooLong}
use Rattle.fin_frame.specs.declared.stage.Stage.TheVariants.{Between}
use Rattle.fin_frame.specs.declared.whole.Front.{Front}
use Rattle.fin_frame.specs.declared.whole.Front.TheVariants.{Whole, Open, Long}
use Rattle.fin_frame.proofs.laws.Running.{lt-test}
use Rattle.fin_frame.proofs.laws.Led.{Rests, file-run, limit, and-parts, or-parts, or-none, some-test, blank-stage, no-more-joined, or-true, message-leads}
use Rattle.fin_frame.proofs.laws.Led.Rests.{rests_apart, rests_after}
use Rattle.fin_frame.proofs.laws.Showing.{shown-comes, begun-comes, cut-comes, ends-come, agrees-leads}
use Rattle.fin_frame.proofs.laws.Tracking.{both-true, not-true, not-false, dollars-append, gap-more}

-- a gap

-- bytes of a gap, after which no `$` may come where m
pub record EndsGap (marked m : Bool) (gap : List ℕ) : Type 0 where
  pub is : IsGap (limit marked) gap
  pub marks : m ≡ (marked || nat_lt 0 (dollars gap))

pub gap-none : (marked : Bool) → EndsGap marked marked []
gap-none true = record { is = (refl, omega arith); marks = refl }
gap-none false = record { is = (refl, omega arith); marks = refl }

-- one more byte of a gap
pub gap-on : (marked m n : Bool) (b : ℕ) (gap : List ℕ) → EndsGap marked m gap → stage_between m b ≡ Some (Between n) → EndsGap marked n (gap ++ b ∷ [])
gap-on marked m n b gap so stage = by-brace (eqb_tells b 123)
  where
    both : dollars (gap ++ b ∷ []) ≡ dollars gap + dollars (b ∷ [])
    both = dollars-append gap (b ∷ [])

    by-mark : (m : Bool) → m ≡ (marked || nat_lt 0 (dollars gap)) → stage_between m 36 ≡ Some (Between n) → b ≡ 36 → (b == 36) ≡ true
        → EndsGap marked n (gap ++ b ∷ [])
    by-mark true marks stage same is = cc
    by-mark false marks stage same is =
        let parts = or-none marked (nat_lt 0 (dollars gap)) (sym marks) in
        let none : dollars gap ≤ 0 = grind (arith, nat_tests, parts.1) in
        let one : dollars (b ∷ []) ≡ 1 = rw is refl in
        let room : limit marked ≡ 1 = ap limit parts.0 in
        let byte : is_gap_byte b ≡ true = ap (λ t. is_blank b || t) is ∙ or-true (is_blank b) in
        let marked_now : n ≡ true = cc in
        record {
          is = gap-more (limit marked) b gap so.is byte (omega (arith, both));
          marks = marked_now ∙ sym (ap (λ t. marked || t) (some-test (dollars (gap ++ b ∷ [])) (omega (arith, both))) ∙ or-true marked);
        }

    by-blank : (blank : Bool) → is_blank b ≡ blank → (b == 123) ≡ false → (b == 36) ≡ false → EndsGap marked n (gap ++ b ∷ [])
    by-blank true is brace dollar =
        let none : dollars (b ∷ []) ≡ 0 = rw dollar refl in
        let same : dollars (gap ++ b ∷ []) ≡ dollars gap = omega (arith, both) in
        let there : Some (Between m) ≡ Some (Between n) = sym (blank-stage b m is) ∙ stage in
        let kept : m ≡ n = cc in
        record {
          is = gap-more (limit marked) b gap so.is (ap (λ t. t || (b == 36)) is) (subst (λ k. k ≤ limit marked) (sym same) so.is.1);
          marks = sym kept ∙ so.marks ∙ ap (λ k. marked || nat_lt 0 k) (sym same);
        }
    by-blank false is brace dollar =
        let there : stage_between m b ≡ None = rw (brace, dollar, is) refl in
        absurd (let e : None ≡ Some (Between n) = sym there ∙ stage in cc)

    by-dollar : (b == 123) ≡ false → (((b == 36) ≡ true) × (b ≡ 36)) ⊎ (((b == 36) ≡ false) × (b ≢ 36)) → EndsGap marked n (gap ++ b ∷ [])
    by-dollar brace (inl same) = by-mark m so.marks (subst (λ x. stage_between m x ≡ Some (Between n)) same.1 stage) same.1 same.0
    by-dollar brace (inr other) = by-blank (is_blank b) refl brace other.0

    by-brace : (((b == 123) ≡ true) × (b ≡ 123)) ⊎ (((b == 123) ≡ false) × (b ≢ 123)) → EndsGap marked n (gap ++ b ∷ [])
    by-brace (inl same) =
        absurd (let e : stage_between m 123 ≡ Some (Between n) = subst (λ x. stage_between m x ≡ Some (Between n)) same.1 stage in cc)
    by-brace (inr other) = by-dollar other.0 (eqb_tells b 36)

is-false : (b : Bool) → (b ≡ true → ⊥) → b ≡ false
is-false true never = absurd (never refl)
is-false false never = refl

-- a byte that no gap goes on by
pub gap-stops : (m : Bool) (b : ℕ) (bytes : List ℕ) → ((n : Bool) → stage_between m b ≡ Some (Between n) → ⊥) → gap_goes_on m (b ∷ bytes) ≡ false
gap-stops m b bytes never = is-false (gap_goes_on m (b ∷ bytes)) (λ on. by-byte (or-parts (is_blank b) (b == 36 && not m) on))
  where
    by-byte : (is_blank b ≡ true) ⊎ ((b == 36 && not m) ≡ true) → ⊥
    by-byte (inl blank) = never m (blank-stage b m blank)
    by-byte (inr dollar) =
        let parts = and-parts (b == 36) (not m) dollar in
        let is : b ≡ 36 = eqb-true b 36 parts.0 in
        let unmarked : m ≡ false = not-false m parts.1 in
        never true (ap (λ x. stage_between m x) is ∙ ap (λ t. stage_between t 36) unmarked)

-- what has no cut

no-cut-shown : {bytes : List ℕ} {messages : List (List ℕ)} {fault : FrameFault} (others : List (List ℕ)) → Shows bytes messages fault
    → IsCutInto bytes others → ⊥
no-cut-shown {bytes} {messages} {fault} others shown cut = let e : Some fault ≡ None = sym (shown-comes shown) ∙ (cut-comes cut).sound in cc

no-cut-ends : {bytes : List ℕ} {at : ℕ} (others : List (List ℕ)) → EndsWithin bytes at → IsCutInto bytes others → ⊥
no-cut-ends {bytes} {at} others ends cut =
    let done = cut-comes cut in
    let e : None ≡ Some at = sym done.balanced ∙ ends-come ends done.sound in cc

-- a message that is too long
long-message : {d : ℕ} (message rest : List ℕ) → IsMessageTo d message → most_bytes < length message → CutsNoFile (message ++ rest)
long-message message rest is over = λ file gap messages others front cut.
    no-cut-shown others
    (subst (λ x. Shows x messages (TooLong (length file))) (append_assoc file message rest) (shows_long file message rest front is over)) cut

-- a message that doesn't end
open-message : {d : ℕ} (message : List ℕ) → IsMessageTo (suc d) message → CutsNoFile message
open-message message is = λ file gap messages others front cut. no-cut-ends others (ends_inside file message front is) cut

-- a front of `{1:` at the end, directly after a message
after-message : (n : ℕ) (message : List ℕ) → IsMessage message → n ≤ 1 → CutsNoFile (message ++ take (suc n) lead)
after-message n message is le = λ file gap messages others front cut.
    no-cut-ends others
    (subst (λ x. EndsWithin x (length file)) (append_assoc file message (take (suc n) lead)) (ends_after n file message front is le)) cut

-- a group

-- one that is open after as many bytes as a message may have, or at the end
pub open-group : (bytes inside : List ℕ) (reach len left : ℕ) → 0 < length bytes → get_or bytes 0 0 ≡ 123 → 0 < reach
    → inside ≡ drop 1 (take reach bytes) → left_open 1 (take len inside) ≡ Some left → 0 < left → (left ≡ 0) ⊎ (len ≡ length inside) → reach ≤ length bytes
    → (reach < length bytes → most_bytes < reach) → IsOpenGroup bytes
open-group [] inside reach len left some begun deep is opens more ends fits far = absurd (omega arith)
open-group (b ∷ bytes) inside zero len left some begun deep is opens more ends fits far = absurd (omega arith)
open-group (b ∷ bytes) inside (suc reach) len zero some begun deep is opens more ends fits far = absurd (omega arith)
open-group (b ∷ bytes) inside (suc reach) len (suc left) some begun deep is opens more ends fits far = record {
  depth = left;
  group = b ∷ inside;
  rest = drop reach bytes;
  whole = ap (λ x. b ∷ x) (sym (take-append-drop reach bytes) ∙ ap (λ x. x ++ drop reach bytes) (sym is));
  «open» = (begun, ap (λ x. left_open 1 x) (sym (take_all len inside (all-of ends))) ∙ opens);
  far = by-size (leb_tells (length bytes) reach);
}
  where
    all-of : (suc left ≡ 0) ⊎ (len ≡ length inside) → length inside ≤ len
    all-of (inl none) = absurd (omega arith)
    all-of (inr all) = omega arith

    by-size : ((nat_le (length bytes) reach ≡ true) × (length bytes ≤ reach)) ⊎ ((nat_le (length bytes) reach ≡ false) × (reach < length bytes))
        → (drop reach bytes ≡ []) ⊎ (most_bytes < length (b ∷ inside))
    by-size (inl all) = inl (drop_all reach bytes all.1)
    by-size (inr cut) =
        let size : length inside ≡ reach = ap length is ∙ length-take-le reach bytes (omega (arith, cut.1)) in
        inr (omega (arith, size, far (omega (arith, cut.1))))

-- a message whose last group is open

open-all : (bytes : List ℕ) (o : IsOpenGroup bytes) → o.rest ≡ [] → bytes ≡ o.group
open-all bytes o none = o.whole ∙ ap (λ x. o.group ++ x) none ∙ append-nil o.group

runs-over : {d : ℕ} (bytes message rest : List ℕ) → bytes ≡ message ++ rest → IsMessageTo d message → (rest ≡ []) ⊎ (most_bytes < length message)
    → most_bytes < length bytes → RunsOver bytes
runs-over {d} bytes message rest whole is far long =
    record { depth = d; message = message; rest = rest; whole = whole; is = is; over = by-far far }
  where
    by-far : (rest ≡ []) ⊎ (most_bytes < length message) → most_bytes < length message
    by-far (inl none) = let same : bytes ≡ message = whole ∙ ap (λ x. message ++ x) none ∙ append-nil message in omega (arith, ap length same)
    by-far (inr over) = over

ends-within : {d : ℕ} (bytes message rest : List ℕ) → bytes ≡ message ++ rest → IsMessageTo (suc d) message → (rest ≡ []) ⊎ (most_bytes < length message)
    → length bytes ≤ most_bytes → EndsOpen bytes
ends-within bytes message rest whole is (inl none) short =
    let same : bytes ≡ message = whole ∙ ap (λ x. message ++ x) none ∙ append-nil message in
    subst (λ x. EndsOpen x) (sym same) (ends_open_inside is (omega (arith, ap length same)))
ends-within bytes message rest whole is (inr over) short =
    let size : length bytes ≡ length message + length rest = ap length whole ∙ length-append message rest in
    absurd (omega arith)

-- the first group of a message

pub led-bytes : (bytes : List ℕ) → is_led bytes ≡ true → bytes ≡ lead ++ drop 3 bytes
led-bytes bytes led =
    let parts = and-parts (nat_lt 2 (length bytes)) (agrees lead bytes) led in
    agrees-leads bytes parts.1 (ltb-true 2 (length bytes) parts.0)

begins-so : (bytes group rest : List ℕ) → bytes ≡ group ++ rest → is_led bytes ≡ true → 2 < length group → take 3 group ≡ lead
begins-so bytes group rest whole led long = sym (take-append-le 3 group rest (omega arith)) ∙ ap (λ x. take 3 x) (sym whole ∙ led-bytes bytes led)

-- one group that is open still
one-open : left_open 1 [] ≡ Some 0 → ⊥
one-open e = let same : suc zero ≡ zero = cc in omega (arith, same)

closed-long : (bytes group rest : List ℕ) → bytes ≡ group ++ rest → is_led bytes ≡ true → IsGroupTo 0 group → 2 < length group
closed-long bytes [] rest whole led is = absurd is
closed-long bytes (a ∷ []) rest whole led is = absurd (one-open is.1)
closed-long bytes (a ∷ b ∷ []) rest whole led is =
    let begun : a ∷ b ∷ rest ≡ lead ++ drop 3 bytes = sym whole ∙ led-bytes bytes led in
    let second : b ≡ 49 = cc in
    absurd (one-open (subst (λ x. left_open 1 (x ∷ []) ≡ Some 0) second is.1))
closed-long bytes (a ∷ b ∷ c ∷ group) rest whole led is = omega arith

pub first-group : (bytes group rest : List ℕ) → bytes ≡ group ++ rest → is_led bytes ≡ true → IsGroupTo 0 group → IsMessageTo 0 group
first-group bytes group rest whole led is = message_head is (begins-so bytes group rest whole led (closed-long bytes group rest whole led is))

-- the first group, as far as it goes
first-so : (bytes : List ℕ) → is_led bytes ≡ true → (o : IsOpenGroup bytes) → IsMessageTo (suc o.depth) o.group
first-so bytes led o =
    let parts = and-parts (nat_lt 2 (length bytes)) (agrees lead bytes) led in
    message_head o.«open» (begins-so bytes o.group o.rest o.whole led (far-long o.far (ltb-true 2 (length bytes) parts.0)))
  where
    far-long : (o.rest ≡ []) ⊎ (most_bytes < length o.group) → 2 < length bytes → 2 < length o.group
    far-long (inl none) long = let same = open-all bytes o none in omega (arith, ap length same)
    far-long (inr over) long = omega arith

pub first-over : (bytes : List ℕ) → is_led bytes ≡ true → IsOpenGroup bytes → most_bytes < length bytes → RunsOver bytes
first-over bytes led o long = runs-over bytes o.group o.rest o.whole (first-so bytes led o) o.far long

pub first-ends : (bytes : List ℕ) → is_led bytes ≡ true → IsOpenGroup bytes → length bytes ≤ most_bytes → EndsOpen bytes
first-ends bytes led o short = ends-within bytes o.group o.rest o.whole (first-so bytes led o) o.far short

-- the next group of a message

-- a group that doesn't begin `{1:`, or the front of one that is cut off
other-group : (inside rest : List ℕ) → is_led (123 ∷ inside ++ rest) ≡ false
    → (agrees lead (123 ∷ inside) ≡ false) ⊎ ((n : ℕ) × (n ≤ 1) × (123 ∷ inside ≡ take (suc n) lead))
other-group [] rest other = inr (0, omega arith, refl)
other-group (b ∷ []) rest other = by-byte (eqb_tells 49 b)
  where
    by-byte : (((49 == b) ≡ true) × (49 ≡ b)) ⊎ (((49 == b) ≡ false) × (49 ≢ b))
        → (agrees lead (123 ∷ b ∷ []) ≡ false) ⊎ ((n : ℕ) × (n ≤ 1) × (123 ∷ b ∷ [] ≡ take (suc n) lead))
    by-byte (inl same) = inr (1, omega arith, ap (λ x. 123 ∷ x ∷ []) (sym same.1))
    by-byte (inr differ) = inl (ap (λ t. t && true) differ.0)
other-group (b ∷ c ∷ inside) rest other =
    inl (sym (ap (λ t. t && agrees lead (123 ∷ b ∷ c ∷ inside)) (lt-test 2 (length (123 ∷ b ∷ c ∷ inside ++ rest)) (omega arith))) ∙ other)

group-other : (bytes : List ℕ) → has_group bytes ≡ true → is_led bytes ≡ false
group-other [] has = cc
group-other (b ∷ bytes) has = not-false (is_led (b ∷ bytes)) (and-parts (b == 123) (not (is_led (b ∷ bytes))) has).1

-- the message goes on by this group, unless it is the front of a `{1:` that is cut off
next-so : {d : ℕ} (message bytes group rest : List ℕ) → IsMessageTo 0 message → has_group bytes ≡ true → bytes ≡ group ++ rest → IsGroupTo d group
    → IsMessageTo d (message ++ group) ⊎ ((n : ℕ) × (n ≤ 1) × (group ≡ take (suc n) lead))
next-so message bytes [] rest closed has whole is = absurd is
next-so {d} message bytes (b ∷ inside) rest closed has whole is =
    by-front
    (other-group inside rest (subst (λ x. is_led (x ∷ inside ++ rest) ≡ false) is.0 (subst (λ x. is_led x ≡ false) whole (group-other bytes has))))
  where
    by-front : (agrees lead (123 ∷ inside) ≡ false) ⊎ ((n : ℕ) × (n ≤ 1) × (123 ∷ inside ≡ take (suc n) lead))
        → IsMessageTo d (message ++ b ∷ inside) ⊎ ((n : ℕ) × (n ≤ 1) × (b ∷ inside ≡ take (suc n) lead))
    by-front (inl other) = inl (message_next message (b ∷ inside) closed is (subst (λ x. agrees lead (x ∷ inside) ≡ false) (sym is.0) other))
    by-front (inr part) = inr (part.0, part.1, ap (λ x. x ∷ inside) is.0 ∙ part.2)

front-open : (n : ℕ) → n ≤ 1 → IsGroupTo 0 (take (suc n) lead) → ⊥
front-open zero le is = one-open is.1
front-open (suc zero) le is = one-open is.1
front-open (suc (suc n)) le is = omega arith

pub next-group : (message bytes group rest : List ℕ) → IsMessageTo 0 message → has_group bytes ≡ true → bytes ≡ group ++ rest → IsGroupTo 0 group
    → IsMessageTo 0 (message ++ group)
next-group message bytes group rest closed has whole is = by-front (next-so message bytes group rest closed has whole is)
  where
    by-front : IsMessageTo 0 (message ++ group) ⊎ ((n : ℕ) × (n ≤ 1) × (group ≡ take (suc n) lead)) → IsMessageTo 0 (message ++ group)
    by-front (inl on) = on
    by-front (inr part) = absurd (front-open part.0 part.1 (subst (λ x. IsGroupTo 0 x) part.2 is))

front-short : (n : ℕ) → n ≤ 1 → length (take (suc n) lead) ≤ 2
front-short zero le = omega arith
front-short (suc zero) le = omega arith
front-short (suc (suc n)) le = absurd (omega arith)

far-short : (n : ℕ) (group rest : List ℕ) → n ≤ 1 → group ≡ take (suc n) lead → (rest ≡ []) ⊎ (most_bytes < length group) → rest ≡ []
far-short n group rest le part (inl none) = none
far-short n group rest le part (inr over) =
    absurd
    (let short : length (take (suc n) lead) ≤ 2 = front-short n le in
    let size : length group ≡ length (take (suc n) lead) = ap length part in omega arith)

-- the next group, as far as it goes, or a part of `{1:`
next-part : (message bytes : List ℕ) → IsMessage message → has_group bytes ≡ true → (o : IsOpenGroup bytes)
    → IsMessageTo (suc o.depth) (message ++ o.group) ⊎ IsPart bytes
next-part message bytes is has o = by-front (next-so message bytes o.group o.rest is.0 has o.whole o.«open»)
  where
    by-front : IsMessageTo (suc o.depth) (message ++ o.group) ⊎ ((n : ℕ) × (n ≤ 1) × (o.group ≡ take (suc n) lead))
        → IsMessageTo (suc o.depth) (message ++ o.group) ⊎ IsPart bytes
    by-front (inl on) = inl on
    by-front (inr part) =
        inr (part.0, part.1, open-all bytes o (far-short part.0 o.group o.rest part.1 part.2 o.far) ∙ part.2)

-- the message with its next group, before the bytes behind
next-whole : (message bytes : List ℕ) (o : IsOpenGroup bytes) → message ++ bytes ≡ (message ++ o.group) ++ o.rest
next-whole message bytes o = ap (λ x. message ++ x) o.whole ∙ sym (append_assoc message o.group o.rest)

next-far : (message bytes : List ℕ) (o : IsOpenGroup bytes) → (o.rest ≡ []) ⊎ (most_bytes < length (message ++ o.group))
next-far message bytes o = by-far o.far
  where
    by-far : (o.rest ≡ []) ⊎ (most_bytes < length o.group) → (o.rest ≡ []) ⊎ (most_bytes < length (message ++ o.group))
    by-far (inl none) = inl none
    by-far (inr over) = let size : length (message ++ o.group) ≡ length message + length o.group = length-append message o.group in inr (omega arith)

pub next-over : (message bytes : List ℕ) → IsMessage message → has_group bytes ≡ true → IsOpenGroup bytes → (IsPart bytes → ⊥)
    → most_bytes < length (message ++ bytes) → RunsOver (message ++ bytes)
next-over message bytes is has o other long = by-part (next-part message bytes is has o)
  where
    by-part : IsMessageTo (suc o.depth) (message ++ o.group) ⊎ IsPart bytes → RunsOver (message ++ bytes)
    by-part (inl on) = runs-over (message ++ bytes) (message ++ o.group) o.rest (next-whole message bytes o) on (next-far message bytes o) long
    by-part (inr part) = absurd (other part)

pub next-ends : (message bytes : List ℕ) → IsMessage message → has_group bytes ≡ true → IsOpenGroup bytes
    → (length (message ++ bytes) ≤ most_bytes) ⊎ IsPart bytes → EndsOpen (message ++ bytes)
next-ends message bytes is has o (inr part) =
    subst (λ x. EndsOpen (message ++ x)) (sym part.2) (ends_open_after part.0 message is part.1)
next-ends message bytes is has o (inl short) = by-part (next-part message bytes is has o)
  where
    by-part : IsMessageTo (suc o.depth) (message ++ o.group) ⊎ IsPart bytes → EndsOpen (message ++ bytes)
    by-part (inl on) = ends-within (message ++ bytes) (message ++ o.group) o.rest (next-whole message bytes o) on (next-far message bytes o) short
    by-part (inr part) = subst (λ x. EndsOpen (message ++ x)) (sym part.2) (ends_open_after part.0 message is part.1)

-- what isn't whole has no cut

ends-no-file : {bytes : List ℕ} → EndsOpen bytes → CutsNoFile bytes
ends-no-file {bytes} (ends_open_inside is short) = open-message bytes is
ends-no-file (ends_open_after n message is le) = after-message n message is le

over-no-file : (bytes : List ℕ) → RunsOver bytes → CutsNoFile bytes
over-no-file bytes o = subst (λ x. CutsNoFile x) (sym o.whole) (long-message o.message o.rest o.is o.over)

pub unwhole-no-file : (bytes : List ℕ) (front : Front) → IsFront bytes front → (front ≡ Open) ⊎ (front ≡ Long) → CutsNoFile bytes
unwhole-no-file bytes Open is other = ends-no-file is
unwhole-no-file bytes Long is other = over-no-file bytes is
unwhole-no-file bytes (Whole len) is (inl same) = absurd (cc)
unwhole-no-file bytes (Whole len) is (inr same) = absurd (cc)

-- a message of too many bytes
pub whole-over : (bytes : List ℕ) (len : ℕ) → IsMessageTo 0 (take len bytes) → most_bytes < length (take len bytes) → RunsOver bytes
whole-over bytes len is over =
    record { depth = 0; message = take len bytes; rest = drop len bytes; whole = sym (take-append-drop len bytes); is = is; over = over }

-- after a gap

-- where no message begins: a byte that can't follow, or a part of `{1:`
pub strays-or-part : (gap rest : List ℕ) (messages : List (List ℕ)) → 0 < length rest → is_led rest ≡ false → gap_goes_on (is_marked messages gap) rest ≡ false
    → (has_group rest ≡ true → stands_apart messages gap ≡ true)
    → (cannot_follow messages gap rest ≡ true) ⊎ (IsPart rest × (stands_apart messages gap ≡ true))
strays-or-part gap [] messages some other stops apart = absurd (omega arith)
strays-or-part gap (b ∷ rest) messages some other stops apart = by-brace (eqb_tells b 123)
  where
    off : (is_blank b ≡ false) × ((b == 36 && not (is_marked messages gap)) ≡ false)
    off = or-none (is_blank b) (b == 36 && not (is_marked messages gap)) stops

    by-group : (b == 123) ≡ true → b ≡ 123 → stands_apart messages gap ≡ true
        → (agrees lead (123 ∷ rest) ≡ false) ⊎ ((n : ℕ) × (n ≤ 1) × (123 ∷ rest ≡ take (suc n) lead))
        → (cannot_follow messages gap (b ∷ rest) ≡ true) ⊎ (IsPart (b ∷ rest) × (stands_apart messages gap ≡ true))
    by-group brace same far (inl differ) =
        let wrong : cannot_follow messages gap (123 ∷ rest) ≡ true =
        both-true (stands_apart messages gap) (not (agrees lead (123 ∷ rest))) far (not-true (agrees lead (123 ∷ rest)) differ) in
        inl (subst (λ x. cannot_follow messages gap (x ∷ rest) ≡ true) (sym same) wrong)
    by-group brace same far (inr part) = inr ((part.0, part.1, ap (λ x. x ∷ rest) same ∙ part.2), far)

    by-mark : (marked : Bool) → is_marked messages gap ≡ marked → (b == 123) ≡ false → (b == 36) ≡ true → cannot_follow messages gap (b ∷ rest) ≡ true
    by-mark true marks brace dollar = rw (brace, dollar) marks
    by-mark false marks brace dollar = absurd (let t : (true && true) ≡ false = rw (dollar, marks) at off.1 in cc)

    by-dollar : (b == 123) ≡ false → (((b == 36) ≡ true) × (b ≡ 36)) ⊎ (((b == 36) ≡ false) × (b ≢ 36)) → cannot_follow messages gap (b ∷ rest) ≡ true
    by-dollar brace (inl same) = by-mark (is_marked messages gap) refl brace same.0
    by-dollar brace (inr differ) = rw (brace, differ.0, off.0) refl

    by-brace : (((b == 123) ≡ true) × (b ≡ 123)) ⊎ (((b == 123) ≡ false) × (b ≢ 123))
        → (cannot_follow messages gap (b ∷ rest) ≡ true) ⊎ (IsPart (b ∷ rest) × (stands_apart messages gap ≡ true))
    by-brace (inl same) =
        let has : has_group (b ∷ rest) ≡ true = both-true (b == 123) (not (is_led (b ∷ rest))) same.0 (not-true (is_led (b ∷ rest)) other) in
        let nil : (123 ∷ rest) ++ [] ≡ 123 ∷ rest = append-nil (123 ∷ rest) in
        let led : is_led (123 ∷ rest ++ []) ≡ false = subst (λ x. is_led x ≡ false) (sym nil) (subst (λ x. is_led (x ∷ rest) ≡ false) same.1 other) in
        by-group same.0 same.1 (apart has) (other-group rest [] led)
    by-brace (inr differ) = inl (by-dollar differ.0 (eqb_tells b 36))

-- where no message can begin
no-message : (front gap rest : List ℕ) (messages others : List (List ℕ)) → IsFileOf front messages gap → 0 < length rest → is_led rest ≡ false
    → gap_goes_on (is_marked messages gap) rest ≡ false → (has_group rest ≡ true → stands_apart messages gap ≡ true) → IsCutInto (front ++ rest) others → ⊥
no-message front gap rest messages others is some other stops apart cut = by-rest (strays-or-part gap rest messages some other stops apart)
  where
    by-rest : (cannot_follow messages gap rest ≡ true) ⊎ (IsPart rest × (stands_apart messages gap ≡ true)) → ⊥
    by-rest (inl wrong) = no-cut-shown others (shows_stray front rest is wrong) cut
    by-rest (inr part) =
        no-cut-ends others
        (subst (λ x. EndsWithin (front ++ x) (length front)) (sym part.0.2) (ends_apart part.0.0 front is part.1 part.0.1)) cut

-- A file as far as messages and a gap: the gap doesn't go on, and a group directly after the last message begins `{1:`.
pub record HasCome (file rest : List ℕ) (messages : List (List ℕ)) : Type 0 where
  pub front : List ℕ
  pub gap : List ℕ
  pub whole : file ≡ front ++ rest
  pub is : IsFileOf front messages gap
  pub stops : gap_goes_on (is_marked messages gap) rest ≡ false
  pub apart : has_group rest ≡ true → stands_apart messages gap ≡ true

pub come-first : (file gap rest : List ℕ) → file ≡ gap ++ rest → IsGap 0 gap → gap_goes_on true rest ≡ false → HasCome file rest []
come-first file gap rest whole is stops = record { front = gap; gap = gap; whole = whole; is = file_start is; stops = stops; apart = λ has. refl }

-- one message more, and the gap after it
pub come-on : (file message after gap rest : List ℕ) (messages : List (List ℕ)) → HasCome file (message ++ after) messages → IsMessage message
    → has_group after ≡ false → after ≡ gap ++ rest → IsGap 1 gap → gap_goes_on (nat_lt 0 (dollars gap)) rest ≡ false
    → HasCome file rest (messages ++ message ∷ [])
come-on file message after gap rest messages come is other parts gapped stops = record {
  front = come.front ++ message ++ gap;
  gap = gap;
  whole =
      come.whole ∙ ap (λ x. come.front ++ (message ++ x)) parts
      ∙ sym (append_assoc come.front message (gap ++ rest)) ∙ sym (append_assoc (come.front ++ message) gap rest);
  is = file_more come.front message gap messages come.is is gapped;
  stops = ap (λ t. gap_goes_on (t || nat_lt 0 (dollars gap)) rest) (no-more-joined messages message) ∙ stops;
  apart = by-gap gap parts;
}
  where
    by-gap : (gap : List ℕ) → after ≡ gap ++ rest → has_group rest ≡ true → stands_apart (messages ++ message ∷ []) gap ≡ true
    by-gap [] parts has = absurd (let e : false ≡ true = sym other ∙ ap has_group parts ∙ has in cc)
    by-gap (b ∷ gap) parts has = or-true (no_more (messages ++ message ∷ []))

-- nothing but a message can come there
pub come-lost : (file rest : List ℕ) (messages others : List (List ℕ)) → HasCome file rest messages → 0 < length rest → is_led rest ≡ false
    → IsCutInto file others → ⊥
come-lost file rest messages others come some other cut =
    no-message come.front come.gap rest messages others come.is some other come.stops come.apart (subst (λ x. IsCutInto x others) come.whole cut)

-- nor one that isn't whole
pub come-unwhole : (file rest : List ℕ) (messages others : List (List ℕ)) → HasCome file rest messages → CutsNoFile rest → IsCutInto file others → ⊥
come-unwhole file rest messages others come none cut = none come.front come.gap messages others come.is (subst (λ x. IsCutInto x others) come.whole cut)

pub message-some : {d : ℕ} {message : List ℕ} → IsMessageTo d message → 0 < length message
message-some {d} {message} is = let size : length message ≡ length (lead ++ drop 3 message) = ap length (message-leads is) in omega arith

pub come-all : (file : List ℕ) (messages : List (List ℕ)) → HasCome file [] messages → IsCutInto file messages
come-all file messages come = (come.gap, subst (λ x. IsFileOf x messages come.gap) (sym (come.whole ∙ append-nil come.front)) come.is)

-- where one more message begins, each cut has that one too

rests-begun : {n : ℕ} {messages : List (List ℕ)} {gap : List ℕ} {s : State} → Rests n messages gap s → s.begun ≡ length messages
rests-begun (rests_apart n messages gap far) = refl
rests-begun (rests_after n from messages message) = sym (length-append messages (message ∷ []))

pub come-more : (file rest : List ℕ) (messages others : List (List ℕ)) → HasCome file rest messages → is_led rest ≡ true → IsCutInto file others
    → length messages < length others
come-more file rest messages others come led cut =
    let whole : come.front ++ lead ++ drop 3 rest ≡ file =
    append_assoc come.front lead (drop 3 rest) ∙ ap (λ x. come.front ++ x) (sym (led-bytes rest led)) ∙ sym come.whole in
    let begun : HasBegun file (length messages + 1) =
    subst (λ x. HasBegun x (length messages + 1)) whole (has_begun come.front (drop 3 rest) messages come.is) in
    let least : length messages + 1 ≤ (run (at_start []) file).begun = begun-comes begun in
    let all : (run (at_start []) file).begun ≡ length others = rests-begun (file-run cut.1) in
    omega arith
