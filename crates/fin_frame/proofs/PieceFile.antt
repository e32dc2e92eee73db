-- A piece of a file behind what was taken before: its messages, and what is left of it.
use Rattle.std.proofs.Common.{◌≡◌, ◌≢◌, ◌<◌, ◌≤◌, ◌⊎◌, ℕ, zero, suc, ◌+◌, ◌==◌, ◌||◌, ◌&&◌, not, nat_lt, Bool, true, false, List, [], ◌∷◌, ◌++◌, length, take, drop, refl, ap, sym, ◌∙◌, arith, subst, inl, inr, append_assoc, length-append, length-drop}
use Rattle.std.specs.List.{list_all, All}
use Rattle.std.proofs.lemmas.List.{append-nil, map-append, take-append-drop}
use Rattle.std.proofs.lemmas.List.Elements.{All-push}
use Rattle.std.proofs.lemmas.List.Folds.{list_all-append}
use Rattle.std.proofs.Math.Seq.{take-add}
use Rattle.std.proofs.lemmas.Bool.Decides.{eqb_tells}
use Rattle.fin_frame.specs.File.{lead, agrees, is_blank, is_gap_byte, dollars, most_bytes, IsGap, IsMessage, IsMessageTo, IsFileOf}
use Rattle.fin_frame.specs.File.IsFileOf.{start as file_start, more as file_more}
use Rattle.fin_frame.specs.Shown.{is_marked, is_over, no_more, stands_apart, cannot_follow, Shows, ShowsNoFault, AreWhole, EndsWithin}
use Rattle.fin_frame.specs.Shown.Shows.{stray as shows_stray, long as shows_long}
use Rattle.fin_frame.specs.Shown.EndsWithin.{inside as ends_inside, after as ends_after, apart as ends_apart}
use Rattle.fin_frame.specs.Cutting.LeavesOff.{between as leaves_between, opening as leaves_opening, inside as leaves_inside, after as leaves_after}
use Rattle.fin_frame.specs.Whole.{is_led}
use Rattle.fin_frame.specs.inner.Whole.{has_group, gap_goes_on, IsPart, EndsOpen, RunsOver}
use Rattle.fin_frame.specs.inner.Whole.EndsOpen.{inside as ends_open_inside, after as ends_open_after}
use Rattle.fin_frame.specs.Pieces.{at_place, at_places, HasTakenFile, HasAll, AreAll, IsFaulty, IsPlaceIn}
use Rattle.fin_frame.specs.inner.Next.{AreFaulty, IsUnfinished}
use Rattle.fin_frame.specs.declared.fault.FrameFault.TheVariants.{Stray, TooLong}
use Rattle.fin_frame.specs.declared.pieces.PieceCutter.{PieceCutter}
use Rattle.fin_frame.specs.declared.place.Place.{Place}
use Rattle.fin_frame.proofs.laws.Led.{limit, or-none, or-parts, some-test, no-more-joined, message-leads}
use Rattle.fin_frame.proofs.laws.Tracking.{both-true, not-true, dollars-append}
use Rattle.fin_frame.proofs.Leaving.{leaves-show}
use Rattle.fin_frame.proofs.WholeFile.{strays-or-part}

-- ---- bytes that can't follow

-- where no message begins
pub apart-faulty : (last : Bool) (bytes : List ℕ) → 0 < length bytes → is_led bytes ≡ false → (IsPart bytes → last ≡ true) → AreFaulty last bytes
apart-faulty last bytes some other ends = λ file gap messages is stops apart.
    by-rest file gap messages is (strays-or-part gap bytes messages some other stops (λ has. apart other))
  where
    by-rest : (file gap : List ℕ) (messages : List (List ℕ)) → IsFileOf file messages gap
        → (cannot_follow messages gap bytes ≡ true) ⊎ (IsPart bytes × (stands_apart messages gap ≡ true)) → IsFaulty last (file ++ bytes)
    by-rest file gap messages is (inl wrong) = inl (messages, Stray (length file), shows_stray file bytes is wrong)
    by-rest file gap messages is (inr part) =
        inr
        (ends part.0, length file, subst (λ x. EndsWithin (file ++ x) (length file)) (sym part.0.2) (ends_apart part.0.0 file is part.1 part.0.1))

-- the message is the last of its file yet
message-last : (file gap message : List ℕ) (messages : List (List ℕ)) → IsFileOf file messages gap → IsMessage message
    → IsFileOf (file ++ message) (messages ++ message ∷ []) []
message-last file gap message messages front is =
    subst (λ x. IsFileOf x (messages ++ message ∷ []) []) (append-nil (file ++ message)) (file_more file message [] messages front is (refl, omega arith))

-- a byte that can't follow a message directly
pub stray-after : (messages : List (List ℕ)) (message after : List ℕ) → 0 < length after → has_group after ≡ false → is_over after ≡ false
    → cannot_follow (messages ++ message ∷ []) [] after ≡ true
stray-after messages message [] some other over = absurd (omega arith)
stray-after messages message (b ∷ after) some other over = by-brace (eqb_tells b 123)
  where
    off : (is_gap_byte b ≡ false) × (is_led (b ∷ after) ≡ false)
    off = or-none (is_gap_byte b) (is_led (b ∷ after)) over

    plain : (is_blank b ≡ false) × ((b == 36) ≡ false)
    plain = or-none (is_blank b) (b == 36) off.0

    by-brace : (((b == 123) ≡ true) × (b ≡ 123)) ⊎ (((b == 123) ≡ false) × (b ≢ 123)) → cannot_follow (messages ++ message ∷ []) [] (b ∷ after) ≡ true
    by-brace (inl same) =
        absurd
        (let has : has_group (b ∷ after) ≡ true = both-true (b == 123) (not (is_led (b ∷ after))) same.0 (not-true (is_led (b ∷ after)) off.1) in
        let e : false ≡ true = sym other ∙ has in cc)
    by-brace (inr differ) = rw (differ.0, plain.1, plain.0) refl

pub after-faulty : (last : Bool) (bytes : List ℕ) (len : ℕ) → IsMessage (take len bytes) → 0 < length (drop len bytes)
    → has_group (drop len bytes) ≡ false → is_over (drop len bytes) ≡ false → AreFaulty last bytes
after-faulty last bytes len is some other over = λ file gap messages front stops apart.
    let message = take len bytes in
    let whole : (file ++ message) ++ drop len bytes ≡ file ++ bytes =
    append_assoc file message (drop len bytes) ∙ ap (λ x. file ++ x) (take-append-drop len bytes) in
    inl (
      messages ++ message ∷ [],
      Stray (length (file ++ message)),
      subst (λ x. Shows x (messages ++ message ∷ []) (Stray (length (file ++ message)))) whole
          (shows_stray (file ++ message) (drop len bytes) (message-last file gap message messages front is)
          (stray-after messages message (drop len bytes) some other over)),
    )

-- the last bytes, within a message
pub ends-faulty : {bytes : List ℕ} → EndsOpen bytes → AreFaulty true bytes
ends-faulty {bytes} (ends_open_inside is short) = λ file gap messages front stops apart. inr (refl, length file, ends_inside file bytes front is)
ends-faulty (ends_open_after n message is le) = λ file gap messages front stops apart.
    inr (
      refl,
      length file,
      subst (λ x. EndsWithin x (length file)) (append_assoc file message (take (suc n) lead)) (ends_after n file message front is le),
    )

-- a message that is too long
pub over-faulty : (last : Bool) (bytes : List ℕ) → RunsOver bytes → AreFaulty last bytes
over-faulty last bytes o = λ file gap messages front stops apart.
    let whole : (file ++ o.message) ++ o.rest ≡ file ++ bytes = append_assoc file o.message o.rest ∙ ap (λ x. file ++ x) (sym o.whole) in
    inl (
      messages,
      TooLong (length file),
      subst (λ x. Shows x messages (TooLong (length file))) whole (shows_long file o.message o.rest front o.is o.over),
    )

-- ---- what was taken

-- a gap goes on by bytes of a gap
gap-joined : (most : ℕ) (gap more : List ℕ) → IsGap most gap → list_all is_gap_byte more ≡ true → dollars gap + dollars more ≤ most → IsGap most (gap ++ more)
gap-joined most gap more is all few = (
  list_all-append is_gap_byte gap more ∙ both-true (list_all is_gap_byte gap) (list_all is_gap_byte more) is.0 all,
  subst (λ k. k ≤ most) (sym (dollars-append gap more)) few,
)

limit-fits : (k n : ℕ) → k ≤ 1 → n ≤ limit (nat_lt 0 k) → k + n ≤ 1
limit-fits zero n le few = let one : n ≤ 1 = few in omega arith
limit-fits (suc k) n le few = let none : n ≤ 0 = subst (λ t. n ≤ limit t) (some-test (suc k) (omega arith)) few in omega arith

pub file-on : {file gap : List ℕ} {messages : List (List ℕ)} (more : List ℕ) → IsFileOf file messages gap → IsGap (limit (is_marked messages gap)) more
    → IsFileOf (file ++ more) messages (gap ++ more)
file-on {file} more (file_start is) so = file_start (gap-joined 0 file more is so.0 (omega (arith, is.1, so.1)))
file-on more (file_more file message gap messages front is gapped) so =
    let joined : is_marked (messages ++ message ∷ []) gap ≡ nat_lt 0 (dollars gap) = ap (λ t. t || nat_lt 0 (dollars gap)) (no-more-joined messages message) in
    let room : dollars more ≤ limit (nat_lt 0 (dollars gap)) = subst (λ t. dollars more ≤ limit t) joined so.1 in
    subst (λ x. IsFileOf x (messages ++ message ∷ []) (gap ++ more)) (sym (append_assoc (file ++ message) gap more))
    (file_more file message (gap ++ more) messages front is
    (gap-joined 1 gap more gapped so.0 (limit-fits (dollars gap) (dollars more) gapped.1 room)))

or-assoc : (a b c : Bool) → (a || (b || c)) ≡ ((a || b) || c)
or-assoc true b c = refl
or-assoc false b c = refl

some-sum : (m n : ℕ) → nat_lt 0 (m + n) ≡ (nat_lt 0 m || nat_lt 0 n)
some-sum zero n = ap (λ k. nat_lt 0 k) (omega arith)
some-sum (suc m) n = some-test (suc m + n) (omega arith) ∙ sym (ap (λ t. t || nat_lt 0 n) (some-test (suc m) (omega arith)))

pub marked-on : (messages : List (List ℕ)) (gap more : List ℕ) → is_marked messages (gap ++ more) ≡ (is_marked messages gap || nat_lt 0 (dollars more))
marked-on messages gap more =
    ap (λ k. no_more messages || nat_lt 0 k) (dollars-append gap more) ∙ ap (λ t. no_more messages || t) (some-sum (dollars gap) (dollars more))
    ∙ or-assoc (no_more messages) (nat_lt 0 (dollars gap)) (nat_lt 0 (dollars more))

some-joined : (gap more : List ℕ) → not (no_more (gap ++ more)) ≡ (not (no_more gap) || nat_lt 0 (length more))
some-joined [] [] = refl
some-joined [] (b ∷ more) = sym (some-test (length (b ∷ more)) (omega arith))
some-joined (b ∷ gap) more = refl

pub apart-on : (messages : List (List ℕ)) (gap more : List ℕ) → stands_apart messages (gap ++ more) ≡ (stands_apart messages gap || nat_lt 0 (length more))
apart-on messages gap more =
    ap (λ t. no_more messages || t) (some-joined gap more) ∙ or-assoc (no_more messages) (not (no_more gap)) (nat_lt 0 (length more))

-- a gap more was taken
pub taken-gap : (c d : PieceCutter) (file more : List ℕ) (messages : List (List ℕ)) → HasTakenFile c file messages → IsGap (limit c.marked) more
    → d.fed ≡ c.fed + length more → d.begun ≡ c.begun → d.marked ≡ (c.marked || nat_lt 0 (dollars more))
    → d.apart ≡ (c.apart || nat_lt 0 (length more)) → HasTakenFile d (file ++ more) messages
taken-gap c d file more messages t so fed begun marked apart = record {
  gap = t.gap ++ more;
  is = file-on more t.is (subst (λ m. IsGap (limit m) more) t.marked so);
  fed = omega (arith, fed, t.fed, length-append file more);
  begun = begun ∙ t.begun;
  marked = marked ∙ ap (λ m. m || nat_lt 0 (dollars more)) t.marked ∙ sym (marked-on messages t.gap more);
  apart = apart ∙ ap (λ m. m || nat_lt 0 (length more)) t.apart ∙ sym (apart-on messages t.gap more);
}

-- a message more was taken
pub taken-message : (c d : PieceCutter) (file message : List ℕ) (messages : List (List ℕ)) → HasTakenFile c file messages → IsMessage message
    → d.fed ≡ c.fed + length message → d.begun ≡ c.begun + 1 → d.marked ≡ false → d.apart ≡ false
    → HasTakenFile d (file ++ message) (messages ++ message ∷ [])
taken-message c d file message messages t is fed begun marked apart = record {
  gap = [];
  is = message-last file t.gap message messages t.is is;
  fed = omega (arith, fed, t.fed, length-append file message);
  begun = omega (arith, begun, t.begun, length-append messages (message ∷ []));
  marked = marked ∙ sym (ap (λ m. m || false) (no-more-joined messages message));
  apart = apart ∙ sym (ap (λ m. m || false) (no-more-joined messages message));
}

-- ---- what is left

part-agrees : (n : ℕ) → n ≤ 1 → agrees lead (take (suc n) lead) ≡ true
part-agrees zero le = refl
part-agrees (suc zero) le = refl
part-agrees (suc (suc n)) le = absurd (omega arith)

part-short : (n : ℕ) → n ≤ 1 → length (take (suc n) lead) ≤ 2
part-short zero le = omega arith
part-short (suc zero) le = omega arith
part-short (suc (suc n)) le = absurd (omega arith)

leads-agree : {d : ℕ} (message rest : List ℕ) → IsMessageTo d message → agrees lead (message ++ rest) ≡ true
leads-agree message rest is = ap (λ x. agrees lead (x ++ rest)) (message-leads is)

ends-agree : {bytes : List ℕ} → EndsOpen bytes → agrees lead bytes ≡ true
ends-agree {bytes} (ends_open_inside is short) = ap (λ x. agrees lead x) (sym (append-nil bytes)) ∙ leads-agree bytes [] is
ends-agree (ends_open_after n message is le) = leads-agree message (take (suc n) lead) is.0

ends-short : {bytes : List ℕ} → EndsOpen bytes → length bytes < most_bytes + 3
ends-short (ends_open_inside is short) = omega arith
ends-short (ends_open_after n message is le) =
    let size : length (message ++ take (suc n) lead) ≡ length message + length (take (suc n) lead) = length-append message (take (suc n) lead) in
    let part = part-short n le in omega (arith, is.1)

pub unfinished-agrees : {bytes : List ℕ} → IsUnfinished bytes → agrees lead bytes ≡ true
unfinished-agrees (inl part) = ap (λ x. agrees lead x) part.2 ∙ part-agrees part.0 part.1
unfinished-agrees (inr (inl ends)) = ends-agree ends
unfinished-agrees {bytes} (inr (inr is)) = ap (λ x. agrees lead x) (sym (append-nil bytes)) ∙ leads-agree bytes [] is.0

pub unfinished-short : {bytes : List ℕ} → IsUnfinished bytes → length bytes < most_bytes + 3
unfinished-short (inl part) = let size = ap length part.2 in let short = part-short part.0 part.1 in omega arith
unfinished-short (inr (inl ends)) = ends-short ends
unfinished-short (inr (inr is)) = omega (arith, is.1)

-- what bytes show that leave off there
leaves-at : {file gap bytes : List ℕ} {messages : List (List ℕ)} → IsFileOf file messages gap → IsUnfinished bytes
    → (IsPart bytes → stands_apart messages gap ≡ true) → ShowsNoFault (file ++ bytes) × AreWhole (file ++ bytes) messages
leaves-at {file} {gap} {bytes} {messages} is (inl part) apart =
    subst (λ x. ShowsNoFault (file ++ x) × AreWhole (file ++ x) messages) (sym part.2)
    (leaves-show (leaves_opening file gap messages part.0 is (apart part) part.1))
leaves-at {file} {gap} {bytes} {messages} is (inr (inl ends)) apart = by-end ends
  where
    by-end : {bytes : List ℕ} → EndsOpen bytes → ShowsNoFault (file ++ bytes) × AreWhole (file ++ bytes) messages
    by-end {bytes} (ends_open_inside {d} inside short) = leaves-show (leaves_inside file gap bytes messages d is inside short)
    by-end (ends_open_after n message whole le) =
        subst (λ x. ShowsNoFault x × AreWhole x messages) (append_assoc file message (take (suc n) lead))
        (leaves-show (leaves_after file gap message messages (suc n) is whole (omega arith)))
leaves-at {file} {gap} {bytes} {messages} is (inr (inr whole)) apart =
    subst (λ x. ShowsNoFault x × AreWhole x messages) (append-nil (file ++ bytes))
    (leaves-show (leaves_after file gap bytes messages 0 is whole (omega arith)))

part-unled : (n : ℕ) → n ≤ 1 → is_led (take (suc n) lead) ≡ false
part-unled zero le = refl
part-unled (suc zero) le = refl
part-unled (suc (suc n)) le = absurd (omega arith)

-- a message directly before what is left shows that a `{1:` begins it, or the file ends there
abbrev pub IsLedOn : Bool → Bool → List ℕ → Type 0
IsLedOn last apart rest = apart ≡ false → (is_led rest ≡ true) ⊎ ((last ≡ true) × (rest ≡ []))

is-apart : (last apart : Bool) (rest : List ℕ) → IsLedOn last apart rest → is_led rest ≡ false → ((last ≡ true) × (rest ≡ []) → ⊥) → apart ≡ true
is-apart last true rest led other more = refl
is-apart last false rest led other more = by-led (led refl)
  where
    by-led : (is_led rest ≡ true) ⊎ ((last ≡ true) × (rest ≡ [])) → false ≡ true
    by-led (inl is) = sym other ∙ is
    by-led (inr none) = absurd (more none)

not-last : (rest : List ℕ) → (false ≡ true) × (rest ≡ []) → ⊥
not-last rest none = let e : false ≡ true = none.0 in cc

-- so it is where the file goes on
pub led-so : (last apart : Bool) (rest : List ℕ) → IsLedOn last apart rest → last ≡ false → apart ≡ false → is_led rest ≡ true
led-so last apart rest led more close = by-led (led close)
  where
    by-led : (is_led rest ≡ true) ⊎ ((last ≡ true) × (rest ≡ [])) → is_led rest ≡ true
    by-led (inl is) = is
    by-led (inr none) = absurd (not-last rest (sym more ∙ none.0, none.1))

-- the messages are all, where the rest may go on
pub unfinished-all : (c : PieceCutter) (file piece : List ℕ) (at : ℕ) (messages : List (List ℕ)) (places : List Place)
    → HasTakenFile c (file ++ take at piece) (messages ++ at_places piece places) → IsLedOn false c.apart (drop at piece) → IsUnfinished (drop at piece)
    → HasAll false file messages piece places at
unfinished-all c file piece at messages places t led rest = record {
  all =
      subst (λ x. ShowsNoFault x × AreWhole x (messages ++ at_places piece places)) whole
      (leaves-at t.is rest (λ part. sym t.apart ∙ is-apart false c.apart (drop at piece) led (ap is_led part.2 ∙ part-unled part.0 part.1) (not-last (drop at piece))));
  left = unfinished-agrees rest;
  short = unfinished-short rest;
}
  where
    whole : (file ++ take at piece) ++ drop at piece ≡ file ++ piece
    whole = append_assoc file (take at piece) (drop at piece) ∙ ap (λ x. file ++ x) (take-append-drop at piece)

-- or where there is none
pub none-all : (last : Bool) (c : PieceCutter) (file piece : List ℕ) (at : ℕ) (messages : List (List ℕ)) (places : List Place)
    → HasTakenFile c (file ++ take at piece) (messages ++ at_places piece places) → IsLedOn last c.apart (drop at piece) → drop at piece ≡ []
    → HasAll last file messages piece places at
none-all last c file piece at messages places t led none = record {
  all = by-last last led;
  left = ap (λ x. agrees lead x) none;
  short = let size = ap length none in omega arith;
}
  where
    whole : file ++ take at piece ≡ file ++ piece
    whole = ap (λ x. file ++ x) (sym (append-nil (take at piece)) ∙ ap (λ x. take at piece ++ x) (sym none) ∙ take-append-drop at piece)

    by-last : (last : Bool) → IsLedOn last c.apart (drop at piece) → AreAll last (file ++ piece) (messages ++ at_places piece places)
    by-last true led = (t.gap, subst (λ x. IsFileOf x (messages ++ at_places piece places) t.gap) whole t.is)
    by-last false led =
        let apart : stands_apart (messages ++ at_places piece places) t.gap ≡ true =
        sym t.apart ∙ is-apart false c.apart (drop at piece) led (ap is_led none) (not-last (drop at piece)) in
        subst (λ x. ShowsNoFault x × AreWhole x (messages ++ at_places piece places)) whole
        (leaves-show (leaves_between (file ++ take at piece) t.gap (messages ++ at_places piece places) t.is apart))

-- or the bytes that can't follow there
pub faulty-there : (last : Bool) (c : PieceCutter) (file piece : List ℕ) (at : ℕ) (messages : List (List ℕ)) (places : List Place)
    → HasTakenFile c (file ++ take at piece) (messages ++ at_places piece places) → gap_goes_on c.marked (drop at piece) ≡ false
    → IsLedOn last c.apart (drop at piece) → at < length piece → AreFaulty last (drop at piece) → IsFaulty last (file ++ piece)
faulty-there last c file piece at messages places t ends led more faulty =
    subst (λ x. IsFaulty last x) whole
    (faulty (file ++ take at piece) t.gap (messages ++ at_places piece places) t.is (subst (λ m. gap_goes_on m (drop at piece) ≡ false) t.marked ends)
    (λ other. sym t.apart ∙ is-apart last c.apart (drop at piece) led other
    (λ none. let size = ap length none.1 in omega (arith, length-drop at piece))))
  where
    whole : (file ++ take at piece) ++ drop at piece ≡ file ++ piece
    whole = append_assoc file (take at piece) (drop at piece) ∙ ap (λ x. file ++ x) (take-append-drop at piece)

-- ---- one message more

-- its place stands in the piece
pub places-more : (size : ℕ) (places : List Place) (place : Place) → All (λ p. IsPlaceIn size p) places → IsPlaceIn size place
    → All (λ p. IsPlaceIn size p) (places ++ place ∷ [])
places-more size places place all is = All-push (λ p. IsPlaceIn size p) places place all is

-- what shows that a message is whole, where it isn't a gap
pub led-after : (after : List ℕ) → is_over after ≡ true → gap_goes_on false after ≡ false → is_led after ≡ true
led-after [] over stops = cc
led-after (b ∷ bytes) over stops = by-byte (or-parts (is_gap_byte b) (is_led (b ∷ bytes)) over)
  where
    plain : (t : Bool) → (t && true) ≡ false → t ≡ false
    plain true e = e
    plain false e = refl

    none : is_gap_byte b ≡ false
    none =
        let off = or-none (is_blank b) (b == 36 && true) stops in
        ap (λ t. t || (b == 36)) off.0 ∙ plain (b == 36) off.1

    by-byte : (is_gap_byte b ≡ true) ⊎ (is_led (b ∷ bytes) ≡ true) → is_led (b ∷ bytes) ≡ true
    by-byte (inl is) = absurd (let e : false ≡ true = sym none ∙ is in cc)
    by-byte (inr led) = led

-- behind a message and no gap stands the next one, or the file ends
pub led-on : (last : Bool) (after : List ℕ) → (is_over after ≡ true) ⊎ ((last ≡ true) × (after ≡ [])) → gap_goes_on false after ≡ false
    → (is_led after ≡ true) ⊎ ((last ≡ true) × (after ≡ []))
led-on last after (inl over) stops = inl (led-after after over stops)
led-on last after (inr none) stops = inr none

-- the message and the gap after it belong to what was taken
pub taken-on : (d : PieceCutter) (file piece : List ℕ) (messages : List (List ℕ)) (places : List Place) (at len gap : ℕ) (place : Place)
    → place.from ≡ at → place.len ≡ len
    → HasTakenFile d (((file ++ take at piece) ++ take len (drop at piece)) ++ take gap (drop (at + len) piece))
    ((messages ++ at_places piece places) ++ take len (drop at piece) ∷ [])
    → HasTakenFile d (file ++ take (at + len + gap) piece) (messages ++ at_places piece (places ++ place ∷ []))
taken-on d file piece messages places at len gap place from size t =
    subst (λ x. HasTakenFile d x (messages ++ at_places piece (places ++ place ∷ []))) bytes
    (subst (λ x. HasTakenFile d (((file ++ take at piece) ++ take len (drop at piece)) ++ take gap (drop (at + len) piece)) x) given t)
  where
    bytes : ((file ++ take at piece) ++ take len (drop at piece)) ++ take gap (drop (at + len) piece) ≡ file ++ take (at + len + gap) piece
    bytes =
        ap (λ x. x ++ take gap (drop (at + len) piece))
        (append_assoc file (take at piece) (take len (drop at piece)) ∙ ap (λ x. file ++ x) (sym (take-add at len piece)))
        ∙ append_assoc file (take (at + len) piece) (take gap (drop (at + len) piece)) ∙ ap (λ x. file ++ x) (sym (take-add (at + len) gap piece))

    message : take len (drop at piece) ≡ at_place piece place
    message = ap (λ n. take n (drop at piece)) (sym size) ∙ ap (λ n. take place.len (drop n piece)) (sym from)

    given : (messages ++ at_places piece places) ++ take len (drop at piece) ∷ [] ≡ messages ++ at_places piece (places ++ place ∷ [])
    given =
        append_assoc messages (at_places piece places) (take len (drop at piece) ∷ [])
        ∙ ap (λ x. messages ++ (at_places piece places ++ x ∷ [])) message
        ∙ ap (λ x. messages ++ x) (sym (map-append (at_place piece) places (place ∷ [])))
