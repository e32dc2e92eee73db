-- What bytes hold as a journal, and how they are spelled.
use Rattle.std.proofs.Common.{◌≡◌, ◌≢◌, inl, inr, ℕ, zero, suc, ◌+◌, ◌<◌, ◌≤◌, Bool, true, false, cond, List, [], ◌∷◌, ◌++◌, length, map, get_or, take, drop, Option, Some, None, refl, sym, ◌∙◌, ap, subst, arith, append_assoc, length-append, length-drop, take-append-drop}
use Rattle.std.specs.Prelude.{◌==◌, ◌&&◌, not, nat_le, nat_lt}
use Rattle.std.specs.Int.{w32, to_be_bytes, from_be_bytes}
use Rattle.std.specs.Str.{bytes_eq}
use Rattle.std.proofs.lemmas.Bool.{and_from, and_parts, cases_Bool, cond_both, false_from_ne_true, le-leb, leb-true, lt-ltb, ltb-true, true≢false}
use Rattle.std.proofs.lemmas.Bool.Decides.{Decides-eqb}
use Rattle.std.proofs.lemmas.List.{take-append-le, take_at, drop_at, drop_more, drop-drop}
use Rattle.std.proofs.lemmas.Nat.{from_be_bytes-to_be_bytes_4}
use Rattle.std.proofs.lemmas.Option.{same_Some, none-some}
use Rattle.std.proofs.lemmas.Slice.Eq.{bytes_eq-Decides}
use Rattle.jrn_file.specs.Reading.{Reading, no_journal, whole, cut, begins_with_record, is_whole, most_record_bytes, opened_of, reading_of, record_at, records_in, records_of, size_of, with_length}
use Rattle.jrn_file.specs.Journal.{after_gates, StandsFor}
use Rattle.jrn_file.specs.inner.Journal.{AreOpen}
use Rattle.jrn_file.specs.inner.Opening.{BeginsWith, HasNoRecord, IsWhole}
use Rattle.jrn_file.specs.inner.Pieces.{AreTakenOff}
use Rattle.jrn_file.proofs.laws.Sizes.{length-sized, length-after_gates}

-- the length that is told of a record that was begun
told-length : (after r : List ℕ) → BeginsWith after r → from_be_bytes w32 (take 4 after) ≡ length r
told-length after r b =
    let size = to_be_bytes w32 (length r) in
    let beyond = r ++ b.gate ∷ b.rest in
    let is : after ≡ size ++ beyond = b.is ∙ append_assoc size r (b.gate ∷ b.rest) in
    let front : take 4 after ≡ size = ap (λ (l : List ℕ). take 4 l) is ∙ take_at size beyond 4 refl in
    ap (from_be_bytes w32) front ∙ from_be_bytes-to_be_bytes_4 (length r) (omega (arith, b.fits))

-- no record is whole whose length tells more than one may have
pub past-whole : (after : List ℕ) → most_record_bytes < from_be_bytes w32 (take 4 after) → IsWhole after → ⊥
past-whole after past whole_one = omega (arith, past, told-length after whole_one.0 whole_one.1, whole_one.1.fits)

-- and none is where more bytes come
pub none-beyond : (gate : ℕ) (after beyond : List ℕ) → 4 ≤ length after → most_record_bytes < from_be_bytes w32 (take 4 after) → HasNoRecord (gate ∷ (after ++ beyond))
none-beyond gate after beyond enough past =
    inr (past-whole (after ++ beyond) (subst (λ l. most_record_bytes < from_be_bytes w32 l) (sym (take-append-le 4 after beyond enough)) past))

-- a record that was begun is the one that its length tells
pub record-begun : (after r : List ℕ) → BeginsWith after r → record_at after ≡ r
record-begun after r b =
    let size = to_be_bytes w32 (length r) in
    let beyond = r ++ b.gate ∷ b.rest in
    let is : after ≡ size ++ beyond = b.is ∙ append_assoc size r (b.gate ∷ b.rest) in
    let back : drop 4 after ≡ beyond = ap (λ (l : List ℕ). drop 4 l) is ∙ drop_at size beyond 4 refl in
    ap (λ (k : ℕ). take k (drop 4 after)) (told-length after r b) ∙ ap (λ (l : List ℕ). take (length r) l) back ∙ take_at r (b.gate ∷ b.rest) (length r) refl

-- the test by which one is told
begins-true : (after r : List ℕ) → BeginsWith after r → begins_with_record after r ≡ true
begins-true after r b =
    let n = length (with_length r) in
    let short : nat_le (length r) most_record_bytes ≡ true = le-leb (length r) most_record_bytes b.fits in
    let long : nat_lt n (length after) ≡ true = lt-ltb n (length after) (omega (arith, ap length b.is, length-append (with_length r) (b.gate ∷ b.rest))) in
    let same : take n after ≡ with_length r = ap (λ (l : List ℕ). take n l) b.is ∙ take_at (with_length r) (b.gate ∷ b.rest) n refl in
    and_from (nat_le (length r) most_record_bytes && nat_lt n (length after)) (bytes_eq (take n after) (with_length r))
    (and_from (nat_le (length r) most_record_bytes) (nat_lt n (length after)) short long)
    ((bytes_eq-Decides (take n after) (with_length r)).1 same)

begins-is : (after r : List ℕ) → begins_with_record after r ≡ true → BeginsWith after r
begins-is after r holds =
    let n = length (with_length r) in
    let parts = and_parts (nat_le (length r) most_record_bytes && nat_lt n (length after)) (bytes_eq (take n after) (with_length r)) holds in
    let sizes = and_parts (nat_le (length r) most_record_bytes) (nat_lt n (length after)) parts.0 in
    let long : n < length after = ltb-true n (length after) sizes.1 in
    let same : take n after ≡ with_length r = (bytes_eq-Decides (take n after) (with_length r)).0 parts.1 in
    let left = drop n after in
    record {
      gate = get_or left 0 0;
      rest = drop 1 left;
      fits = leb-true (length r) most_record_bytes sizes.0;
      is = sym (take-append-drop n after)
          ∙ ap (λ (l : List ℕ). l ++ left) same
          ∙ ap (λ (l : List ℕ). with_length r ++ l) (drop_more left 0 0 (omega (arith, long, length-drop n after)));
    }

whole-begun : (after r : List ℕ) → BeginsWith after r → is_whole after ≡ true
whole-begun after r b = subst (λ (x : List ℕ). begins_with_record after x ≡ true) (sym (record-begun after r b)) (begins-true after r b)

-- any gate but 0 is open
is-open : (gate : ℕ) → gate ≢ 0 → not (gate == 0) ≡ true
is-open gate open_gate = ap not (false_from_ne_true (gate == 0) (λ e. open_gate ((Decides-eqb gate 0).0 e)))

open-is : (gate : ℕ) → not (gate == 0) ≡ true → gate ≢ 0
open-is gate holds = λ shut. true≢false (sym holds ∙ ap not ((Decides-eqb gate 0).1 shut))

and-false : (a b : Bool) → b ≡ false → (a && b) ≡ false
and-false true b fails = fails
and-false false b fails = refl

-- where no record stands none is found
none-in : (n : ℕ) (rest : List ℕ) → HasNoRecord rest → records_in n rest ≡ []
none-in zero rest stop = refl
none-in (suc n) [] stop = refl
none-in (suc n) (gate ∷ after) (inl shut) =
    let more = record_at after ∷ records_in n (drop (length (with_length (record_at after))) after) in
    ap (λ (g : ℕ). cond (not (g == 0) && is_whole after) more []) shut
none-in (suc n) (gate ∷ after) (inr none) =
    let more = record_at after ∷ records_in n (drop (length (with_length (record_at after))) after) in
    elim (cases_Bool (is_whole after)) [
      | inl holds ↦ absurd (none (record_at after, begins-is after (record_at after) holds))
      | inr fails ↦ ap (λ (b : Bool). cond b more []) (and-false (not (gate == 0)) (is_whole after) fails)
    ]

-- a whole record after an open gate is found
one-in : (n gate : ℕ) (after : List ℕ) → gate ≢ 0 → is_whole after ≡ true
    → records_in (suc n) (gate ∷ after) ≡ record_at after ∷ records_in n (drop (length (with_length (record_at after))) after)
one-in n gate after open_gate holds =
    let more = record_at after ∷ records_in n (drop (length (with_length (record_at after))) after) in
    ap (λ (b : Bool). cond b more []) (and_from (not (gate == 0)) (is_whole after) (is-open gate open_gate) holds)

-- all records in front are found
all-in : (n : ℕ) (entries : List (ℕ × List ℕ)) (rest : List ℕ) → AreOpen entries → HasNoRecord rest
    → (0 < length (map (λ (e : ℕ × List ℕ). e.1) entries) → 0 < length rest) → length (after_gates entries ++ rest) ≤ n
    → records_in n (after_gates entries ++ rest) ≡ map (λ (e : ℕ × List ℕ). e.1) entries
all-in n [] rest gates stop some within = none-in n rest stop
all-in zero (e ∷ entries) rest gates stop some within = absurd (omega (arith, within))
all-in (suc n) (e ∷ entries) rest gates stop some within =
    let has : 0 < length rest = some (omega arith) in
    let next = after_gates entries ++ rest in
    let after = (with_length e.1 ++ after_gates entries) ++ rest in
    let size = length (with_length e.1) in
    let same : after ≡ with_length e.1 ++ next = append_assoc (with_length e.1) (after_gates entries) rest in
    let more : 0 < length next = omega (arith, has, length-append (after_gates entries) rest) in
    let begins : BeginsWith after e.1 = record {
      gate = get_or next 0 0;
      rest = drop 1 next;
      fits = gates.1;
      is = same ∙ ap (λ (l : List ℕ). with_length e.1 ++ l) (drop_more next 0 0 more);
    } in
    let is : record_at after ≡ e.1 = record-begun after e.1 begins in
    let left : drop (length (with_length (record_at after))) after ≡ next =
    ap (λ (r : List ℕ). drop (length (with_length r)) after) is ∙ ap (λ (l : List ℕ). drop size l) same ∙ drop_at (with_length e.1) next size refl in
    let others : records_in n (drop (length (with_length (record_at after))) after) ≡ map (λ (e : ℕ × List ℕ). e.1) entries =
    ap (λ (l : List ℕ). records_in n l) left ∙ all-in n entries rest gates.2 stop (λ _. has) (omega (arith, within, ap length same, length-append (with_length e.1) next)) in
    one-in n e.0 after gates.0 (whole-begun after e.1 begins) ∙ (λ i. is i ∷ others i)

-- records in front of bytes, after open gates
pub record Front (bytes : List ℕ) (all : List (List ℕ)) : Type 0 where
  pub entries : List (ℕ × List ℕ)
  pub gates : AreOpen entries
  pub same : map (λ (e : ℕ × List ℕ). e.1) entries ≡ all
  pub is : bytes ≡ after_gates entries ++ drop (size_of all) bytes

no-front : (bytes : List ℕ) → Front bytes []
no-front bytes = record { entries = []; gates = tt; same = refl; is = refl }

-- what is found stands there
pub found : (n : ℕ) (bytes : List ℕ) → Front bytes (records_in n bytes)
found zero bytes = no-front bytes
found (suc n) [] = no-front []
found (suc n) (gate ∷ after) =
    let r = record_at after in
    let size = length (with_length r) in
    let left = drop size after in
    let more = records_in n left in
    let inner = found n left in
    cond_both (not (gate == 0) && is_whole after) (r ∷ more) [] (Front (gate ∷ after))
    (λ holds.
    let parts = and_parts (not (gate == 0)) (is_whole after) holds in
    let begins = begins-is after r parts.1 in
    let front : after ≡ with_length r ++ left =
    begins.is ∙ ap (λ (l : List ℕ). with_length r ++ l) (sym (ap (λ (l : List ℕ). drop size l) begins.is ∙ drop_at (with_length r) (begins.gate ∷ begins.rest) size refl)) in
    let total : size_of (r ∷ more) ≡ 1 + (size + size_of more) = omega (arith, length-sized r) in
    let beyond : drop (size_of more) left ≡ drop (size_of (r ∷ more)) (gate ∷ after) =
    drop-drop (size_of more) size after ∙ drop-drop (size + size_of more) 1 (gate ∷ after) ∙ ap (λ (k : ℕ). drop k (gate ∷ after)) (sym total) in
    record {
      entries = (gate, r) ∷ inner.entries;
      gates = (open-is gate parts.0, begins.fits, inner.gates);
      same = ap (λ (l : List (List ℕ)). r ∷ l) inner.same;
      is = ap (λ (l : List ℕ). gate ∷ l) (
          front
          ∙ ap (λ (l : List ℕ). with_length r ++ l) (inner.is ∙ ap (λ (l : List ℕ). after_gates inner.entries ++ l) beyond)
          ∙ sym (append_assoc (with_length r) (after_gates inner.entries) (drop (size_of (r ∷ more)) (gate ∷ after)))
          );
    })
    (λ fails. no-front (gate ∷ after))

-- what was taken out of bytes up to where no record stands is what they hold
pub taken-read : (bytes : List ℕ) (all : List (List ℕ)) (rest : List ℕ) → AreTakenOff bytes all rest → HasNoRecord rest → opened_of bytes ≡ reading_of all rest
unfolding opened_of
taken-read bytes all rest taken stop =
    let some : 0 < length (map (λ (e : ℕ × List ℕ). e.1) taken.entries) → 0 < length rest =
    λ more. elim taken.gate [
      | inl none ↦ absurd (omega (arith, more, ap length (taken.same ∙ none)))
      | inr has ↦ has
    ] in
    let all_found : records_of bytes ≡ all =
    ap (λ (b : List ℕ). records_in (length bytes) b) taken.is
    ∙ all-in (length bytes) taken.entries rest taken.gates stop some (omega (arith, ap length taken.is))
    ∙ taken.same in
    let beyond : drop (size_of all) bytes ≡ rest =
    ap (λ (b : List ℕ). drop (size_of all) b) taken.is
    ∙ drop_at (after_gates taken.entries) rest (size_of all) (length-after_gates taken.entries ∙ ap size_of taken.same) in
    ap (λ (rs : List (List ℕ)). reading_of rs (drop (size_of rs) bytes)) all_found ∙ ap (λ (l : List ℕ). reading_of all l) beyond

-- Bytes that are spelled so: each record after its length and an open gate, and a closed gate after the last.
pub record Spelled (image head : List ℕ) (records : List (List ℕ)) : Type 0 where
  pub entries : List (ℕ × List ℕ)
  pub rest : List ℕ
  pub gates : AreOpen entries
  pub same : map (λ (e : ℕ × List ℕ). e.1) entries ≡ head ∷ records
  pub is : image ≡ after_gates entries ++ 0 ∷ rest

pub spelled-stands : (image head : List ℕ) (records : List (List ℕ)) → Spelled image head records → StandsFor image head records
spelled-stands image head records s =
    taken-read image (head ∷ records) (0 ∷ s.rest)
    (record { entries = s.entries; gates = s.gates; same = s.same; is = s.is; gate = inr (omega arith) }) (inl refl)

-- the records of a whole journal
abbrev told : Reading → Option (List (List ℕ))
told no_journal = None
told (whole all) = Some all
told (cut all at) = None

closed-front : (rest : List ℕ) → bytes_eq (take 1 rest) (0 ∷ []) ≡ true → (after : List ℕ) × (rest ≡ 0 ∷ after)
closed-front [] holds = absurd (true≢false (sym holds))
closed-front (gate ∷ after) holds =
    let same : take 1 (gate ∷ after) ≡ 0 ∷ [] = (bytes_eq-Decides (take 1 (gate ∷ after)) (0 ∷ [])).0 holds in
    (after, ap (λ (l : List ℕ). get_or l 0 0 ∷ after) same)

whole-of : (all : List (List ℕ)) (rest head : List ℕ) (records : List (List ℕ)) → reading_of all rest ≡ whole (head ∷ records)
    → (all ≡ head ∷ records) × ((after : List ℕ) × (rest ≡ 0 ∷ after))
whole-of [] rest head records e = absurd (none-some (head ∷ records) (ap told e))
whole-of (first ∷ more) rest head records e =
    let Is : Bool → Reading = λ b. cond b (whole (first ∷ more)) (cut (first ∷ more) (size_of (first ∷ more))) in
    elim (cases_Bool (bytes_eq (take 1 rest) (0 ∷ []))) [
      | inl holds ↦ (same_Some (first ∷ more) (head ∷ records) (ap told (sym (ap Is holds) ∙ e)), closed-front rest holds)
      | inr fails ↦ absurd (none-some (head ∷ records) (ap told (sym (ap Is fails) ∙ e)))
    ]

pub stands-spelled : (image head : List ℕ) (records : List (List ℕ)) → StandsFor image head records → Spelled image head records
unfolding opened_of
stands-spelled image head records stands =
    let front = found (length image) image in
    let ends = whole-of (records_of image) (drop (size_of (records_of image)) image) head records stands in
    record {
      entries = front.entries;
      rest = ends.1.0;
      gates = front.gates;
      same = front.same ∙ ends.0;
      is = front.is ∙ ap (λ (l : List ℕ). after_gates front.entries ++ l) ends.1.1;
    }
