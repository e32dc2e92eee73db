-- Bytes that are given to a sender one after another.
use Rattle.std.specs.Prelude.{Bool, Option, IsTrue}
use Rattle.std.proofs.Common.{◌≡◌, ℕ, ◌+◌, ◌*◌, ◌/◌, ◌<◌, ◌≤◌, min, List, [], ◌++◌, length, take, drop, sym, ◌∙◌, ap, subst, arith, append_assoc, length-append}
use Rattle.std.proofs.lemmas.List.{append-nil, length-take-le, take_at, drop_at, drop-drop, take-append-drop}
use Rattle.std.proofs.lemmas.Nat.{le-div}
use Rattle.std.proofs.Math.Nat.{add-mul, div-mul-le_self}
use Rattle.std.specs.Int.{div_ceil}
use Rattle.corr_disk.specs.Calls.{AtMostCalls}
use Rattle.corr_disk.specs.Disk.{written}
use Rattle.corr_disk.proofs.laws.Counted.{no_calls, at_most_weaker, calls_in_turn, calls_then, calls_within}
use Rattle.jrn_file.specs.inner.Sending.{IsSent, SendsBy, StartsAt, place_of, waiting}
use Rattle.jrn_file.proofs.Pieces.{pieces-ceil}
use Rattle.jrn_file.specs.declared.sending.Sender.{Sender}

-- a write of nothing
pub written-none : (at : ℕ) (bytes : List ℕ) → written at [] bytes ≡ bytes
written-none at bytes =
    let none : at + 0 ≡ at = omega arith in
    ap (λ (l : List ℕ). l ++ drop (at + 0) bytes) (append-nil (take at bytes))
    ∙ ap (λ (n : ℕ). take at bytes ++ drop n bytes) none
    ∙ take-append-drop at bytes

-- how long bytes are that were written over
pub length-written : (at : ℕ) (a bytes : List ℕ) → at ≤ length bytes → at + length a ≤ length (written at a bytes)
length-written at a bytes within = omega (
  arith,
  length-take-le at bytes within,
  length-append (take at bytes ++ a) (drop (at + length a) bytes),
  length-append (take at bytes) a,
)

-- two writes in turn are one
pub written-more : (at : ℕ) (a b bytes : List ℕ) → at ≤ length bytes → written (at + length a) b (written at a bytes) ≡ written at (a ++ b) bytes
written-more at a b bytes within =
    let front = take at bytes ++ a in
    let back = drop (at + length a) bytes in
    let long : length front ≡ at + length a = omega (arith, within, length-take-le at bytes within, length-append (take at bytes) a) in
    let total : at + length a + length b ≡ at + length (a ++ b) = omega (arith, length-append a b) in
    let kept : take (at + length a) (written at a bytes) ≡ front = take_at front back (at + length a) long in
    let beyond : drop (at + length a + length b) (written at a bytes) ≡ drop (at + length (a ++ b)) bytes =
    sym (drop-drop (length b) (at + length a) (written at a bytes))
    ∙ ap (λ (l : List ℕ). drop (length b) l) (drop_at front back (at + length a) long)
    ∙ drop-drop (length b) (at + length a) bytes
    ∙ ap (λ (n : ℕ). drop n bytes) total in
    ap (λ (l : List ℕ). (l ++ b) ++ drop (at + length a + length b) (written at a bytes)) kept
    ∙ ap (λ (l : List ℕ). (front ++ b) ++ l) beyond
    ∙ ap (λ (l : List ℕ). l ++ drop (at + length (a ++ b)) bytes) (append_assoc (take at bytes) a b)

-- how many wait
pub length-waiting : (piece : ℕ) (s : Sender) → SendsBy piece s → length (waiting s) ≡ s.filled
length-waiting piece s by = length-take-le s.filled s.buffer.items (omega (arith, by.size, by.few))

-- before anything was given
pub sent-start : (piece : ℕ) (s : Sender) (honest : Bool) (bytes : List ℕ) (plan : ℕ → Option Bool) → SendsBy piece s → IsSent piece s s [] honest bytes bytes plan plan
sent-start piece s honest bytes plan by = record {
  sent = [];
  pieces = 0;
  is = append-nil (waiting s);
  whole = omega arith;
  place = omega arith;
  told = λ told. sym (written-none (place_of s) bytes);
  calls = no_calls plan;
  by = by;
}

module _ (piece : ℕ) (old new : Sender) (bytes : List ℕ) (honest : Bool) (before after : List ℕ) (first last : ℕ → Option Bool)
    (sent : IsSent piece old new bytes honest before after first last) where
  -- the place after what waits has moved by what was given
  pub sent-size : SendsBy piece old → place_of new + new.filled ≡ place_of old + old.filled + length bytes
  sent-size by = omega (
    arith,
    sent.place,
    ap length sent.is,
    length-append (waiting old) bytes,
    length-append sent.sent (waiting new),
    length-waiting piece old by,
    length-waiting piece new sent.by,
  )

  -- and stands within what the disk holds
  pub sent-within : (IsTrue honest → place_of old ≤ length before) → IsTrue honest → place_of new ≤ length after
  sent-within within told = omega (
    arith,
    sent.place,
    ap length (sent.told told),
    length-written (place_of old) sent.sent before (within told),
  )

  -- the pieces that were written are no more than all bytes make
  pub calls-so-far : (total : ℕ) → 0 < piece → SendsBy piece old → old.filled + length bytes ≤ total → AtMostCalls (total / piece) first last
  calls-so-far total some by within =
      calls_within sent.pieces (total / piece) first last sent.calls
      (le-div sent.pieces total piece some (omega (arith, sent.whole, sent.place, within, sent-size by)))

  -- nor with those that the next bytes make
  pub calls-more : (more total : ℕ) (next : ℕ → Option Bool) → 0 < piece → SendsBy piece old → old.filled + length bytes + more ≤ total
      → AtMostCalls ((new.filled + more) / length new.buffer.items) last next → AtMostCalls (total / piece) first next
  calls-more more total next some by within made =
      let rest = new.filled + more in
      let here : AtMostCalls (rest / piece) last next = subst (λ n. AtMostCalls (rest / n) last next) sent.by.size made in
      let few : (sent.pieces + rest / piece) * piece ≤ total =
      omega (arith, add-mul sent.pieces (rest / piece) piece, div-mul-le_self rest piece, sent.whole, sent.place, within, sent-size by) in
      calls_then sent.pieces (rest / piece) (total / piece) first last next sent.calls here (le-div (sent.pieces + rest / piece) total piece some few)

-- the same bytes
pub sent-same : (piece : ℕ) (old new : Sender) (a b : List ℕ) (honest : Bool) (before after : List ℕ) (first last : ℕ → Option Bool) → a ≡ b
    → IsSent piece old new a honest before after first last → IsSent piece old new b honest before after first last
sent-same piece old new a b honest before after first last same sent = subst (λ l. IsSent piece old new l honest before after first last) same sent

-- one after another
pub sent-then : (piece : ℕ) (old mid new : Sender) (a b all : List ℕ) (honest still : Bool) (before between after : List ℕ) (first middle last : ℕ → Option Bool)
    → a ++ b ≡ all → still ≡ honest → (IsTrue honest → place_of old ≤ length before)
    → IsSent piece old mid a honest before between first middle → IsSent (length mid.buffer.items) mid new b still between after middle last
    → IsSent piece old new all honest before after first last
sent-then piece old mid new a b all honest still before between after first middle last joined same within one next =
    let two : IsSent piece mid new b still between after middle last = subst (λ n. IsSent n mid new b still between after middle last) one.by.size next in
    sent-same piece old new (a ++ b) all honest before after first last joined (record {
      sent = one.sent ++ two.sent;
      pieces = one.pieces + two.pieces;
      is = sym (append_assoc (waiting old) a b)
          ∙ ap (λ (l : List ℕ). l ++ b) one.is
          ∙ append_assoc one.sent (waiting mid) b
          ∙ ap (λ (l : List ℕ). one.sent ++ l) two.is
          ∙ sym (append_assoc one.sent two.sent (waiting new));
      whole = omega (arith, one.whole, two.whole, length-append one.sent two.sent, add-mul one.pieces two.pieces piece);
      place = omega (arith, one.place, two.place, length-append one.sent two.sent);
      told = λ told.
          two.told (subst IsTrue (sym same) told)
          ∙ ap (λ (n : ℕ). written n two.sent between) one.place
          ∙ ap (λ (l : List ℕ). written (place_of old + length one.sent) two.sent l) (one.told told)
          ∙ written-more (place_of old) one.sent two.sent before (within told);
      calls = calls_in_turn one.pieces two.pieces first middle last one.calls two.calls;
      by = two.by;
    })

-- fewer bytes make no more pieces
pub calls-fewer : (n total piece : ℕ) (first last : ℕ → Option Bool) → 0 < piece → n ≤ total → AtMostCalls (n / piece) first last → AtMostCalls (total / piece) first last
calls-fewer n total piece first last some within made =
    at_most_weaker (n / piece) (total / piece) first last made (le-div (n / piece) total piece some (omega (arith, within, div-mul-le_self n piece)))

-- of a new sender, all that was given, once what waits is written too
module _ (piece : ℕ) (old new : Sender) (bytes : List ℕ) (honest : Bool) (before mid : List ℕ) (first last : ℕ → Option Bool)
    (sent : IsSent piece old new bytes honest before mid first last) (starts : StartsAt piece 1 old) where
  all-given : sent.sent ++ waiting new ≡ bytes
  all-given = sym sent.is ∙ ap (λ (n : ℕ). take n old.buffer.items ++ bytes) starts.none

  pub all-written : (after : List ℕ) → 1 ≤ length before → IsTrue honest → after ≡ written (place_of new) (waiting new) mid → after ≡ written 1 bytes before
  all-written after some told is =
      let place : place_of new ≡ 1 + length sent.sent = omega (arith, sent.place, starts.place) in
      is
      ∙ ap (λ (n : ℕ). written n (waiting new) mid) place
      ∙ ap (λ (l : List ℕ). written (1 + length sent.sent) (waiting new) l) (sent.told told ∙ ap (λ (n : ℕ). written n sent.sent before) starts.place)
      ∙ written-more 1 sent.sent (waiting new) before some
      ∙ ap (λ (l : List ℕ). written 1 l before) all-given

  -- the writes are those of the whole pieces and one of what waits
  pub all-pieces : div_ceil (length bytes) piece ≡ sent.pieces + min 1 new.filled
  all-pieces =
      pieces-ceil sent.pieces piece new.filled (length bytes) sent.by.few
      (omega (arith, sent.whole, sent.place, sent-size piece old new bytes honest before mid first last sent starts.by, starts.none))
