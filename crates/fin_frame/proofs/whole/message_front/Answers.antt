use Rattle.std.proofs.Common.{◌≡◌, ◌+◌, ◌-◌, ◌++◌, true, length, take, drop, refl, ap, sym, ◌∙◌, subst, inl, inr, arith, length-drop}
use Rattle.std.proofs.Math.Seq.{take-add}
use Rattle.std.proofs.lemmas.List.{length-take-le, take-append-drop, take_rest}
use Rattle.fin_frame.specs.File.{IsMessageTo, IsMessage}
use Rattle.fin_frame.specs.inner.Whole.{has_group, EndsOpen, RunsOver}
use Rattle.fin_frame.proofs.WholeFile.{first-group, first-over, first-ends, next-group, next-over, next-ends, whole-over}
use Rattle.fin_frame.proofs.whole.message_front.Goals as goal
use Rattle.fin_frame.proofs.whole.message_front.Goals.{else-bytes-gt-MOST_BYTES-2-via-then-bytes-gt-MOST_BYTES-2+else-not-is_part, else-bytes-gt-MOST_BYTES-2-via-else-bytes-gt-MOST_BYTES-2}

pub returns-then-bytes-gt-MOST_BYTES : goal.returns-then-bytes-gt-MOST_BYTES
returns-then-bytes-gt-MOST_BYTES c = first-over c.args.bytes.now c.requires.led (c.in_default.ensures.none refl) c.if-bytes-gt-MOST_BYTES.true

pub returns-else-bytes-gt-MOST_BYTES : goal.returns-else-bytes-gt-MOST_BYTES
returns-else-bytes-gt-MOST_BYTES c = first-ends c.args.bytes.now c.requires.led (c.in_default.ensures.none refl) c.if-bytes-gt-MOST_BYTES.false

pub loop-len-init : goal.loop-len-init
loop-len-init c =
    let len = c.in-Some.first in
    let bytes = c.args.bytes.now in
    let w = c.in-Some.ensures.whole in
    record { most = w.0; message = first-group bytes (take len bytes) (drop len bytes) (sym (take-append-drop len bytes)) c.requires.led w.1 }

pub returns-then-not-is_part : goal.returns-then-not-is_part
returns-then-not-is_part c =
    let len = c.loop-len.len in
    let bytes = c.args.bytes.now in
    let after = take (length bytes - len) (drop len bytes) in
    let whole : take len bytes ++ after ≡ bytes = ap (λ x. take len bytes ++ x) (take_rest bytes len) ∙ take-append-drop len bytes in
    let size : length (take len bytes) ≡ len = length-take-le len bytes c.loop-len.invariant.most in
    let is : IsMessage (take len bytes) = (c.loop-len.invariant.message, omega (arith, size, c.loop-len-test.true)) in
    let has : has_group after ≡ true = sym c.has_group.ensures ∙ c.if-has_group.true in
    subst (λ x. RunsOver x) whole
    (next-over (take len bytes) after is has (c.in_default-group_len.ensures.none refl) (c.if-not-is_part.ensures.other refl)
    (omega (arith, c.if-bytes-gt-MOST_BYTES-2.true, ap length whole)))

pub returns-else-bytes-gt-MOST_BYTES-2 : goal.returns-else-bytes-gt-MOST_BYTES-2
returns-else-bytes-gt-MOST_BYTES-2 c =
    let len = c.loop-len.len in
    let bytes = c.args.bytes.now in
    let after = take (length bytes - len) (drop len bytes) in
    let whole : take len bytes ++ after ≡ bytes = ap (λ x. take len bytes ++ x) (take_rest bytes len) ∙ take-append-drop len bytes in
    let size : length (take len bytes) ≡ len = length-take-le len bytes c.loop-len.invariant.most in
    let is : IsMessage (take len bytes) = (c.loop-len.invariant.message, omega (arith, size, c.loop-len-test.true)) in
    let has : has_group after ≡ true = sym c.has_group.ensures ∙ c.if-has_group.true in
    let «open» = c.in_default-group_len.ensures.none refl in
    subst (λ x. EndsOpen x) whole
    (next-ends (take len bytes) after is has «open»
    (elim c.else-bytes-gt-MOST_BYTES-2.branch [
      | else-bytes-gt-MOST_BYTES-2-via-then-bytes-gt-MOST_BYTES-2+else-not-is_part w ↦ inr (w.if-not-is_part.ensures.part refl)
      | else-bytes-gt-MOST_BYTES-2-via-else-bytes-gt-MOST_BYTES-2 w ↦ inl (omega (arith, w.if-bytes-gt-MOST_BYTES-2.false, ap length whole))
    ]))

pub loop-len-preserved : goal.loop-len-preserved
loop-len-preserved c =
    let len = c.loop-len.len in
    let n = c.in-Some-group_len.next in
    let bytes = c.args.bytes.now in
    let after = take (length bytes - len) (drop len bytes) in
    let w = c.in-Some-group_len.ensures.whole in
    let has : has_group after ≡ true = sym c.has_group.ensures ∙ c.if-has_group.true in
    let same : take len bytes ++ take n after ≡ take (len + n) bytes =
    ap (λ x. take len bytes ++ take n x) (take_rest bytes len) ∙ sym (take-add len n bytes) in
    let size : length after ≡ length bytes - len = ap length (take_rest bytes len) ∙ length-drop len bytes in
    record {
      most = omega (arith, w.0, size, c.loop-len.invariant.most);
      message = subst (λ x. IsMessageTo 0 x) same
          (next-group (take len bytes) after (take n after) (drop n after) c.loop-len.invariant.message has (sym (take-append-drop n after)) w.1);
    }

pub returns-then-len-gt-MOST_BYTES : goal.returns-then-len-gt-MOST_BYTES
returns-then-len-gt-MOST_BYTES c =
    let len = c.loop-len.len in
    let bytes = c.args.bytes.now in
    let size : length (take len bytes) ≡ len = length-take-le len bytes c.loop-len.invariant.most in
    whole-over bytes len c.loop-len.invariant.message (omega (arith, size, c.if-len-gt-MOST_BYTES.true))
