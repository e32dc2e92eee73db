use Rattle.std.proofs.Common.{◌≡◌, ◌+◌, ◌≤◌, ◌<◌, ◌++◌, ◌∷◌, [], length, false, refl, sym, ap, ◌∙◌, subst, arith, length-append}
use Rattle.std.proofs.lemmas.Bool.Decides.{nat_tests}
use Rattle.fin_frame.specs.File.{IsMessage}
use Rattle.fin_frame.specs.inner.Whole.{has_group}
use Rattle.fin_frame.proofs.WholeFile.{HasCome, come-first, come-on, come-lost, come-unwhole, come-more, message-some}
use Rattle.fin_frame.proofs.whole.cut_whole.Goals as goal

pub loop-rest-init : goal.loop-rest-init
loop-rest-init c =
    let a = c.after_gap-rest.ensures.after in
    record {
      few = subst (λ x. length x ≤ c.args.most) (sym c.new-messages.ensures) (omega arith);
      come = subst (λ x. HasCome c.args.file.now c.after_gap-rest.result.now x) (sym c.new-messages.ensures)
          (come-first c.args.file.now a.0 c.after_gap-rest.result.now a.1 a.2 a.3);
    }

pub returns-then-not-is_led-clause-uncut : goal.returns-then-not-is_led-clause-uncut
returns-then-not-is_led-clause-uncut c = λ none others cut.
    let some : 0 < length c.loop-rest.rest.now = grind (arith, nat_tests, c.is_empty.ensures, c.loop-rest-test.true) in
    absurd
    (come-lost c.args.file.now c.loop-rest.rest.now c.loop-rest.messages others c.loop-rest.invariant.come some
    (sym c.is_led.ensures ∙ c.if-not-is_led.true) cut)

pub returns-then-as_slice-most-clause-uncut : goal.returns-then-as_slice-most-clause-uncut
returns-then-as_slice-most-clause-uncut c = λ none others cut.
    let least : length c.loop-rest.messages < length others =
    come-more c.args.file.now c.loop-rest.rest.now c.loop-rest.messages others c.loop-rest.invariant.come
    (sym c.is_led.ensures ∙ c.if-not-is_led.false) cut in
    omega (arith, least, c.if-as_slice-most.true, ap length c.as_slice.ensures)

pub returns-in_default-clause-uncut : goal.returns-in_default-clause-uncut
returns-in_default-clause-uncut c = λ none others cut.
    absurd (come-unwhole c.args.file.now c.loop-rest.rest.now c.loop-rest.messages others c.loop-rest.invariant.come (c.in_default.ensures.none refl) cut)

pub loop-rest-smaller : goal.loop-rest-smaller
loop-rest-smaller c =
    let s = c.split_at.ensures in
    let a = c.after_gap-rest-in-loop-rest.ensures.after in
    let w = c.in-Some.ensures.whole in
    let message = c.split_at.result.0.now in
    let after = c.split_at.result.1.now in
    let is : IsMessage message = subst (λ x. IsMessage x) (sym s.front) w.1 in
    let whole : length c.loop-rest.rest.now ≡ length message + length after = ap length s.by_index.0 ∙ length-append message after in
    let parts : length after ≡ length a.0 + length c.after_gap-rest-in-loop-rest.result.now =
    ap length a.1 ∙ length-append a.0 c.after_gap-rest-in-loop-rest.result.now in
    omega (arith, whole, parts, message-some is.0)

pub loop-rest-preserved : goal.loop-rest-preserved
loop-rest-preserved c =
    let s = c.split_at.ensures in
    let a = c.after_gap-rest-in-loop-rest.ensures.after in
    let w = c.in-Some.ensures.whole in
    let file = c.args.file.now in
    let rest = c.after_gap-rest-in-loop-rest.result.now in
    let message = c.split_at.result.0.now in
    let after = c.split_at.result.1.now in
    let messages = c.loop-rest.messages in
    let is : IsMessage message = subst (λ x. IsMessage x) (sym s.front) w.1 in
    let other : has_group after ≡ false = ap has_group s.back ∙ w.2 in
    let before : HasCome file (message ++ after) messages = subst (λ x. HasCome file x messages) s.by_index.0 c.loop-rest.invariant.come in
    let one : length (messages ++ message ∷ []) ≡ length messages + 1 = length-append messages (message ∷ []) in
    let room : length messages < c.args.most = omega (arith, c.if-as_slice-most.false, ap length c.as_slice.ensures, c.loop-rest.invariant.few) in
    record {
      few = subst (λ x. length x ≤ c.args.most) (sym c.in_ok-push.ensures.ok) (omega (arith, one, room));
      come = subst (λ x. HasCome file rest x) (sym c.in_ok-push.ensures.ok) (come-on file message after a.0 rest messages before is other a.1 a.2 a.3);
    }
