use Rattle.std.proofs.Common.{◌+◌, ◌∷◌, [], ◌++◌, ap, arith, subst, ◌∙◌, append_assoc}
use Rattle.std.proofs.lemmas.List.{take_rest}
use Rattle.jrn_file.specs.inner.Opening.{BeginsWith}
use Rattle.jrn_file.proofs.Taken.{taken-more, record-within}
use Rattle.jrn_file.proofs.reading.copy_records.Goals as goal

pub loop-alloc-preserved : goal.loop-alloc-preserved
loop-alloc-preserved c =
    let bytes = c.args.bytes.now in
    let at = c.loop-alloc.at in
    let r = c.in-Some.record.now in
    let begins = subst (λ b. BeginsWith b r) (take_rest bytes (at + 1)) c.in-Some.ensures.whole in
    let taken = c.loop-alloc.invariant.taken in
    let before = taken.0 in
    let grown = c.in_ok-push-in-Some.ensures.items ∙ ap (λ x. c.loop-alloc.records.items ++ x ∷ []) c.in_ok-from_bytes-in-Some.ensures
    ∙ ap (λ l. l ++ r ∷ []) taken.1 ∙ append_assoc c.args.records.now.items before (r ∷ []) in
    record {
      within = omega (arith, c.loop-alloc-test.ensures.open.0, record-within bytes at r begins);
      taken = (before ++ r ∷ [], grown, taken-more bytes before at r taken.2 c.loop-alloc-test.ensures.open.0 c.loop-alloc-test.ensures.open.1 begins);
    }
