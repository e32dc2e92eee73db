use Rattle.std.proofs.Common.{◌≡◌, ◌+◌, ◌-◌, take, drop, arith, subst}
use Rattle.jrn_file.specs.inner.Opening.{BeginsWith}
use Rattle.jrn_file.proofs.Whole.{begins-with}
use Rattle.jrn_file.proofs.reading.whole_record.Goals as goal

pub returns-clause-whole : goal.returns-clause-whole
returns-clause-whole c =
    let size = c.size_in_front-size.result in
    let same : size ≡ 4 + size - 4 = omega arith in
    subst (λ n. BeginsWith c.args.after.now (take n (drop 4 c.args.after.now))) same
    (begins-with c.args.after.now size (λ i. (c.type_inv.after i).fits) c.size_in_front-size.ensures c.if-size-gt-MAX_RECORD.false (omega (arith, c.if-after-size.false, c.if-after-lt5.false)))
