use Rattle.std.proofs.Common.{◌-◌, length, replicate, sym, arith}
use Rattle.std.specs.Str.Parse.{digits_value_after}
use Rattle.corr_money.proofs.Digits.{Parts, after_grows, joined-value, joined-small, zeros_are_digits, zeros_of}
use Rattle.corr_money.proofs.reading.minor.Goals as goal

pub number_after-requires-clause-fits : goal.number_after-requires-clause-fits
number_after-requires-clause-fits c =
    let a = c.args in
    let parts : Parts a.whole.now a.written.now a.decimals = record { digits_before = c.requires.whole; digits_after = c.requires.written; short = c.requires.short; few = c.requires.few; most = c.requires.most } in
    let n = digits_value_after 10 0 a.whole.now in
    omega (arith, after_grows n a.written.now, after_grows (digits_value_after 10 n a.written.now) (replicate (a.decimals - length a.written.now) 48), joined-value a.whole.now a.written.now a.decimals, joined-small a.whole.now a.written.now a.decimals parts)

pub number_after-requires-2-clause-fits : goal.number_after-requires-2-clause-fits
number_after-requires-2-clause-fits c =
    let a = c.args in
    let parts : Parts a.whole.now a.written.now a.decimals = record { digits_before = c.requires.whole; digits_after = c.requires.written; short = c.requires.short; few = c.requires.few; most = c.requires.most } in
    let n = digits_value_after 10 0 a.whole.now in
    rw c.number_after.ensures (omega (arith, after_grows (digits_value_after 10 n a.written.now) (replicate (a.decimals - length a.written.now) 48), joined-value a.whole.now a.written.now a.decimals, joined-small a.whole.now a.written.now a.decimals parts))

pub number_after-requires-3-clause-digits : goal.number_after-requires-3-clause-digits
number_after-requires-3-clause-digits c =
    let a = c.args in
    rw (zeros_of (a.decimals - length a.written.now) (omega (arith, c.requires.most))) (zeros_are_digits (a.decimals - length a.written.now))

pub number_after-requires-3-clause-fits : goal.number_after-requires-3-clause-fits
number_after-requires-3-clause-fits c =
    let a = c.args in
    let parts : Parts a.whole.now a.written.now a.decimals = record { digits_before = c.requires.whole; digits_after = c.requires.written; short = c.requires.short; few = c.requires.few; most = c.requires.most } in
    rw (zeros_of (a.decimals - length a.written.now) (omega (arith, c.requires.most)), c.number_after-2.ensures, c.number_after.ensures, ← joined-value a.whole.now a.written.now a.decimals) (joined-small a.whole.now a.written.now a.decimals parts)

pub returns : goal.returns
returns c =
    let a = c.args in
    rw (c.number_after-3.ensures, zeros_of (a.decimals - length a.written.now) (omega (arith, c.requires.most)), c.number_after-2.ensures, c.number_after.ensures) (sym (joined-value a.whole.now a.written.now a.decimals))
