use Rattle.std.proofs.Common.{◌≡◌, ◌+◌, ◌-◌, take, drop, arith, sym, ap, ◌∙◌}
use Rattle.std.proofs.lemmas.List.{drop-take}
use Rattle.fin_frame.proofs.Groups.{plain-group}
use Rattle.fin_frame.proofs.WholeFile.{open-group}
use Rattle.fin_frame.proofs.whole.group_len.Goals as goal

pub returns-then-is_plain_to-clause-whole : goal.returns-then-is_plain_to-clause-whole
returns-then-is_plain_to-clause-whole c =
    let plain = c.is_plain_to.ensures c.if-is_plain_to.true in
    (plain.0, plain-group c.args.bytes.now c.args.mostly c.requires.two plain.0 c.requires.begun plain.1 plain.2)

pub returns-then-left-gt0-clause-none : goal.returns-then-left-gt0-clause-none
returns-then-left-gt0-clause-none c = λ none.
    let bytes = c.args.bytes.now in
    let reach = c.min-reach.result in
    let inside = take (reach - 1) (drop 1 bytes) in
    let w = c.within-len.ensures in
    let more : 1 + (reach - 1) ≡ reach = omega (arith, c.min-reach.ensures, c.requires.some) in
    let is : inside ≡ drop 1 (take reach bytes) = sym (drop-take 1 (reach - 1) bytes) ∙ ap (λ n. drop 1 (take n bytes)) more in
    open-group bytes inside reach c.within-len.result.0 c.within-len.result.1 c.requires.some c.requires.begun
    (omega (arith, more)) is w.«open» c.if-left-gt0.true w.end
    (omega (arith, c.min-reach.ensures)) (λ lt. omega (arith, c.min-reach.ensures, lt))
