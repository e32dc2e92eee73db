use Rattle.std.proofs.Common.{◌+◌, ◌≤◌, ℕ, List, ap, arith, length, subst, sym, take}
use Rattle.std.proofs.lemmas.List.{length-take}
use Rattle.corr_top.specs.inner.Reading.{AddsSome}
use Rattle.corr_top.proofs.ReadBytes.{adds_lost}
use Rattle.corr_top.proofs.reading.read_until.Goals as goal

-- there was no memory for the bytes of the last read
pub returns-in_err-push-in-Ok-clause-text : goal.returns-in_err-push-in-Ok-clause-text
returns-in_err-push-in-Ok-clause-text g c =
    let text = c.loop-text.text in
    let lost = take c.in-Ok.count c.read.new.buf in
    let long = length-take c.in-Ok.count c.read.new.buf in
    let most = length-take c.min-room.result c.loop-text.chunk in
    let under = c.loop-text-test.true in let here = ap length c.bytes.ensures in let so_far = ap length c.bytes-in-loop-text.ensures in let room = c.min-room.ensures in let read = c.in-Ok.ensures.bound in let size = c.read.auto.buf in
    let within : length text + length lost ≤ c.args.until = omega (arith, long, most, under, here, so_far, room, read, size) in
    subst (λ (t : List ℕ). AddsSome (g.S.Source.left c.args.source.now) (g.S.Source.left c.read.new.self) c.args.until c.args.text.now t) (sym c.in_err-push-in-Ok.ensures.err)
    (adds_lost (g.S.Source.left c.args.source.now) (g.S.Source.left c.loop-text.source) (g.S.Source.left c.read.new.self) c.args.until c.args.text.now text lost c.loop-text.invariant.read c.in-Ok.ensures.bytes.0 within)
