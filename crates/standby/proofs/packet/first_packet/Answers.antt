use Rattle.std.proofs.Common.{◌≡◌, ◌∙◌, ◌-◌, List, ℕ, length, take, drop, ap, arith, length-drop, refl}
use Rattle.std.specs.Int.{w32, from_be_bytes}
use Rattle.standby.proofs.Fronts.{begins-cut, begins-with, packet-long, to-the-end, told-size}
use Rattle.standby.proofs.packet.first_packet.Goals as goal

pub returns-then-bytes-lt8-clause-none : goal.returns-then-bytes-lt8-clause-none
returns-then-bytes-lt8-clause-none c = λ number r rest b.
    omega (arith, packet-long c.args.bytes.now number r rest b, c.if-bytes-lt8.true)

pub returns-then-after-size-clause-none : goal.returns-then-after-size-clause-none
returns-then-after-size-clause-none c = λ number r rest b.
    let bytes = c.args.bytes.now in
    let size : c.number_in_front-size.result ≡ length r =
    c.number_in_front-size.ensures ∙ ap (λ (l : List ℕ). from_be_bytes w32 (take 4 l)) (to-the-end 4 bytes) ∙ told-size bytes number r rest b in
    omega (arith, packet-long bytes number r rest b, size, c.if-after-size.true, ap length (to-the-end 8 bytes), length-drop 8 bytes)

pub returns-clause-found : goal.returns-clause-found
returns-clause-found c =
    let bytes = c.args.bytes.now in
    let size = c.number_in_front-size.result in
    let after = take (length bytes - 8) (drop 8 bytes) in
    let second : size ≡ from_be_bytes w32 (take 4 (drop 4 bytes)) =
    c.number_in_front-size.ensures ∙ ap (λ (l : List ℕ). from_be_bytes w32 (take 4 l)) (to-the-end 4 bytes) in
    begins-cut bytes after (take size after) (take (length after - size) (drop size after)) c.number_in_front-number.result size (to-the-end 8 bytes) refl (to-the-end size after)
    (begins-with bytes c.number_in_front-number.result size (λ i. (c.type_inv.bytes i).fits) c.number_in_front-number.ensures second
    (omega arith) (omega arith) (omega (arith, c.if-bytes-lt8.false)) (omega (arith, c.if-after-size.false, ap length (to-the-end 8 bytes))))
