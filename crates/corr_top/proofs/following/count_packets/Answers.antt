use Rattle.std.proofs.Common.{◌∷◌, ◌++◌, ◌∙◌, [], List, ℕ, arith, ap, append_assoc, length, length-append, refl, sym}
use Rattle.standby.specs.declared.packet.Packet.{Packet}
use Rattle.corr_top.specs.Followed.{packet_bytes}
use Rattle.corr_top.proofs.FollowedDisk.{none_cut, one_behind}
use Rattle.corr_top.proofs.following.count_packets.Goals as goal

pub loop-after-init : goal.loop-after-init
loop-after-init c = ([], [], refl, none_cut, refl, omega arith)

pub loop-after-preserved : goal.loop-after-preserved
loop-after-preserved c =
    let so_far = c.loop-after.invariant in
    let found = c.in-Some.ensures.found in
    let p : Packet = record { number = c.in-Some.field-0-0; body = c.in-Some.field-0-1.now } in
    let rest : List ℕ = c.in-Some.after.now in (
      so_far.0 ++ packet_bytes p,
      so_far.1 ++ p ∷ [],
      so_far.2 ∙ ap (λ (l : List ℕ). so_far.0 ++ l) found.is ∙ sym (append_assoc so_far.0 (packet_bytes p) rest),
      one_behind so_far.0 so_far.1 p so_far.3 (record { few = found.few; short = found.short }),
      omega (arith, so_far.4, length-append so_far.1 (p ∷ [])),
      omega (arith, so_far.5, ap length found.is, length-append (packet_bytes p) rest),
    )
