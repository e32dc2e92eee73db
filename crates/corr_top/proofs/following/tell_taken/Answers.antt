use Rattle.std.proofs.Common.{◌≡◌, ◌∙◌, ℕ, List, ap, inl, inr, length, refl, subst, sym}
use Rattle.std.proofs.lemmas.Result.{err_from_is_err_and}
use Rattle.standby.specs.Held.{records_of}
use Rattle.standby.specs.Shipping.{shipped}
use Rattle.corr_top.specs.declared.cutting.FileStop.TheVariants as file
use Rattle.corr_top.specs.Followed.{ArePackets, EndsWithin, HasPackets, follow_line, followed}
use Rattle.corr_top.proofs.Journals.{same_unwritten}
use Rattle.corr_top.proofs.following.tell_taken.Goals as goal

-- the file was not read
pub returns-in_err-file-clause-gives : goal.returns-in_err-file-clause-gives
returns-in_err-file-clause-gives g c =
    let p = err_from_is_err_and c.from_residual.result c.from_residual.ensures.1 in
    let stopped = c.in_err-file.ensures.stopped in
    rw (p.1, p.2) (inl (c.in_err-file.field-0.0, stopped.0, refl, stopped.1, refl, same_unwritten g.D.Disk g.met.D.Disk.only_now _ _ refl))

-- it isn't packets to its end
pub returns-in-Err-clause-gives : goal.returns-in-Err-clause-gives
returns-in-Err-clause-gives g c = inl (
  file.Framing c.in-Err.at,
  c.in_ok-file.file,
  refl,
  (c.in_ok-file.ensures.read, subst (λ (l : List ℕ). EndsWithin l c.in-Err.at) c.bytes.ensures c.in-Err.ensures.within),
  refl,
  same_unwritten g.D.Disk g.met.D.Disk.only_now _ _ refl,
)

-- memory ran out behind the last packet
pub returns-in_err-texts-clause-gives : goal.returns-in_err-texts-clause-gives
returns-in_err-texts-clause-gives g c =
    let p = err_from_is_err_and c.from_residual-in_err-texts.result c.from_residual-in_err-texts.ensures.1 in
    let packets = c.in-Ok.ensures.are.0 in
    let are = subst (λ (l : List ℕ). ArePackets l packets) c.bytes.ensures c.in-Ok.ensures.are.1 in
    let had : HasPackets g.S.Source c.args.source.now c.read_packets.new.source c.in_ok-file.file packets = record { file = c.in_ok-file.ensures.read; are = are } in
    let taken = c.in_default.ensures.gives packets (subst (λ (l : List ℕ). ArePackets l packets) (sym c.bytes-2.ensures) are) in
    rw (p.1, p.2) (inr (c.in_ok-file.file, packets, had, inr (taken, refl)))

pub returns-clause-gives : goal.returns-clause-gives
returns-clause-gives g c =
    let packets = c.in-Ok.ensures.are.0 in
    let are = subst (λ (l : List ℕ). ArePackets l packets) c.bytes.ensures c.in-Ok.ensures.are.1 in
    let had : HasPackets g.S.Source c.args.source.now c.read_packets.new.source c.in_ok-file.file packets = record { file = c.in_ok-file.ensures.read; are = are } in
    let again = subst (λ (l : List ℕ). ArePackets l packets) (sym c.bytes-2.ensures) are in
    let taken = c.in_default.ensures.gives packets again in
    let held = c.args.follower.now.held in
    let after = c.take_packets.new.follower.held in
    let have : c.have-have.result ≡ length (shipped (records_of held) packets) = c.have-have.ensures ∙ ap (λ (l : List (List ℕ)). length l) (c.in_default.ensures.ships packets again) in
    let said : follow_line c.in-Ok.packets c.have-before.result c.have-have.result ≡ followed held packets =
    λ i. follow_line (c.in-Ok.ensures.are.2 i) (c.have-before.ensures i) (have i) in
    let texts = c.in_ok-texts.ensures in
    (c.in_ok-file.file, packets, had, taken, texts.0 ∙ said, texts.1)
