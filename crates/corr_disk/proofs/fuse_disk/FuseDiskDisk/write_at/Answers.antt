use Rattle.std.proofs.Common.{◌≡◌, ◌∷◌, Some, refl, ◌∙◌, ap, length, arith, ◌≤◌}
use Rattle.corr_disk.specs.Past.{DiskStep}
use Rattle.corr_disk.specs.inner.Past.{History}
use Rattle.corr_disk.proofs.Steps.{write-crash, part_is_torn}
use Rattle.corr_disk.proofs.fuse_disk.FuseDiskDisk.write_at.Goals as goal

pub returns-in-Ok-clause-elsewhere : goal.returns-in-Ok-clause-elsewhere
returns-in-Ok-clause-elsewhere c honest =
    let past : c.begin.new.self.past ≡ c.args.self.now.disk.past = c.in_ok-begin.ensures.past in
    let first : c.write.new.self.disk.past.first ≡ c.args.self.now.disk.past.first = c.in-Ok.ensures.first ∙ ap (λ (p : History). p.first) past in
    let step : DiskStep = Some (c.args.at, c.args.bytes.now) in
    let steps : c.write.new.self.disk.past.steps ≡ step ∷ c.args.self.now.disk.past.steps = c.in-Ok.ensures.ok ∙ ap (λ (p : History). step ∷ p.steps) past in
    let size = length c.args.bytes.now in
    let whole : size ≤ size = omega arith in
    rw (first, steps) (part_is_torn c.args.at size c.args.bytes.now _ (c.requires.no_gap honest) whole)

pub returns-in-Ok-clause-crash : goal.returns-in-Ok-clause-crash
returns-in-Ok-clause-crash c =
    let past : c.begin.new.self.past ≡ c.args.self.now.disk.past = c.in_ok-begin.ensures.past in
    let first : c.write.new.self.disk.past.first ≡ c.args.self.now.disk.past.first = c.in-Ok.ensures.first ∙ ap (λ (p : History). p.first) past in
    let step : DiskStep = Some (c.args.at, c.args.bytes.now) in
    let steps : c.write.new.self.disk.past.steps ≡ step ∷ c.args.self.now.disk.past.steps = c.in-Ok.ensures.ok ∙ ap (λ (p : History). step ∷ p.steps) past in
    rw (first, steps) (write-crash _ _ c.args.at c.args.bytes.now (c.requires.no_gap refl))
