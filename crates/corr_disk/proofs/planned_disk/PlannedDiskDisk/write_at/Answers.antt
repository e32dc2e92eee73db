use Rattle.std.proofs.Common.{◌≡◌, ◌∷◌, Some, refl, ◌∙◌, ap}
use Rattle.corr_disk.specs.Past.{DiskStep}
use Rattle.corr_disk.specs.inner.Past.{History}
use Rattle.corr_disk.proofs.Steps.{write-crash}
use Rattle.corr_disk.proofs.planned_disk.PlannedDiskDisk.write_at.Goals as goal

pub returns-in-Ok-clause-crash : goal.returns-in-Ok-clause-crash
returns-in-Ok-clause-crash c =
    let past : c.begin.new.self.past ≡ c.args.self.now.past = c.in_ok-begin.ensures.past in
    let first : c.write.new.self.first ≡ c.args.self.now.past.first = c.in-Ok.ensures.first ∙ ap (λ (p : History). p.first) past in
    let step : DiskStep = Some (c.args.at, c.args.bytes.now) in
    let steps : c.write.new.self.steps ≡ step ∷ c.args.self.now.past.steps = c.in-Ok.ensures.ok ∙ ap (λ (p : History). step ∷ p.steps) past in
    rw (first, steps) (write-crash _ _ c.args.at c.args.bytes.now (c.requires.no_gap refl))
