use Rattle.std.proofs.Common.{◌∙◌, ◌≤◌, List, ℕ, length, subst, sym}
use Rattle.jrn_codec.proofs.laws.Records.{few_in_head}
use Rattle.corr_top.specs.Trial.{sample_chart}
use Rattle.corr_top.proofs.Initial.{new_journal}
use Rattle.corr_top.proofs.Sampling.{made_new}
use Rattle.corr_top.proofs.trial.sample_disk.Goals as goal

pub make-disk-requires : goal.make-disk-requires
make-disk-requires c = subst (λ (h : List ℕ). length h ≤ 1048576) (sym c.in_ok-head.ensures.0) (few_in_head sample_chart c.in_ok-head.ensures.1)

pub returns-in-Ok-clause-new : goal.returns-in-Ok-clause-new
returns-in-Ok-clause-new c =
    made_new _ c.new-empty.result c.make-disk.result.0 c.in_ok-head.head c.make-disk.result.1 c.in-Ok.is c.make-disk.ensures.made c.in_ok-head.ensures.1.unchanged c.in_ok-head.ensures.0
    (c.make-disk.ensures.honest ∙ c.new-empty.ensures.honest) c.new-empty.ensures.faults

pub returns-in-Ok-clause-journal : goal.returns-in-Ok-clause-journal
returns-in-Ok-clause-journal c = new_journal sample_chart c.in_ok-head.ensures.1
