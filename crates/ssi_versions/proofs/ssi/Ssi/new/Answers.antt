use Rattle.std.proofs.lemmas.List.Elements.{All-nil}
use Rattle.ssi_versions.specs.InstructionList.{IsInForm}
use Rattle.ssi_versions.proofs.Places.{index_none, order_none}
use Rattle.ssi_versions.proofs.ssi.Ssi.new.Goals as goal

pub invariant_of-result : goal.invariant_of-result
invariant_of-result c = rw c.new.ensures.items (record { form = All-nil IsInForm; index = λ key. index_none _ c.new-2.ensures.empty key; order = λ key. order_none _ c.new-2.ensures.empty key })
