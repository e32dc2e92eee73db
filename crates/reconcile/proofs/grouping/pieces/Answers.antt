use Rattle.std.proofs.Common.{◌++◌, ◌∷◌, [], List, ap, append_assoc, sym, ◌∙◌}
use Rattle.mt950.specs.declared.page.Page950.{Page950}
use Rattle.reconcile.proofs.grouping.pieces.Goals as goal

pub add-requires-clause-so_far : goal.add-requires-clause-so_far
add-requires-clause-so_far c = (c.loop-page.yielded, c.loop-page.invariant.gathers)

pub loop-page-preserved : goal.loop-page-preserved
loop-page-preserved c =
    let so_far = c.loop-page.yielded in
    record {
      gathers = c.in_ok-add.ensures so_far c.loop-page.invariant.gathers;
      all =
          append_assoc so_far (c.in-Some.page ∷ []) c.next.new.self.rest.items ∙ ap (λ (pages : List Page950). so_far ++ pages) (sym c.in-Some.ensures.steps.0)
          ∙ c.loop-page.invariant.all;
    }
