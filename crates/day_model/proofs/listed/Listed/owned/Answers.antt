use Rattle.std.proofs.Common.{ap, ◌∙◌}
use Rattle.std.specs.List.{position_from}
use Rattle.day_model.specs.Chart.{is_owned}
use Rattle.std.specs.Map.{lookup}
use Rattle.day_model.specs.declared.listed.Index.{Index}
use Rattle.day_model.specs.declared.listed.Owner.{Owner}
use Rattle.day_model.specs.inner.Listed.{is_owner}
use Rattle.day_model.proofs.listed.Listed.owned.Goals as goal

pub returns : goal.returns
returns c =
    let owner : Owner = record { kind = c.args.kind; head = c.args.head.now; ccy = c.args.ccy.0; decimals = c.args.decimals } in
    c.copied.ensures ∙ c.get.ensures.value ∙ ap (λ (x : Index). lookup (is_owner owner) x.owners.entries) c.as_ref.ensures ∙ c.self.invariant.by_owner owner ∙ ap (position_from (is_owned c.args.kind c.args.head.now c.args.ccy c.args.decimals) 0) c.self.view_is
