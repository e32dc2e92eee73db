use Rattle.std.proofs.Common.{◌≡◌, ◌∙◌, ap}
use Rattle.ssi_versions.specs.Index.{key_by_bank, places_under}
use Rattle.ssi_versions.proofs.ssi.Ssi.places.Goals as goal

noted : (c : goal.After-places_of) → c.places_of.result.now ≡ places_under c.self.inside.groups.entries (key_by_bank c.args.ccy.0 c.args.bank.now)
noted c = c.places_of.ensures ∙ ap (places_under c.self.inside.groups.entries) c.key.ensures

pub returns-clause-all : goal.returns-clause-all
returns-clause-all c =
    let rows : c.self.inside.rows.items ≡ c.args.self.now = c.self.view_is in
    rw (noted c, ← rows) (c.self.invariant.index (key_by_bank c.args.ccy.0 c.args.bank.now))

pub returns-clause-order : goal.returns-clause-order
returns-clause-order c =
    let rows : c.self.inside.rows.items ≡ c.args.self.now = c.self.view_is in
    rw (noted c, ← rows) (c.self.invariant.order (key_by_bank c.args.ccy.0 c.args.bank.now))
