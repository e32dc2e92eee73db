use Rattle.std.proofs.Common.{◌≡◌, Some, None, sym, ap, ◌∙◌}
use Rattle.std.specs.Str.{bytes_eq}
use Rattle.std.specs.List.{position_from}
use Rattle.day_model.proofs.laws.Places.{one-Some, one-None}
use Rattle.jrn_book.specs.Index.{References}
use Rattle.jrn_book.proofs.Places.{from_zero}
use Rattle.jrn_book.proofs.index.Index.place.Goals as goal

pub returns-in_err-at : goal.returns-in_err-at
returns-in_err-at c =
    let test = bytes_eq c.args.mir.now.0 in
    let found : position_from test 0 c.self.inside.references.keys ≡ None = from_zero test c.self.inside.references.keys ∙ sym c.get_index_of.ensures.index ∙ c.in_err-at.was in
    c.from_residual.ensures ∙ sym (one-None test c.self.inside.references.keys found) ∙ ap (λ (x : References). position_from test 1 x.references) c.self.view_is

pub returns : goal.returns
returns c =
    let test = bytes_eq c.args.mir.now.0 in
    let found : position_from test 0 c.self.inside.references.keys ≡ Some c.in_ok-at.at = from_zero test c.self.inside.references.keys ∙ sym c.get_index_of.ensures.index ∙ c.in_ok-at.was in
    sym (one-Some test c.in_ok-at.at c.self.inside.references.keys found) ∙ ap (λ (x : References). position_from test 1 x.references) c.self.view_is
