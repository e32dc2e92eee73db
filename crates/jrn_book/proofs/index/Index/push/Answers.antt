use Rattle.std.proofs.Common.{◌≡◌, ◌++◌, [], ◌∷◌, false, cond, List, ℕ, sym, ap, ◌∙◌}
use Rattle.std.specs.Str.{bytes_eq}
use Rattle.std.specs.List.{list_any}
use Rattle.jrn_book.proofs.Places.{none_passes}
use Rattle.jrn_book.specs.Index.{References}
use Rattle.jrn_book.proofs.index.Index.push.Goals as goal

pub returns-clause-ok : goal.returns-clause-ok
returns-clause-ok c =
    let mir = c.args.mir.now.0 in
    let old = c.self.inside.references.keys in
    let absent : list_any (bytes_eq mir) c.args.self.now.references ≡ false = none_passes (bytes_eq mir) 1 c.args.self.now.references c.requires.new in
    let same : c.args.self.now.references ≡ old = sym (ap (λ (x : References). x.references) c.self.view_is) in
    c.in_ok-insert.ensures.keys
    ∙ ap (λ (ks : List (List ℕ)). cond (list_any (bytes_eq mir) ks) ks (ks ++ mir ∷ [])) (sym same)
    ∙ ap (λ b. cond b c.args.self.now.references (c.args.self.now.references ++ mir ∷ [])) absent
