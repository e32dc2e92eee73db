use Rattle.std.proofs.Common.{◌≡◌, ℕ, List, [], subst, arith}
use Rattle.std.proofs.lemmas.Bool.Decides.{nat_tests}
use Rattle.std.proofs.lemmas.List.{nil_from_length}
use Rattle.corr_text.specs.Lines.{lines_of}
use Rattle.fin_fields.proofs.CutSoFar.{CutSoFar, cut-all}
use Rattle.fin_fields.proofs.cutting.group_lines.Goals as goal

pub returns-clause-fields : goal.returns-clause-fields
returns-clause-fields c =
    let none : c.loop-rest.rest.now ≡ [] = nil_from_length c.loop-rest.rest.now (grind (arith, nat_tests, c.is_empty.ensures, c.loop-rest-test.false)) in
    cut-all (subst (λ (rest : List ℕ). CutSoFar (lines_of c.args.text.now) (lines_of rest) c.args.first c.loop-rest.fields c.loop-rest.number c.loop-rest.plain c.args.plain) none c.loop-rest.invariant)
