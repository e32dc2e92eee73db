use Rattle.std.proofs.Common.{◌≡◌, ℕ, List, Bor, true, Some, refl, sym}
use Rattle.std.specs.Prelude.{codes, option_map}
use Rattle.std.proofs.lemmas.List.{take_rest}
use Rattle.std.proofs.lemmas.Bool.Decides.{nat_tests}
use Rattle.std.proofs.Common.{arith}
use Rattle.fin_blocks.specs.Forms.{tagged_of, is_tagged, inside}
use Rattle.fin_blocks.proofs.forms.read_tagged.Goals as goal

pub returns-clause-value : goal.returns-clause-value
unfolding tagged_of
returns-clause-value c =
    let held : inside (codes "{") (option_map (λ (b : Bor (List ℕ)). b.now) c.args.group) ≡ Some c.in_ok-b.b.now = sym c.in_ok-b.ensures in
    let form : is_tagged c.in_ok-b.b.now ≡ true = grind (arith, nat_tests) in
    rw (take_rest c.in_ok-b.b.now 4, held, form) refl
