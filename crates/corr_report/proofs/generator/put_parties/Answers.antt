use Rattle.std.proofs.Common.{◌≡◌, ℕ, List, [], ◌∷◌, ◌++◌, append_assoc, ◌∙◌}
use Rattle.std.specs.Prelude.{codes}
use Rattle.corr_report.specs.Generated.{generated_bank, with_line_end, generated_parties, generated_payee}
use Rattle.corr_report.proofs.generator.put_parties.Goals as goal

regroup : (old a bank b payee e d : List ℕ) → old ++ a ++ bank ++ b ++ payee ++ (e ++ d) ≡ old ++ (a ++ bank ++ (b ++ payee ++ e) ++ d)
regroup old a bank b payee e d = simp append_assoc

pub returns : goal.returns
unfolding generated_parties
returns c =
    c.in_ok-push-5.ensures.ok
    ∙ rw (c.in_ok-push-4.ensures.ok, c.payee_of.ensures, c.in_ok-push-3.ensures.ok, c.in_ok-push-2.ensures.ok, c.bank_of.ensures, c.in_ok-push.ensures.ok)
    (regroup c.args.out.now (with_line_end (codes ":50K:A PAYER")) (generated_bank c.args.kind) (codes ":59:/") (generated_payee c.args.kind) (13 ∷ 10 ∷ []) (with_line_end (codes "A PAYEE") ++ with_line_end (codes ":71A:SHA")))
