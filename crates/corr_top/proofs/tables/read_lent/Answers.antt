use Rattle.std.proofs.Common.{inl, inr, refl, ap, ◌∙◌}
use Rattle.std.proofs.lemmas.Result.{err_from_is_err_and}
use Rattle.corr_top.proofs.Outcomes.{err_as, ok_as}
use Rattle.corr_top.proofs.TableFiles.{no_inputs, with_ccys}
use Rattle.corr_top.proofs.tables.read_lent.Goals as goal

pub returns-in_err-banks-clause-stopped : goal.returns-in_err-banks-clause-stopped
returns-in_err-banks-clause-stopped g c =
    let p = err_from_is_err_and c.from_residual.result c.from_residual.ensures.1 in
    let q = c.in_err-banks.ensures.stopped in
    rw (p.1, p.2) (record {
      at = record { inputs = record no_inputs { bics = q.0 }; halted = inl ((c.in_err-banks.field-0.0, refl, q.1), (refl, tt)) };
      rest = record { countries = refl; accounts = refl; ssi = refl; charges = refl };
    })

pub returns-clause-fine : goal.returns-clause-fine
returns-clause-fine g c =
    let first = c.in_ok-banks.ensures.fine in
    ok_as _ _ c.read_ccys.result (λ known q. record {
      inputs = record no_inputs { bics = first.0; ccys = q.0 };
      passed = (first.1, (q.1, tt));
      known_is = q.2 ∙ ap (with_ccys q.0) first.2;
      rest = record { countries = refl; accounts = refl; ssi = refl; charges = refl };
    }) c.read_ccys.ensures.fine

pub returns-clause-stopped : goal.returns-clause-stopped
returns-clause-stopped g c =
    let first = c.in_ok-banks.ensures.fine in
    err_as _ _ c.read_ccys.result (λ stop q. record {
      at = record {
        inputs = record no_inputs { bics = first.0; ccys = q.0 };
        halted = inr (first.1, inl ((stop, refl, q.1), tt));
      };
      rest = record { countries = refl; accounts = refl; ssi = refl; charges = refl };
    }) c.read_ccys.ensures.stopped
