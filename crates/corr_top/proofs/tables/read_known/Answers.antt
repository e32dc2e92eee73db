use Rattle.std.proofs.Common.{inl, inr, refl, ap, ◌∙◌}
use Rattle.std.proofs.lemmas.Result.{err_from_is_err_and}
use Rattle.corr_top.proofs.Outcomes.{err_as, ok_as}
use Rattle.corr_top.proofs.TableFiles.{no_inputs, with_ccys, with_countries}
use Rattle.corr_top.proofs.tables.read_known.Goals as goal

pub returns-in_err-banks-clause-stopped : goal.returns-in_err-banks-clause-stopped
returns-in_err-banks-clause-stopped g c =
    let p = err_from_is_err_and c.from_residual.result c.from_residual.ensures.1 in
    let q = c.in_err-banks.ensures.stopped in
    rw (p.1, p.2) (record {
      at = record { inputs = record no_inputs { bics = q.0 }; halted = inl ((c.in_err-banks.field-0.0, refl, q.1), (refl, (refl, tt))) };
      accounts = refl;
      ssi = refl;
      charges = refl;
    })

pub returns-in_err-with_ccys-clause-stopped : goal.returns-in_err-with_ccys-clause-stopped
returns-in_err-with_ccys-clause-stopped g c =
    let p = err_from_is_err_and c.from_residual-in_err-with_ccys.result c.from_residual-in_err-with_ccys.ensures.1 in
    let first = c.in_ok-banks.ensures.fine in
    let q = c.in_err-with_ccys.ensures.stopped in
    rw (p.1, p.2) (record {
      at = record { inputs = record no_inputs { bics = first.0; ccys = q.0 }; halted = inr (first.1, inl ((c.in_err-with_ccys.field-0.0, refl, q.1), (refl, tt))) };
      accounts = refl;
      ssi = refl;
      charges = refl;
    })

pub returns-clause-fine : goal.returns-clause-fine
returns-clause-fine g c =
    let first = c.in_ok-banks.ensures.fine in
    let second = c.in_ok-with_ccys.ensures.fine in
    ok_as _ _ c.read_countries.result (λ known q. record {
      inputs = record no_inputs { bics = first.0; ccys = second.0; countries = q.0 };
      passed = (first.1, (second.1, (q.1, tt)));
      known_is = q.2 ∙ ap (with_countries q.0) (second.2 ∙ ap (with_ccys second.0) first.2);
      accounts = refl;
      ssi = refl;
      charges = refl;
    }) c.read_countries.ensures.fine

pub returns-clause-stopped : goal.returns-clause-stopped
returns-clause-stopped g c =
    let first = c.in_ok-banks.ensures.fine in
    let second = c.in_ok-with_ccys.ensures.fine in
    err_as _ _ c.read_countries.result (λ stop q. record {
      at = record {
        inputs = record no_inputs { bics = first.0; ccys = second.0; countries = q.0 };
        halted = inr (first.1, inr (second.1, inl ((stop, refl, q.1), tt)));
      };
      accounts = refl;
      ssi = refl;
      charges = refl;
    }) c.read_countries.ensures.stopped
