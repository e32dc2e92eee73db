use Rattle.std.proofs.Common.{inl, inr, refl}
use Rattle.std.proofs.lemmas.Result.{err_from_is_err_and}
use Rattle.ref_tables.specs.declared.fault.TableName.TheVariants as names
use Rattle.ref_tables.specs.Charges.{charges_fault}
use Rattle.ref_tables.specs.Refusals.{named}
use Rattle.ref_tables.specs.Seen.{Tables}
use Rattle.ssi_versions.specs.Rows.{ssi_fault}
use Rattle.corr_top.proofs.TableFiles.{directory_after, directory_read, directory_stopped, fine_from, fine_under, same_directory, stops_from, stops_under}
use Rattle.corr_top.proofs.directory.read_directory.Goals as goal

pub returns-in_err-tables-clause-stopped : goal.returns-in_err-tables-clause-stopped
returns-in_err-tables-clause-stopped g c =
    let p = err_from_is_err_and c.from_residual.result c.from_residual.ensures.1 in
    rw (p.1, p.2) (directory_after g.S.Source c.args.files.now c.read_known.new.files c.in_err-tables.field-0.0 c.in_err-tables.ensures.stopped)

pub returns-in_err-ssi-clause-stopped : goal.returns-in_err-ssi-clause-stopped
returns-in_err-ssi-clause-stopped g c =
    let p = err_from_is_err_and c.from_residual-in_err-ssi.result c.from_residual-in_err-ssi.ensures.1 in
    let known = c.in_ok-tables.ensures.fine in
    let q = c.in_err-ssi.ensures.stopped in
    let stops = stops_from _ _ _ c.args.files.now.ssi q.0 _ _ known.ssi (stops_under _ _ _ q.0 _ (λ (t : Tables). named names.Ssi (ssi_fault t q.0)) _ _ known.known_is q.1) in
    rw (p.1, p.2) (directory_stopped _ _ _ (record known.inputs { ssi = q.0 }) _ known.passed known.accounts (inl ((c.in_err-ssi.field-0.0, refl, stops), (known.charges, tt))))

pub returns-in_err-charges-clause-stopped : goal.returns-in_err-charges-clause-stopped
returns-in_err-charges-clause-stopped g c =
    let p = err_from_is_err_and c.from_residual-in_err-charges.result c.from_residual-in_err-charges.ensures.1 in
    let known = c.in_ok-tables.ensures.fine in
    let rows = c.in_ok-ssi.ensures.fine in
    let q = c.in_err-charges.ensures.stopped in
    let fine = fine_from _ _ _ c.args.files.now.ssi rows.0 _ known.ssi (fine_under _ _ _ rows.0 (λ (t : Tables). named names.Ssi (ssi_fault t rows.0)) _ _ known.known_is rows.1) in
    let stops = stops_from _ _ _ c.args.files.now.charges q.0 _ _ known.charges (stops_under _ _ _ q.0 _ (λ (t : Tables). named names.Charges (charges_fault t q.0)) _ _ known.known_is q.1) in
    rw (p.1, p.2) (directory_stopped _ _ _ (record known.inputs { ssi = rows.0; charges = q.0 }) _ known.passed known.accounts (inr (fine, inl ((c.in_err-charges.field-0.0, refl, stops), tt))))

pub returns-clause-fine : goal.returns-clause-fine
returns-clause-fine g c =
    let known = c.in_ok-tables.ensures.fine in
    let rows = c.in_ok-ssi.ensures.fine in
    let q = c.in_ok-charges.ensures.fine in
    let instructed = fine_from _ _ _ c.args.files.now.ssi rows.0 _ known.ssi (fine_under _ _ _ rows.0 (λ (t : Tables). named names.Ssi (ssi_fault t rows.0)) _ _ known.known_is rows.1) in
    let charged = fine_from _ _ _ c.args.files.now.charges q.0 _ known.charges (fine_under _ _ _ q.0 (λ (t : Tables). named names.Charges (charges_fault t q.0)) _ _ known.known_is q.1) in
    let i = record known.inputs { ssi = rows.0; charges = q.0 } in
    directory_read _ _ _ i _ known.passed (instructed, (charged, tt)) (same_directory i _ _ _ known.known_is rows.2 q.2) known.accounts
