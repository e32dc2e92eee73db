use Rattle.std.proofs.Common.{◌<◌, sym, subst, arith, inl, inr}
use Rattle.std.specs.Prelude.{IsTrue}
use Rattle.std.proofs.lemmas.Bool.{cases_lt}
use Rattle.corr_disk.specs.Calls.{AtMostCalls}
use Rattle.corr_disk.specs.Disk.{LeavesOnly, Only}
use Rattle.day_model.specs.Changes.{most_changes}
use Rattle.day_model.specs.Chart.{with_change}
use Rattle.jrn_file.specs.File.{disk_of}
use Rattle.jrn_codec.specs.Header.{head_bytes}
use Rattle.jrn_book.specs.Journal.{IsBeforeOrChanged, StandsForBook, item_records}
use Rattle.jrn_book.proofs.Changed.{few_changes, journal_changed, moments_changed, stands_changed}
use Rattle.std.specs.Prelude.{length}
use Rattle.jrn_book.proofs.changing.enter.Goals as goal

pub returns-in-Ok-clause-changed : goal.returns-in-Ok-clause-changed
returns-in-Ok-clause-changed g c =
    let chart = c.args.past.now.accounts in
    let h = c.args.past.now.history in
    let less : c.args.file.end < most_changes = elim (cases_lt c.args.file.end most_changes) [
      | inl lt ↦ lt
      | inr ge ↦ let full = c.in-Ok.ensures.full.1 (omega (arith, ge)) in absurd (cc (full))
    ] in
    journal_changed chart h c.args.what.now c.history.ensures.journal c.requires.written.0 c.requires.legal
    (few_changes chart h c.args.file.end c.history.ensures.legal c.requires.settled.place less)

pub returns-in-Ok-clause-stands : goal.returns-in-Ok-clause-stands
returns-in-Ok-clause-stands g c =
    let d = g.D.Disk in
    let chart = c.args.past.now.accounts in
    let h = c.args.past.now.history in
    let what = c.args.what.now in
    let settled = c.in-Ok.ensures.ok (head_bytes chart) (item_records chart h) c.requires.settled in
    subst
    (λ x. IsTrue (d.honest x) → StandsForBook (d.reads x) (with_change chart (length h) what) h × Only (d.reads x) (d.may_leave x)) (sym c.into_disk.ensures)
    (λ told. stands_changed d.honest d.reads d.may_leave d.moment d.left_since chart h what c.args.frame.now c.append.new.self c.requires.frame settled told)

pub returns-in-Ok-clause-any_moment : goal.returns-in-Ok-clause-any_moment
returns-in-Ok-clause-any_moment g c = λ told.
    let d = g.D.Disk in
    let chart = c.args.past.now.accounts in
    let h = c.args.past.now.history in
    let what = c.args.what.now in
    subst (λ x. LeavesOnly d.moment d.left_since (disk_of c.args.file) x (IsBeforeOrChanged chart h what)) (sym c.into_disk.ensures)
    (moments_changed d.honest d.reads d.may_leave d.moment d.left_since chart h what c.args.frame.now (disk_of c.args.file) (disk_of c.append.new.self) c.requires.frame
    (c.in-Ok.ensures.any_moment (head_bytes chart) (item_records chart h) c.requires.settled told))

pub returns-in-Err-DiskFault-clause-any_moment : goal.returns-in-Err-DiskFault-clause-any_moment
returns-in-Err-DiskFault-clause-any_moment g c = λ told.
    let d = g.D.Disk in
    let chart = c.args.past.now.accounts in
    let h = c.args.past.now.history in
    let what = c.args.what.now in
    subst (λ x. LeavesOnly d.moment d.left_since (disk_of c.args.file) x (IsBeforeOrChanged chart h what)) (sym c.into_disk-in-Err-DiskFault.ensures)
    (moments_changed d.honest d.reads d.may_leave d.moment d.left_since chart h what c.args.frame.now (disk_of c.args.file) (disk_of c.append.new.self) c.requires.frame
    (c.in-Err-DiskFault.ensures.any_moment (head_bytes chart) (item_records chart h) c.requires.settled told))

pub returns-in-Err-DiskFault-clause-no_more_calls : goal.returns-in-Err-DiskFault-clause-no_more_calls
returns-in-Err-DiskFault-clause-no_more_calls g c =
    let d = g.D.Disk in
    subst (λ x. AtMostCalls 4 (d.plan (disk_of c.args.file)) (d.plan x)) (sym c.into_disk-in-Err-DiskFault.ensures) c.in-Err-DiskFault.ensures.no_more_calls
