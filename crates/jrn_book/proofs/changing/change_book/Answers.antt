use Rattle.std.proofs.Common.{◌≡◌, ◌∙◌, ℕ, ◌+◌, List, sym, subst, length, arith}
use Rattle.std.proofs.lemmas.Result.{IfOk-weaker}
use Rattle.std.specs.Prelude.{IfOk, IsTrue}
use Rattle.corr_disk.specs.Calls.{CallsMade}
use Rattle.corr_disk.specs.Disk.{LeavesOnly, Only}
use Rattle.corr_disk.proofs.laws.Counted.{calls_in_turn, calls_then}
use Rattle.corr_disk.proofs.laws.Moments.{then_on}
use Rattle.day_model.specs.declared.entry.Entry.{Entry}
use Rattle.day_model.specs.Chart.{Chart, with_change}
use Rattle.jrn_file.specs.File.{disk_of, end_of}
use Rattle.jrn_file.specs.Pieces.{calls_to_open, piece_size}
use Rattle.jrn_file.specs.Reading.{opened_of}
use Rattle.jrn_book.specs.Batches.{gate_of}
use Rattle.jrn_book.specs.Changing.{calls_to_change, disk_left, fault_in}
use Rattle.jrn_book.specs.Journal.{IsBeforeOrChanged, IsJournal, StandsForBook}
use Rattle.jrn_book.specs.Opening.{book}
use Rattle.jrn_book.proofs.Changed.{both_ok, calls_by_answer, same_book, still_leaves, tells_book}
use Rattle.jrn_book.proofs.changing.change_book.Goals as goal

pub returns-in-Ok-clause-changed : goal.returns-in-Ok-clause-changed
returns-in-Ok-clause-changed g c = λ honest chart history found.
    let d = g.D.Disk in
    let what = c.args.what.now in
    let past = c.in-Ok.past in
    let one = same_book past.accounts chart past.history history (c.in-Ok.ensures.only honest (book chart history) found) in
    let told = subst IsTrue (sym (c.change_opened.ensures.honest ∙ c.in-Ok.ensures.honest)) honest in
    subst
    (λ (x : Chart × List Entry). IfOk c.change_opened.result
    (λ new. IsJournal (with_change x.0 (length x.1) what) x.1 × StandsForBook (d.reads new) (with_change x.0 (length x.1) what) x.1 × Only (d.reads new) (d.may_leave new)))
    (λ i. (one.0 i, one.1 i))
    (both_ok c.change_opened.result (IsJournal (with_change past.accounts (length past.history) what) past.history)
    (λ new. StandsForBook (d.reads new) (with_change past.accounts (length past.history) what) past.history) (λ new. Only (d.reads new) (d.may_leave new)) d.honest
    c.change_opened.ensures.changed c.change_opened.ensures.stands told)

pub returns-in-Ok-clause-any_moment : goal.returns-in-Ok-clause-any_moment
returns-in-Ok-clause-any_moment g c = λ honest chart history found stands.
    let d = g.D.Disk in
    let what = c.args.what.now in
    let past = c.in-Ok.past in
    let opened = disk_of c.in-Ok.file in
    let one = same_book past.accounts chart past.history history (c.in-Ok.ensures.only honest (book chart history) found) in
    let first = still_leaves d.honest d.reads d.may_leave d.moment d.left_since chart history what c.args.disk opened stands c.in-Ok.ensures.untouched.any_moment in
    let second = subst (λ (x : Chart × List Entry). LeavesOnly d.moment d.left_since opened (disk_left c.change_opened.result) (IsBeforeOrChanged x.0 x.1 what))
    (λ i. (one.0 i, one.1 i)) (c.change_opened.ensures.any_moment (subst IsTrue (sym c.in-Ok.ensures.honest) honest)) in
    then_on d.moment d.left_since c.args.disk opened (disk_left c.change_opened.result) (IsBeforeOrChanged chart history what) first second

pub returns-in-Ok-clause-told : goal.returns-in-Ok-clause-told
returns-in-Ok-clause-told g c = λ honest.
    let d = g.D.Disk in
    let past = c.in-Ok.past in
    tells_book (opened_of (d.reads c.args.disk)) past.accounts past.history c.args.what.now (end_of c.in-Ok.file) (d.faults (disk_of c.in-Ok.file)) (d.faults (disk_left c.change_opened.result))
    (fault_in c.change_opened.result) (c.in-Ok.ensures.told honest) c.change_opened.ensures.shows

pub returns-in-Ok-clause-calls : goal.returns-in-Ok-clause-calls
returns-in-Ok-clause-calls g c = λ honest chart history found.
    let d = g.D.Disk in
    let past = c.in-Ok.past in
    let file = c.in-Ok.file in
    let one = same_book past.accounts chart past.history history (c.in-Ok.ensures.only honest (book chart history) found) in
    let place : end_of file ≡ gate_of past.accounts past.history = omega (arith, c.in-Ok.ensures.settled.place) in
    let gate : end_of file ≡ gate_of chart history = place ∙ (λ i. gate_of (one.0 i) (one.1 i)) in
    subst (λ (n : ℕ). IfOk c.change_opened.result (λ new. CallsMade (calls_to_open piece_size n + 4) (d.plan c.args.disk) (d.plan new))) gate
    (IfOk-weaker c.change_opened.result _ _
    (λ new made. calls_in_turn (calls_to_open piece_size (end_of file)) 4 (d.plan c.args.disk) (d.plan (disk_of file)) (d.plan new) c.in-Ok.ensures.calls made) c.change_opened.ensures.calls)

pub returns-in-Ok-clause-no_more_calls : goal.returns-in-Ok-clause-no_more_calls
returns-in-Ok-clause-no_more_calls g c = λ honest.
    let d = g.D.Disk in
    let mid = disk_of c.in-Ok.file in
    let n = calls_to_open piece_size (length (d.reads c.args.disk)) in
    let m = calls_to_change (fault_in c.change_opened.result) in
    let first = c.in-Ok.ensures.no_more_calls honest in
    let second = calls_by_answer d.plan mid c.change_opened.result c.change_opened.ensures.no_more_calls c.change_opened.ensures.untouched in
    calls_then first.0 m (n + m) (d.plan c.args.disk) (d.plan mid) (d.plan (disk_left c.change_opened.result)) first.2 second (omega (arith, first.1))
