use Rattle.std.proofs.Common.{◌≡◌, ◌∙◌, ℕ, length, ap, arith, subst, sym}
use Rattle.std.specs.Prelude.{map}
use Rattle.corr_disk.specs.Calls.{AtMostCalls, CallsMade}
use Rattle.day_model.specs.Items.{items_of}
use Rattle.jrn_file.specs.File.{disk_of, end_of}
use Rattle.jrn_file.specs.Pieces.{calls_to_open, piece_size}
use Rattle.jrn_file.specs.Reading.{size_of}
use Rattle.jrn_file.proofs.laws.Sizes.{length-journal_bytes}
use Rattle.jrn_book.specs.declared.version.Version.TheVariants.{One}
use Rattle.jrn_book.specs.Journal.{all_records_in}
use Rattle.jrn_book.specs.Reading.{Read}
use Rattle.jrn_book.specs.Versions.{bytes_in, head_in}
use Rattle.jrn_book.proofs.opening.open_old.Goals as goal

pub returns-in-Ok-clause-calls : goal.returns-in-Ok-clause-calls
returns-in-Ok-clause-calls g c =
    let d = g.D.Disk in
    let file = c.in-Ok.file in
    let past = c.in-Ok.past in
    let long = length-journal_bytes (head_in One past.accounts) (map (bytes_in One) (items_of past.accounts past.history)) in
    let place : end_of file ≡ size_of (all_records_in One past.accounts past.history) = omega (arith, long, c.in-Ok.ensures.settled.place) in
    let accounts : past.accounts ≡ c.past.inside.accounts = sym (ap (λ (r : Read). r.accounts) c.past.view_is) in
    let history : past.history ≡ c.past.inside.history.entries = sym (ap (λ (r : Read). r.history) c.past.view_is) in
    let size : end_of file ≡ size_of (all_records_in One c.past.inside.accounts c.past.inside.history.entries) =
    place ∙ (λ i. size_of (all_records_in One (accounts i) (history i))) in
    let made = subst (λ (n : ℕ). CallsMade (calls_to_open piece_size n) (d.plan c.args.disk) (d.plan (disk_of file))) size c.in-Ok.ensures.calls in
    subst (λ x. CallsMade (calls_to_open piece_size (size_of (all_records_in One c.past.inside.accounts c.past.inside.history.entries))) (d.plan c.args.disk) (d.plan x)) (sym c.into_disk.ensures) made

pub returns-in-Ok-clause-no_more_calls : goal.returns-in-Ok-clause-no_more_calls
returns-in-Ok-clause-no_more_calls g c = λ honest.
    let d = g.D.Disk in
    subst (λ x. AtMostCalls (calls_to_open piece_size (length (d.reads c.args.disk))) (d.plan c.args.disk) (d.plan x)) (sym c.into_disk.ensures) (c.in-Ok.ensures.no_more_calls honest)
