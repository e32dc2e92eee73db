use Rattle.std.proofs.Common.{◌≡◌, ◌-◌, ◌∙◌, length, Some, ap, arith, refl, sym}
use Rattle.std.specs.Prelude.{slice_get}
use Rattle.day_model.specs.Next.{has_mir}
use Rattle.day_model.proofs.laws.Places.{position_from-within}
use Rattle.jrn_book.specs.Book.{Book}
use Rattle.jrn_book.proofs.book.JrnBook.repeated.Goals as goal

pub get-entry-requires-clause-from_one : goal.get-entry-requires-clause-from_one
get-entry-requires-clause-from_one g c = (position_from-within (has_mir c.args.p.now.mir) 1 c.args.place c.args.self.now.history c.requires.place).0

pub get-entry-requires-clause-there : goal.get-entry-requires-clause-there
get-entry-requires-clause-there g c =
    let within = position_from-within (has_mir c.args.p.now.mir) 1 c.args.place c.args.self.now.history c.requires.place in
    let same : length c.self.inside.history.entries ≡ length c.args.self.now.history = ap (λ (b : Book g.row.D.Denot). length b.history) c.self.view_is in
    omega (arith, within.1, same)

pub returns-then-is_same : goal.returns-then-is_same
returns-then-is_same g c =
    let there : slice_get c.args.self.now.history (c.args.place - 1) ≡ Some c.get-entry.result.now =
    sym (ap (λ (b : Book g.row.D.Denot). slice_get b.history (c.args.place - 1)) c.self.view_is) ∙ c.get-entry.ensures in
    record { shows = (record { entry = c.get-entry.result.now; first = c.requires.place; there = there; is_same = sym c.is_same.ensures ∙ c.if-is_same.true }, refl) }

pub returns : goal.returns
returns g c =
    let there : slice_get c.args.self.now.history (c.args.place - 1) ≡ Some c.get-entry.result.now =
    sym (ap (λ (b : Book g.row.D.Denot). slice_get b.history (c.args.place - 1)) c.self.view_is) ∙ c.get-entry.ensures in
    record { shows = record { entry = c.get-entry.result.now; first = c.requires.place; there = there; is_same = sym c.is_same.ensures ∙ c.if-is_same.false } }
