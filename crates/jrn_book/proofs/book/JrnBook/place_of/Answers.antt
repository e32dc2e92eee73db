use Rattle.std.proofs.Common.{◌∙◌, ap}
use Rattle.jrn_book.specs.inner.Index.{place_in}
use Rattle.day_model.specs.Next.{entered_at}
use Rattle.jrn_book.specs.Book.{Book}
use Rattle.jrn_book.proofs.Entering.{place_of}
use Rattle.jrn_book.proofs.book.JrnBook.place_of.Goals as goal

pub returns : goal.returns
returns g c =
    let mir = c.args.mir.now in
    c.place.ensures
    ∙ ap (place_in mir.0) c.self.invariant.1.references
    ∙ place_of mir c.self.inside.history.entries
    ∙ ap (λ (b : Book g.row.D.Denot). entered_at mir b.history) c.self.view_is
