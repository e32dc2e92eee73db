use Rattle.std.proofs.Common.{ap}
use Rattle.jrn_book.specs.Book.{Book}
use Rattle.corr_books.proofs.entering.enter.Goals as goal

pub returns : goal.returns
returns g c =
    let told = c.commit.ensures in
    record {
      enters = record {
        shows = told.shows;
        history = told.history;
        accounts = ap (λ (b : Book g.row.D.Denot). b.accounts) told.same;
        table = ap (λ (b : Book g.row.D.Denot). b.table) told.same;
        at_open = ap (λ (b : Book g.row.D.Denot). b.at_open) told.same;
        failed = told.failed;
        legal = told.legal;
        place = told.place;
        later = told.later;
        honest = told.honest;
        file = told.file;
        any_moment = told.any_moment;
      };
    }
