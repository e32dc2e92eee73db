use Rattle.std.proofs.Common.{◌≡◌}
use Rattle.std.proofs.lemmas.Result.{IfOk-weaker, on_ok_weaker}
use Rattle.statement.specs.Pages.{pages_of}
use Rattle.statement.specs.Seen.{SeenBook}
use Rattle.statement.proofs.laws.Fronts.{whole-front}
use Rattle.statement.proofs.Printing.{prints-history}
use Rattle.statement.proofs.laws.Closing.{closes}
use Rattle.statement.proofs.paging.pages.Goals as goal

pub pages_with-requires : goal.pages_with-requires
pages_with-requires c =
    let book : SeenBook = record { chart = c.args.a.now; entries = c.args.h.now.entries } in
    (book, prints-history c.in_ok-index.index book.chart book.entries c.args.n.0 c.args.day c.in_ok-index.ensures c.requires.listed c.requires.shaped c.requires.home c.requires.day)

pub returns-in_err-index-clause-closes : goal.returns-in_err-index-clause-closes
returns-in_err-index-clause-closes c = closes c.args.a.now c.args.h.now.entries c.args.n.0 c.args.day (whole-front c.args.a.now c.args.h.now.entries c.requires.legal) c.requires.listed

pub returns-clause-closes : goal.returns-clause-closes
returns-clause-closes c = closes c.args.a.now c.args.h.now.entries c.args.n.0 c.args.day (whole-front c.args.a.now c.args.h.now.entries c.requires.legal) c.requires.listed

pub returns-clause-value : goal.returns-clause-value
returns-clause-value c =
    let book : SeenBook = record { chart = c.args.a.now; entries = c.args.h.now.entries } in
    let prints = prints-history c.in_ok-index.index book.chart book.entries c.args.n.0 c.args.day c.in_ok-index.ensures c.requires.listed c.requires.shaped c.requires.home c.requires.day in
    IfOk-weaker c.pages_with.result _ (λ texts. texts ≡ pages_of book.chart book.entries c.args.n.0 c.args.day) (λ texts all. all book prints) c.pages_with.ensures.value

pub returns-clause-accepted : goal.returns-clause-accepted
returns-clause-accepted c =
    let book : SeenBook = record { chart = c.args.a.now; entries = c.args.h.now.entries } in
    let prints = prints-history c.in_ok-index.index book.chart book.entries c.args.n.0 c.args.day c.in_ok-index.ensures c.requires.listed c.requires.shaped c.requires.home c.requires.day in
    on_ok_weaker c.pages_with.result (λ all. all book prints) c.pages_with.ensures.accepted
