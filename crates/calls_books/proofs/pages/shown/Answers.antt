use Rattle.std.proofs.Common.{[]}
use Rattle.std.proofs.lemmas.List.Elements.{All-cons, All-nil}
use Rattle.desk_page.specs.Row.{IsShown}
use Rattle.calls_books.proofs.One.{dated}
use Rattle.calls_books.proofs.pages.shown.Goals as goal

pub page-requires-clause-dated : goal.page-requires-clause-dated
page-requires-clause-dated c = dated c.args.h.now.entries c.requires.days c.requires.values

pub page-requires-clause-shown : goal.page-requires-clause-shown
page-requires-clause-shown c = All-cons (IsShown c.args.a.now) _ [] tt (All-nil (IsShown c.args.a.now))
