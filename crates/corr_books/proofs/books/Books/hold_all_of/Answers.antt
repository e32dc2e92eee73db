use Rattle.std.proofs.Common.{All, subst}
use Rattle.acct_locks.specs.Holdings.{Holds}
use Rattle.corr_books.proofs.Gathered.{holds_pays}
use Rattle.corr_books.proofs.books.Books.hold_all_of.Goals as goal

pub returns-clause-held : goal.returns-clause-held
returns-clause-held g c =
    let held = c.take_each.new.held.held in
    let numbers = c.in_ok-numbers.numbers.items in
    holds_pays c.args.self.now.accounts c.args.pays.now numbers held c.in_ok-numbers.ensures.numbers (subst (All (λ n. Holds held n)) c.as_slice.ensures.value c.take_each.ensures.held) c.take_each.ensures.once
