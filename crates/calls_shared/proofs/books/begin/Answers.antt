use Rattle.corr_books.proofs.laws.Belonging.{all_new, but_last, the_last}
use Rattle.calls_shared.proofs.books.begin.Goals as goal

pub returns : goal.returns
returns g c =
    let o = g.N.BooksName.opening in
    let all = all_new o c.in-Ok.passes.items c.in-Ok.ensures.passes in
    let rest = but_last o c.in-Ok.passes.items c.pop.new.self.items c.in-Some.last c.in-Some.ensures.items all in
    let last = the_last o c.in-Ok.passes.items c.pop.new.self.items c.in-Some.last c.in-Some.ensures.items all in
    (the_last o c.pop.new.self.items c.pop-2.new.self.items c.in-Some-pop.front c.in-Some-pop.ensures.items rest, last)
