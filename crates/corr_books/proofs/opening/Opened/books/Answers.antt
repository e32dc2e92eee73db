use Rattle.std.proofs.Common.{◌∙◌, ℕ, ap, refl, subst, sym}
use Rattle.front_word.specs.Known.{WriterKnows, beginner}
use Rattle.corr_books.specs.Opening.{Opening, Parts}
use Rattle.corr_books.specs.inner.Taking.{AreMade}
use Rattle.corr_books.proofs.Begun.{stand_begun}
use Rattle.corr_books.proofs.Made.{are_new}
use Rattle.corr_books.proofs.opening.Opened.books.Goals as goal

pub returns-clause-passes : goal.returns-clause-passes
returns-clause-passes g c =
    let o = g.N.BooksName.opening in
    let is = c.requires.named.opening_is in
    let word = ap (λ (x : Opening). x.word) is ∙ sym (ap (λ (x : Parts g.row.D.Denot). x.word) c.self.view_is) in
    let base = ap (λ (x : Opening). x.base) is ∙ sym (ap (λ (x : Parts g.row.D.Denot). x.base) c.self.view_is) in
    are_new o c.self.inside.writer c.in-Ok.parts.passes.items (c.self.invariant.2 ∙ (λ i. beginner (sym word i) (sym base i)))
    (subst (λ (k : ℕ). AreMade c.self.inside.writer k c.in-Ok.parts.passes.items) (sym (ap (λ (x : Opening). x.made) is)) c.in-Ok.ensures.passes)

-- what stands behind the lock at first
pub begin_stand-behind-requires : goal.begin_stand-behind-requires
begin_stand-behind-requires g c =
    let s = c.self.inside in
    stand_begun g.D.Disk g.N.BooksName.past g.N.Name.table s.book s.day s.front c.args.made g.N.BooksName.opening.most c.requires.named.some g.N.BooksName.opening c.args.self c.make.new.writer refl c.requires.named (sym c.self.view_is) c.self.invariant.0
    (c.in-Ok.ensures.writer ∙ ap (λ (w : WriterKnows). record w { made = c.args.made }) c.self.invariant.2) c.self.invariant.3 c.self.invariant.4 g.met.D.Disk.only_now
