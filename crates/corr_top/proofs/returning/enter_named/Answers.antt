use Rattle.std.proofs.Common.{List, [], ◌∙◌, ap, arith, subst}
use Rattle.std.specs.Prelude.{slice_set}
use Rattle.std.proofs.lemmas.Option.{none-some}
use Rattle.corr_books.specs.Closing.{Closes}
use Rattle.corr_books.specs.Opening.{Opening, opening_with}
use Rattle.corr_books.proofs.laws.Belonging.{with_last}
use Rattle.front_word.specs.Known.{PassKnows}
use Rattle.corr_top.proofs.EnteredPay.{entered_named, new_belongs, only_after, only_new}
use Rattle.corr_top.proofs.returning.enter_named.Goals as goal

-- there is one pass
pub index_mut-requires : goal.index_mut-requires
index_mut-requires g c =
    let count = c.in-Ok.ensures.passes.count in
    let made = ap (λ (x : Opening). x.made) c.requires.named.opening_is in
    omega (arith, count, made)

pub book-answer-requires-clause-pass : goal.book-answer-requires-clause-pass
book-answer-requires-clause-pass g c =
    let o = g.N.BooksName.opening in
    let made = ap (λ (x : Opening). x.made) c.requires.named.opening_is in
    new_belongs o made c.in-Ok.made.1.items c.in-Ok.ensures.passes c.index_mut.result.now c.index_mut.ensures.value

pub close_all-closed-requires-clause-passes : goal.close_all-closed-requires-clause-passes
close_all-closed-requires-clause-passes g c =
    let o = g.N.BooksName.opening in
    let made = ap (λ (x : Opening). x.made) c.requires.named.opening_is in
    let news = c.in-Ok.made.1.items in
    let p = c.book-answer.new.pass in
    let after = only_after o made news c.in-Ok.ensures.passes c.index_mut.result.now c.index_mut.ensures.value p in
    with_last o (slice_set news 0 p) [] p after (λ k x at. absurd (none-some x at)) c.book-answer.ensures.pass

pub close_all-closed-requires-clause-all : goal.close_all-closed-requires-clause-all
close_all-closed-requires-clause-all g c = c.in-Ok.made.1.ok.0 ∙ c.in-Ok.ensures.passes.count

pub returns-clause-entered : goal.returns-clause-entered
returns-clause-entered g c =
    let o = g.N.BooksName.opening in
    let named = c.requires.named.opening_is ∙ ap (opening_with g.D.Disk c.args.opened 1) c.requires.most in
    let made = ap (λ (x : Opening). x.made) named in
    let news = c.in-Ok.made.1.items in
    let new = c.in-Ok.ensures.passes in
    let q = c.index_mut.result.now in
    let first = c.index_mut.ensures.value in
    let p = c.book-answer.new.pass in
    let closed = c.close_all-closed.result in
    let ends = c.close_all-closed.ensures in
    let closes = subst (λ (ps : List PassKnows). Closes o closed.history.entries (g.D.Disk.faults closed.disk) ps) (only_after o made news new q first p) ends.closes in
    entered_named g.D.Disk c.args.opened g.N.BooksName.past o named c.requires.journal.legal.changes.by_now c.args.pay.now news q p (only_new o made news new q first) new (record { closed = closed; made = c.as_served.result })
    ends.accounts ends.journal closes ends.disk ends.any_moment ends.honest c.book-answer.result c.book-answer.ensures.told c.requires.shape c.as_served.ensures
