use Rattle.std.proofs.Common.{◌≡◌, ap, sym, subst, refl, arith}
use Rattle.corr_ids.specs.declared.day.Day.{Day}
use Rattle.front_word.specs.Rule.{IsNumber}
use Rattle.front_word.specs.Known.{WriterKnows, PassKnows}
use Rattle.corr_books.specs.inner.Entering.{Enters}
use Rattle.corr_books.specs.inner.Meeting.{MeetsAfter, writer_after}
use Rattle.corr_books.specs.inner.Stand.{IsStand}
use Rattle.corr_books.specs.Telling.{Told}
use Rattle.corr_books.proofs.Booking.{stand_after, told_after, told_spare}
use Rattle.corr_books.proofs.stand.Stand.book.Goals as goal

pub invariant_of-self : goal.invariant_of-self
invariant_of-self g c =
    let o = g.N.BooksName.opening in
    let D = g.D.Disk in
    let past = g.N.BooksName.past in
    let t = g.N.Name.table in
    let s = c.self.inside in
    let p = c.args.p.now in
    let n = c.reserve.new.self.number in
    let answer = c.enter-answer.result in
    let book = c.enter-answer.new.book in
    let day : s.day ≡ o.day = c.self.invariant.day in
    let number : IsNumber o.made n = subst (IsNumber o.made) (sym (ap (λ (q : PassKnows). q.number) c.reserve.ensures.same)) c.requires.pass.number in
    let before = subst (λ (d : Day). IsStand D o past t record { book = s.book; writer = s.writer; day = d }) day c.self.invariant in
    let entered = subst (λ (d : Day). Enters D d 1 s.book book p answer) day c.enter-answer.ensures.enters in
    let after = subst (λ (d : Day). IsStand D o past t record { book = book; writer = writer_after s.writer n p d answer; day = d }) (sym day) (stand_after D o past t s.book book s.writer n 1 p answer (omega arith) c.self.invariant.some before entered number c.requires.fits) in
    subst (λ (w : WriterKnows). IsStand D o past t record { book = book; writer = w; day = s.day }) (sym c.tell.ensures.writer) after

pub returns-clause-told : goal.returns-clause-told
returns-clause-told g c =
    let o = g.N.BooksName.opening in
    let D = g.D.Disk in
    let past = g.N.BooksName.past in
    let t = g.N.Name.table in
    let s = c.self.inside in
    let p = c.args.p.now in
    let r = c.reserve.new.self in
    let new = c.tell.new.pass in
    let answer = c.enter-answer.result in
    let book = c.enter-answer.new.book in
    let day : s.day ≡ o.day = c.self.invariant.day in
    let number : IsNumber o.made r.number = subst (IsNumber o.made) (sym (ap (λ (q : PassKnows). q.number) c.reserve.ensures.same)) c.requires.pass.number in
    let before = subst (λ (d : Day). IsStand D o past t record { book = s.book; writer = s.writer; day = d }) day c.self.invariant in
    let entered = subst (λ (d : Day). Enters D d 1 s.book book p answer) day c.enter-answer.ensures.enters in
    let after = stand_after D o past t s.book book s.writer r.number 1 p answer (omega arith) c.self.invariant.some before entered number c.requires.fits in
    let met = subst (λ (w : WriterKnows). MeetsAfter s.writer w answer r new) c.tell.ensures.writer c.tell.ensures.pass in
    let meets = subst (λ (d : Day). MeetsAfter s.writer (writer_after s.writer r.number p d answer) answer r new) day met in
    let told = told_after D o past t s.book book s.writer r.number 1 p answer r new refl before after entered meets in
    told_spare o p c.args.pass.now new r.spare answer
    (subst (λ (q : PassKnows). Told o p q answer new) c.reserve.ensures.same told)
