use Rattle.std.proofs.Common.{◌≡◌, ◌++◌, ℕ, List, [], length, replicate, Err, ap, arith, subst, sym, ◌∙◌}
use Rattle.day_model.specs.declared.pay.Pay.{Pay}
use Rattle.front_word.specs.Known.{PassKnows}
use Rattle.front_word.specs.Rule.{IsNumber}
use Rattle.jrn_book.specs.Answers.{Answer}
use Rattle.jrn_book.specs.declared.answer.CommitFault.TheVariants.{Memory}
use Rattle.corr_books.specs.Passes.{Belongs}
use Rattle.corr_books.specs.TellingAll.{NoneEntered, NoneTried, ToldAll}
use Rattle.corr_books.specs.inner.TellingAll.{AreNextInTurn, MeetsInTurn}
use Rattle.corr_books.proofs.Batched.{all_entered, all_wanted, booked_all, many_answers, next_places, told_all_spare, told_memory}
use Rattle.corr_books.proofs.Telling.{belongs_on}
use Rattle.corr_books.proofs.Together.{memory_enters_none, memory_tries_none}
use Rattle.corr_books.proofs.stand.Stand.book_all_as.Goals as goal

pub tell_all-requires-clause-pays : goal.tell_all-requires-clause-pays
tell_all-requires-clause-pays g c =
    let o = g.N.BooksName.opening in
    let s = c.self.inside in
    let book = c.enter_all.new.book in
    let answers = c.enter_all.new.answers.items in
    let many : length answers ≡ length c.args.pays.items =
    many_answers g.D.Disk o g.N.BooksName.past g.N.Name.table s.book book s.writer s.day c.args.pays.items answers c.self.invariant c.requires.fits c.enter_all.ensures.enters in
    ap length c.requires.named ∙ sym many ∙ sym (ap length c.as_slice.ensures.value)

pub tell_all-requires-clause-places : goal.tell_all-requires-clause-places
tell_all-requires-clause-places g c =
    let o = g.N.BooksName.opening in
    let s = c.self.inside in
    let n : ℕ = c.reserve_for.new.self.number in
    let pays = c.args.pays.items in
    let answers = c.enter_all.new.answers.items in
    let number : IsNumber o.made n = subst (IsNumber o.made) (sym (ap (λ (q : PassKnows). q.number) c.reserve_for.ensures.same)) c.requires.pass.number in
    let next = next_places g.D.Disk o g.N.BooksName.past g.N.Name.table s.book c.enter_all.new.book s.writer s.day pays answers c.self.invariant c.requires.fits c.enter_all.ensures.enters n c.requires.few.1 number in
    subst (λ (x : List Pay × List Answer). AreNextInTurn s.writer n x.0 s.day x.1) (λ i. (sym c.requires.named i, sym c.as_slice.ensures.value i)) next

pub invariant_of-self : goal.invariant_of-self
invariant_of-self g c =
    let o = g.N.BooksName.opening in
    let s = c.self.inside in
    let r = c.reserve_for.new.self in
    let pays = c.args.pays.items in
    let answers = c.enter_all.new.answers.items in
    let w = c.tell_all.new.w in
    let new = c.tell_all.new.pass in
    let number : IsNumber o.made r.number = subst (IsNumber o.made) (sym (ap (λ (q : PassKnows). q.number) c.reserve_for.ensures.same)) c.requires.pass.number in
    let met = subst (λ (x : List Pay × List Answer). MeetsInTurn s.writer r.number x.0 s.day x.1 r w new) (λ i. (c.requires.named i, c.as_slice.ensures.value i)) c.tell_all.ensures in
    let booked =
    booked_all g.D.Disk o g.N.BooksName.past g.N.Name.table s.book c.enter_all.new.book s.writer s.day pays answers c.self.invariant c.requires.fits c.enter_all.ensures.enters r new w c.requires.few.1 number met in
    booked.1

pub returns-clause-told : goal.returns-clause-told
returns-clause-told g c =
    let o = g.N.BooksName.opening in
    let s = c.self.inside in
    let old = c.args.pass.now in
    let r = c.reserve_for.new.self in
    let pays = c.args.pays.items in
    let answers = c.enter_all.new.answers.items in
    let w = c.tell_all.new.w in
    let new = c.tell_all.new.pass in
    let number : IsNumber o.made r.number = subst (IsNumber o.made) (sym (ap (λ (q : PassKnows). q.number) c.reserve_for.ensures.same)) c.requires.pass.number in
    let met = subst (λ (x : List Pay × List Answer). MeetsInTurn s.writer r.number x.0 s.day x.1 r w new) (λ i. (c.requires.named i, c.as_slice.ensures.value i)) c.tell_all.ensures in
    let booked =
    booked_all g.D.Disk o g.N.BooksName.past g.N.Name.table s.book c.enter_all.new.book s.writer s.day pays answers c.self.invariant c.requires.fits c.enter_all.ensures.enters r new w c.requires.few.1 number met in
    let again : pays ≡ [] → record old { spare = r.spare } ≡ old = λ none.
    let zero : length pays ≡ 0 = ap length none in
    sym c.reserve_for.ensures.same ∙ (c.reserve_for.ensures.again (omega (arith, c.len-count.ensures, c.args.pays.ok.0, zero))).0 in
    told_all_spare o pays old new r.spare answers again (subst (λ (q : PassKnows). ToldAll o pays q answers new) c.reserve_for.ensures.same booked.0)

pub returns-clause-together : goal.returns-clause-together
returns-clause-together g c stop =
    let s = c.self.inside in
    all_entered g.D.Disk g.N.BooksName.opening g.N.BooksName.past g.N.Name.table s.book c.enter_all.new.book s.writer s.day c.args.pays.items c.enter_all.new.answers.items c.self.invariant c.requires.fits
    c.enter_all.ensures.enters c.args.pass.now c.tell_all.new.pass (returns-clause-told g c) stop

pub returns-clause-memory : goal.returns-clause-memory
returns-clause-memory g c some =
    let s = c.self.inside in
    all_wanted g.D.Disk g.N.BooksName.opening g.N.BooksName.past g.N.Name.table s.book c.enter_all.new.book s.writer s.day c.args.pays.items c.enter_all.new.answers.items c.self.invariant c.requires.fits
    c.enter_all.ensures.enters c.args.pass.now c.tell_all.new.pass (returns-clause-told g c) some

-- want of memory
pub returns-then-is_err-clause-told : goal.returns-then-is_err-clause-told
returns-then-is_err-clause-told g c =
    let o = g.N.BooksName.opening in
    let old = c.args.pass.now in
    let r = c.reserve_for.new.self in
    let pays = c.args.pays.items in
    let count : c.len-count.result ≡ length pays = omega (arith, c.args.pays.ok.0, c.len-count.ensures) in
    let answers : c.want_memory.new.answers.items ≡ replicate (length pays) (Err Memory) = c.want_memory.ensures.each ∙ (λ i. c.requires.none i ++ replicate (count i) (Err Memory)) in
    let again : pays ≡ [] → record old { spare = r.spare } ≡ old = λ none.
    let zero : length pays ≡ 0 = ap length none in
    sym c.reserve_for.ensures.same ∙ (c.reserve_for.ensures.again (omega (arith, count, zero))).0 in
    told_all_spare o pays old r r.spare c.want_memory.new.answers.items again
    (subst (λ (x : PassKnows × List Answer). ToldAll o pays x.0 x.1 r) (λ i. (c.reserve_for.ensures.same i, sym answers i)) (told_memory o pays r))

pub returns-then-is_err-clause-together : goal.returns-then-is_err-clause-together
returns-then-is_err-clause-together g c stop =
    let old = c.args.pass.now in
    let r = c.reserve_for.new.self in
    let answers : c.want_memory.new.answers.items ≡ replicate c.len-count.result (Err Memory) = c.want_memory.ensures.each ∙ (λ i. c.requires.none i ++ replicate c.len-count.result (Err Memory)) in
    subst (λ (all : List Answer). NoneEntered old r all) (sym answers) (memory_enters_none old r c.len-count.result c.reserve_for.ensures.same)

pub returns-then-is_err-clause-memory : goal.returns-then-is_err-clause-memory
returns-then-is_err-clause-memory g c some =
    let old = c.args.pass.now in
    let r = c.reserve_for.new.self in
    let answers : c.want_memory.new.answers.items ≡ replicate c.len-count.result (Err Memory) = c.want_memory.ensures.each ∙ (λ i. c.requires.none i ++ replicate c.len-count.result (Err Memory)) in
    subst (λ (all : List Answer). NoneTried old r all) (sym answers) (memory_tries_none old r c.len-count.result c.reserve_for.ensures.same)

pub returns-clause-pass : goal.returns-clause-pass
returns-clause-pass g c =
    let o = g.N.BooksName.opening in
    let s = c.self.inside in
    let r = c.reserve_for.new.self in
    let it : Belongs o r = subst (Belongs o) (sym c.reserve_for.ensures.same) (record { table = c.requires.pass.table; base = c.requires.pass.base; number = c.requires.pass.number }) in
    belongs_on o r.number s.day g.B.Batch.pays c.as_slice.result.now s.writer c.tell_all.new.w r c.tell_all.new.pass c.tell_all.ensures it
