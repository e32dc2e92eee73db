use Rattle.std.proofs.Common.{◌≡◌, ◌++◌, List, length, replicate, Err, arith, refl, subst, sym, ◌∙◌}
use Rattle.jrn_book.specs.Answers.{Answer}
use Rattle.jrn_book.specs.declared.answer.CommitFault.TheVariants.{Memory}
use Rattle.corr_books.specs.TellingAll.{NoneEntered, NoneTried, ToldAll}
use Rattle.corr_books.proofs.Batched.{told_memory}
use Rattle.corr_books.proofs.Together.{memory_enters_none, memory_tries_none}
use Rattle.corr_books.proofs.books.Books.book_all.Goals as goal

-- want of memory
pub returns-in_default-clause-told : goal.returns-in_default-clause-told
returns-in_default-clause-told g c =
    let o = g.N.BooksName.opening in
    let pass = c.args.pass.now in
    let pays = c.args.pays.items in
    let count : c.len.result ≡ length pays = omega (arith, c.args.pays.ok.0, c.len.ensures) in
    let answers : c.want_memory.new.answers.items ≡ replicate (length pays) (Err Memory) = c.want_memory.ensures.each ∙ (λ i. c.requires.none i ++ replicate (count i) (Err Memory)) in
    subst (λ (all : List Answer). ToldAll o pays pass all pass) (sym answers) (told_memory o pays pass)

pub returns-in_default-clause-together : goal.returns-in_default-clause-together
returns-in_default-clause-together g c stop =
    let pass = c.args.pass.now in
    let answers : c.want_memory.new.answers.items ≡ replicate c.len.result (Err Memory) = c.want_memory.ensures.each ∙ (λ i. c.requires.none i ++ replicate c.len.result (Err Memory)) in
    subst (λ (all : List Answer). NoneEntered pass pass all) (sym answers) (memory_enters_none pass pass c.len.result refl)

pub returns-in_default-clause-memory : goal.returns-in_default-clause-memory
returns-in_default-clause-memory g c some =
    let pass = c.args.pass.now in
    let answers : c.want_memory.new.answers.items ≡ replicate c.len.result (Err Memory) = c.want_memory.ensures.each ∙ (λ i. c.requires.none i ++ replicate c.len.result (Err Memory)) in
    subst (λ (all : List Answer). NoneTried pass pass all) (sym answers) (memory_tries_none pass pass c.len.result refl)
