use Rattle.std.proofs.Common.{◌≡◌, ℕ, ◌-◌, ◌++◌, All, List, Option, Some, length, length-append, map, sym, ap, ◌∙◌, subst, arith}
use Rattle.std.proofs.lemmas.List.{length-map}
use Rattle.corr_books.specs.TellingAll.{ToldAll}
use Rattle.day_model.specs.Fit.{FitsAccounts}
use Rattle.day_model.specs.Shape.{HasShape}
use Rattle.day_model.specs.declared.pay.Pay.{Pay}
use Rattle.front_word.specs.Known.{PassKnows}
use Rattle.corr_top.specs.declared.desk.Halt.{Halt}
use Rattle.corr_top.specs.declared.desk.Halt.TheVariants as halt
use Rattle.corr_top.specs.inner.Batching.{ServesInTurn, ask_of, halt_after, halted_by, made_by, stopped_so, why_of}
use Rattle.corr_top.specs.Message.{pay_asked_of, readings_of}
use Rattle.corr_top.specs.inner.Workers.{Worker}
use Rattle.corr_top.proofs.Batched.{all_fit, answered, front_few, made_few, no_lists, pays_few}
use Rattle.corr_top.proofs.desk.RunDesk.answer_all.Goals as goal

-- the messages that were read are answered by the answers to their pays, and what is left is stopped
pub returns-clause-served : goal.returns-clause-served
returns-clause-served g c =
    let o = g.N.BooksName.opening in
    let messages = c.args.batch.now in
    let all = readings_of c.args.self.now.directory.now o.accounts messages in
    let readings = c.read_all.new.readings.items in
    let answers = c.book_all.new.answers.items in
    let made = c.put_left-pass-inside.new.made.items in
    let asks = map ask_of readings in
    let put = c.put_made-halted in
    let front : put.new.made.items ≡ made_by asks answers = put.ensures.made ∙ (λ i. made_by (c.part.ensures.asks i) (c.as_slice.ensures.value i)) in
    let why : put.result ≡ halted_by asks answers = put.ensures.halted ∙ (λ i. halted_by (c.part.ensures.asks i) (c.as_slice.ensures.value i)) in
    let long : c.len-count.result ≡ length all = c.len-count.ensures.count ∙ sym (length-map messages (pay_asked_of c.args.self.now.directory.now o.accounts)) in
    let is : made ≡ made_by asks answers ++ stopped_so (length all - length (made_by asks answers)) (why_of (halted_by asks answers)) =
    c.put_left-pass-inside.ensures.made ∙ (λ i. front i ++ stopped_so (long i - length (front i)) (why_of (why i))) in
    let after : c.put_left-pass-inside.result ≡ halt_after (length all - length (made_by asks answers)) (halted_by asks answers) =
    c.put_left-pass-inside.ensures.halted ∙ (λ i. halt_after (long i - length (front i)) (why i)) in
    let same : c.pass.inside.pass ≡ c.args.pass.now.pass = ap (λ (w : Worker). w.pass) c.pass.view_is in
    let told = subst (λ (x : List Pay × PassKnows). ToldAll o x.0 x.1 answers c.book_all.new.pass) (λ i. (c.part.ensures.pays i, same i)) c.book_all.ensures.told in
    let shapes = (all_fit o.accounts readings c.read_all.ensures.sound).1 in
    let here = answered o all readings answers c.args.pass.now.pass c.book_all.new.pass made c.read_all.ensures.front shapes told is in
    subst (λ (x : Option Halt × Option Halt). ServesInTurn o all (record { pass = c.args.pass.now.pass; halted = x.0 }) (record { pass = c.book_all.new.pass; halted = x.1 }) made)
    (λ i. (sym c.requires.on i, sym after i)) here

-- there was no memory for the lists of the batch
pub returns-in_default-clause-served : goal.returns-in_default-clause-served
returns-in_default-clause-served g c =
    let o = g.N.BooksName.opening in
    let messages = c.args.batch.now in
    let reading = pay_asked_of c.args.self.now.directory.now o.accounts in
    let all = readings_of c.args.self.now.directory.now o.accounts messages in
    let long : length all ≡ length messages = length-map messages reading in
    let count : length all ≡ c.len-count.result = long ∙ sym c.len-count.ensures.count in
    let here = no_lists o all c.args.pass.now.pass (let some = c.len-count.ensures.batch.some in omega (arith, some, long)) in
    let same : c.args.pass.now.pass ≡ c.pass.inside.pass = sym (ap (λ (w : Worker). w.pass) c.pass.view_is) in
    subst (λ (x : PassKnows × (Option Halt × ℕ)). ServesInTurn o all (record { pass = c.args.pass.now.pass; halted = x.1.0 }) (record { pass = x.0; halted = Some halt.Memory }) (stopped_so x.1.1 halt.Memory))
    (λ i. (same i, (sym c.requires.on i, count i))) here

-- no more is made of the messages than there are
pub put_left-pass-inside-requires-clause-within : goal.put_left-pass-inside-requires-clause-within
put_left-pass-inside-requires-clause-within g c =
    let o = g.N.BooksName.opening in
    let readings = c.read_all.new.readings.items in
    let answers = c.book_all.new.answers.items in
    let reading = pay_asked_of c.args.self.now.directory.now o.accounts in
    let same : c.pass.inside.pass ≡ c.args.pass.now.pass = ap (λ (w : Worker). w.pass) c.pass.view_is in
    let told = subst (λ (x : List Pay × PassKnows). ToldAll o x.0 x.1 answers c.book_all.new.pass) (λ i. (c.part.ensures.pays i, same i)) c.book_all.ensures.told in
    let shapes = (all_fit o.accounts readings c.read_all.ensures.sound).1 in
    let few = made_few o readings answers c.args.pass.now.pass c.book_all.new.pass shapes told in
    let put : length c.put_made-halted.new.made.items ≡ length (made_by (map ask_of readings) answers) =
    ap length (c.put_made-halted.ensures.made ∙ (λ i. made_by (c.part.ensures.asks i) (c.as_slice.ensures.value i))) in
    let front = ap length c.read_all.ensures.front.1 in
    let parts = length-append readings c.read_all.ensures.front.0 in
    let long = length-map c.args.batch.now reading in
    omega (arith, few, put, front, parts, long)

-- there are no more pays than messages
pub book_all-requires-clause-few : goal.book_all-requires-clause-few
book_all-requires-clause-few g c =
    let o = g.N.BooksName.opening in
    let readings = c.read_all.new.readings.items in
    let reading = pay_asked_of c.args.self.now.directory.now o.accounts in
    let all = readings_of c.args.self.now.directory.now o.accounts c.args.batch.now in
    let pays = ap length c.part.ensures.pays in
    let few = pays_few readings in
    let front = front_few readings all c.read_all.ensures.front in
    let long = length-map c.args.batch.now reading in
    let most = c.len-count.ensures.batch.few in
    let named = c.requires.named in
    (omega (arith, pays, few, front, long, most), omega (arith, pays, few, front, long, named))

-- and there is room for the answers to them
pub book_all-requires-clause-room : goal.book_all-requires-clause-room
book_all-requires-clause-room g c =
    let o = g.N.BooksName.opening in
    let readings = c.read_all.new.readings.items in
    let reading = pay_asked_of c.args.self.now.directory.now o.accounts in
    let all = readings_of c.args.self.now.directory.now o.accounts c.args.batch.now in
    let pays = ap length c.part.ensures.pays in
    let few = pays_few readings in
    let front = front_few readings all c.read_all.ensures.front in
    let long = length-map c.args.batch.now reading in
    let room = c.in-Ok.ensures.answers.1 in
    omega (arith, pays, few, front, long, room)

-- what was read fits the accounts, and has the shape of what is written down
pub book_all-requires-clause-fits : goal.book_all-requires-clause-fits
book_all-requires-clause-fits g c =
    let accounts = g.N.BooksName.opening.accounts in
    subst (λ (ps : List Pay). All (FitsAccounts accounts) ps) (sym c.part.ensures.pays) (all_fit accounts c.read_all.new.readings.items c.read_all.ensures.sound).0

pub book_all-requires-clause-shape : goal.book_all-requires-clause-shape
book_all-requires-clause-shape g c =
    let accounts = g.N.BooksName.opening.accounts in
    subst (λ (ps : List Pay). All HasShape ps) (sym c.part.ensures.pays) (all_fit accounts c.read_all.new.readings.items c.read_all.ensures.sound).1

-- and room for what is made of the messages
pub put_made-halted-requires-clause-room : goal.put_made-halted-requires-clause-room
put_made-halted-requires-clause-room g c =
    let o = g.N.BooksName.opening in
    let readings = c.read_all.new.readings.items in
    let reading = pay_asked_of c.args.self.now.directory.now o.accounts in
    let all = readings_of c.args.self.now.directory.now o.accounts c.args.batch.now in
    let asks = ap length c.part.ensures.asks in
    let asked = length-map readings ask_of in
    let front = front_few readings all c.read_all.ensures.front in
    let long = length-map c.args.batch.now reading in
    let room = c.in-Ok.ensures.made.1 in
    omega (arith, asks, asked, front, long, room)
