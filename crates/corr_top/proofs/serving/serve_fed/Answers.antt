use Rattle.std.proofs.Common.{◌≡◌, ◌++◌, ℕ, List, Option, length, map, sym, ap, ◌∙◌, subst, arith}
use Rattle.std.specs.Prelude.{slice_get, sum, take}
use Rattle.std.proofs.lemmas.List.{length-map}
use Rattle.corr_books.specs.Opening.{Opening, opening_with}
use Rattle.corr_books.specs.Passes.{Belongs}
use Rattle.corr_books.specs.Stand.{entries_of}
use Rattle.day_model.specs.Chart.{AreBy, Chart}
use Rattle.jrn_book.specs.Journal.{IsJournal}
use Rattle.work_pool.specs.Fed.{AreFed}
use Rattle.corr_top.specs.declared.desk.Served.{Served}
use Rattle.corr_top.specs.declared.stream.MessageFile.{MessageFile}
use Rattle.corr_top.specs.inner.Batching.{all_made, messages_in}
use Rattle.corr_top.specs.inner.Fed.{IsStreamFrom}
use Rattle.corr_top.specs.Message.{pay_asked_of}
use Rattle.corr_top.specs.Passing.{AreGiven}
use Rattle.corr_top.specs.inner.Serving.{AreServedInOrder, AreTold, FeedServed, starting}
use Rattle.corr_top.specs.inner.Stream.{batches_of, messages_so_far}
use Rattle.corr_top.specs.inner.Streamed.{EndsAt, StreamServed}
use Rattle.corr_top.specs.inner.Workers.{Worker}
use Rattle.corr_top.proofs.Batched.{carried}
use Rattle.corr_top.proofs.Batches.{unmapped}
use Rattle.corr_top.proofs.FedDay.{at_end, each_added, entered_front, in_order, told_all}
use Rattle.corr_top.proofs.FedWorkers.{ServesBatch}
use Rattle.corr_top.proofs.StreamDay.{ends_at, given_messages, over_if}
use Rattle.corr_top.proofs.serving.serve_fed.Goals as goal

pub seat-requires-clause-room : goal.seat-requires-clause-room
seat-requires-clause-room g c =
    let count = c.in-Ok-books.ensures.passes.count in
    let made = ap (λ (o : Opening). o.made) c.requires.named.opening_is in
    omega (arith, count, made, c.in-Ok.ensures.workers.1)

pub run_feed-passes-requires-clause-passes : goal.run_feed-passes-requires-clause-passes
run_feed-passes-requires-clause-passes g c κs within =
    let count = c.in-Ok-books.ensures.passes.count in
    let made = ap (λ (o : Opening). o.made) c.requires.named.opening_is in
    let seated = ap length c.seat.ensures ∙ length-map c.in-Ok-books.made.1.items starting in
    let enough = c.requires.count in
    (omega (arith, count, made, seated, enough.0), omega (arith, count, made, seated, enough.1))

pub run_feed-passes-requires-clause-taken : goal.run_feed-passes-requires-clause-taken
run_feed-passes-requires-clause-taken g c κs within k worker at =
    let u = unmapped starting c.in-Ok-books.made.1.items k worker (ap (λ (ws : List Worker). slice_get ws k) (sym c.seat.ensures) ∙ at) in
    subst (λ (w : Worker). Belongs g.N.BooksName.opening w.pass) u.2 (c.in-Ok-books.ensures.passes.each k u.0 u.1).belongs

pub close_desk-closed-requires-clause-room : goal.close_desk-closed-requires-clause-room
close_desk-closed-requires-clause-room g c =
    let count = c.in-Ok-books.ensures.passes.count in
    let made = ap (λ (x : Opening). x.made) c.requires.named.opening_is in
    let seated = ap length c.seat.ensures ∙ length-map c.in-Ok-books.made.1.items starting in
    let came = c.run_feed-passes.ensures.fed.2.passes in
    omega (arith, count, made, seated, came, c.in-Ok.ensures.passes.1)

pub close_desk-closed-requires-clause-passes : goal.close_desk-closed-requires-clause-passes
close_desk-closed-requires-clause-passes g c = c.run_feed-passes.ensures.taken

pub close_desk-closed-requires-clause-all : goal.close_desk-closed-requires-clause-all
close_desk-closed-requires-clause-all g c =
    let count = c.in-Ok-books.ensures.passes.count in
    let seated = ap length c.seat.ensures ∙ length-map c.in-Ok-books.made.1.items starting in
    let came = c.run_feed-passes.ensures.fed.2.passes in
    omega (arith, count, seated, came)

pub returns-clause-served : goal.returns-clause-served
returns-clause-served g c =
    let o = g.N.BooksName.opening in
    let source = g.S.Source in
    let from = c.args.source in
    let named = c.requires.named.opening_is ∙ ap (opening_with g.D.Disk c.args.opened c.args.workers) c.requires.most in
    let by : AreBy (length o.base) o.accounts = subst (λ (x : Opening). AreBy (length x.base) x.accounts) (sym named) c.requires.journal.legal.changes.by_now in
    let directory = c.args.directory.now in
    let reading = pay_asked_of directory o.accounts in
    let news = c.in-Ok-books.made.1.items in
    let new = c.in-Ok-books.ensures.passes in
    let after = c.run_feed-passes.result.passes.items in
    let replies = c.run_feed-passes.result.replies in
    let end = c.run_feed-passes.result.feed in
    let batches = batches_of end.sizes (messages_so_far end.file) in
    -- the feed gave nothing before
    let jobs : batches ≡ c.run_feed-passes.ensures.fed.0 = c.run_feed-passes.ensures.fed.1 ∙ ap (λ (sizes : List ℕ). batches_of sizes (messages_so_far c.in-Ok-new.feed.file) ++ c.run_feed-passes.ensures.fed.0) c.in-Ok-new.ensures.fresh.0 in
    let fed : AreFed (ServesBatch o reading batches) (map starting news) batches end.over after replies =
    subst (λ (x : List Worker × List (List (List ℕ))). AreFed (ServesBatch o reading batches) x.0 x.1 end.over after replies) (λ i. (c.seat.ensures i, sym jobs i)) c.run_feed-passes.ensures.fed.2 in
    let served = c.join_made-served.result in
    let kept = c.join_made-served.ensures in
    let closed = c.close_desk-closed.result in
    let ends = c.close_desk-closed.ensures in
    let history = closed.history.entries in
    let faults = g.D.Disk.faults closed.disk in
    let closes = ends.closes in
    let stream : IsStreamFrom source (source.left from) (source.faults from) end =
    subst (λ (x : Option (List ℕ) × ℕ). IsStreamFrom source x.0 x.1 end) (λ i. (c.requires.file.0 i, c.requires.file.1 i)) c.into_file.ensures.fed in
    let messages = messages_in batches in
    let first : messages ≡ take (sum end.sizes) (messages_so_far end.file) = given_messages end.sizes (messages_so_far end.file) in
    let whole = over_if served replies (end.over) kept.ok (at_end o reading batches news after history faults new closes end.over replies fed) in
    let day : FeedServed g.D.Disk o g.N.BooksName.past (map reading messages) (record { closed = closed; served = served }) = record {
      left = record {
        accounts = ends.accounts;
        added = entries_of closes.log;
        is = closes.is;
        each = each_added o reading batches news after history faults new closes end.over replies fed;
        journal = subst (λ (chart : Chart). IsJournal chart history) ends.accounts ends.journal;
        leaves = ends.disk;
        in_turn = ends.any_moment;
        honest = ends.honest;
      };
      told = carried (λ m. all_made m.items) (λ v. v.items) (λ (l : List Served). AreTold o history (map reading messages) l) replies served kept.made kept.ok (told_all o reading batches news after history faults new closes end.over replies fed);
      turn = carried (λ m. all_made m.items) (λ v. v.items) (λ (l : List Served). o.made ≡ 1 → AreServedInOrder o history (map reading messages) l) replies served kept.made kept.ok (in_order o reading batches news after history faults new closes end.over replies fed by);
      front = entered_front o reading batches news after history faults new closes end.over replies fed by;
    } in
    let ended = ends_at source from end stream c.into_file.ensures.over served whole in
    let all : StreamServed source g.D.Disk o g.N.BooksName.past (λ (ms : List (List ℕ)). map (pay_asked_of directory o.accounts) ms) from (record { day = record { closed = closed; served = served }; file = end.file }) = record {
      bytes = ended.0;
      given = messages;
      are_given = subst (λ (ms : List (List ℕ)). AreGiven source from end.file.source ended.0 ms) (sym first) ended.1;
      ends = subst (λ (ms : List (List ℕ)). EndsAt source from end.file.source ended.0 ms served end.file.stage) (sym first) ended.2;
      served = day;
    } in
    subst (λ (x : Opening × MessageFile g.row.S.Denot). StreamServed source g.D.Disk x.0 g.N.BooksName.past (λ (ms : List (List ℕ)). map (pay_asked_of directory x.0.accounts) ms) from (record { day = record { closed = closed; served = served }; file = x.1 }))
    (λ i. (named i, sym c.into_file.ensures.file i)) all

-- there was no memory for the books: nothing was read
pub returns-in-Err-books-clause-err : goal.returns-in-Err-books-clause-err
returns-in-Err-books-clause-err g c =
    let first = c.in-Ok-new.ensures.source in
    let file = c.into_file-source.ensures.file in
    (ap (λ (f : _). f.source) file ∙ first, c.in-Err-books.ensures.disk)
