use Rattle.std.proofs.Common.{◌≡◌, ◌∷◌, ◌++◌, [], length, map, ap, sym, ◌∙◌, subst, arith, rules, append-nil}
use Rattle.std.proofs.lemmas.List.{length-map}
use Rattle.crossbeam_queue.specs.Passes.{view}
use Rattle.work_pool.specs.Served.{AllTaken}
use Rattle.work_pool.proofs.Answered.{none_fed}
use Rattle.work_pool.proofs.Finished.{all_fed, has_run, helpers_ready, leader_ready, may_collect, may_place, none_twice, still_helping, taken_back}
use Rattle.work_pool.proofs.Places.{given_back}
use Rattle.work_pool.proofs.streaming.run_feed.Goals as goal

pub returns-in-Err-clause-fed : goal.returns-in-Err-clause-fed
returns-in-Err-clause-fed g c = ([], sym (append-nil (g.F.Feed.given c.args.feed)), none_fed (g.K.Desk.serves c.args.desk.now) c.args.passes.items _ _)

pub seat_at_line-first-requires-clause-token : goal.seat_at_line-first-requires-clause-token
seat_at_line-first-requires-clause-token g c = let fact = c.in-Ok.ensures.token in search (rules, fact)

pub seat_at_line-first-requires-clause-some : goal.seat_at_line-first-requires-clause-some
seat_at_line-first-requires-clause-some g c = omega (arith, c.requires.passes.0)

pub seat_at_line-first-requires-clause-few : goal.seat_at_line-first-requires-clause-few
seat_at_line-first-requires-clause-few g c = omega (arith, c.requires.passes.1)

pub seat_at_line-first-requires-clause-empty : goal.seat_at_line-first-requires-clause-empty
seat_at_line-first-requires-clause-empty g c = let fact = c.in-Ok.ensures.helpers.0 in search (rules, fact)

pub seat_at_line-first-requires-clause-room : goal.seat_at_line-first-requires-clause-room
seat_at_line-first-requires-clause-room g c = omega (arith, c.in-Ok.ensures.helpers.1)

pub serve_feed-helpers-requires-clause-ready : goal.serve_feed-helpers-requires-clause-ready
serve_feed-helpers-requires-clause-ready g c = λ κs w.
    let seated = c.seat_at_line-first in
    leader_ready c.in-Ok.hall.line (g.K.Desk.takes c.args.desk.now) c.args.passes.items seated.result seated.new.helpers.items c.requires.taken (omega (arith, c.requires.passes.1, c.args.passes.ok.0)) seated.ensures.passes seated.ensures.leader

pub serve_feed-helpers-requires-clause-helpers : goal.serve_feed-helpers-requires-clause-helpers
serve_feed-helpers-requires-clause-helpers g c = λ κs w.
    let seated = c.seat_at_line-first in
    helpers_ready c.in-Ok.hall.line (g.K.Desk.takes c.args.desk.now) c.args.passes.items seated.result.work.pass seated.new.helpers.items c.requires.taken seated.ensures.passes seated.ensures.helpers

pub serve_feed-helpers-requires-clause-feeds : goal.serve_feed-helpers-requires-clause-feeds
serve_feed-helpers-requires-clause-feeds g c = let fact = c.seat_at_line-first.ensures.leader.feeds in search (rules, fact)

pub serve_feed-helpers-requires-clause-none : goal.serve_feed-helpers-requires-clause-none
serve_feed-helpers-requires-clause-none g c = let fact = c.seat_at_line-first.ensures.leader.given in search (rules, fact)

pub finish-counted-requires-clause-ready : goal.finish-counted-requires-clause-ready
finish-counted-requires-clause-ready g c = let fact = c.serve_feed-helpers.ensures.ready in search (rules, fact)

pub finish-counted-requires-clause-empty : goal.finish-counted-requires-clause-empty
finish-counted-requires-clause-empty g c = let fact = c.in-Ok.ensures.rest.0 in search (rules, fact)

pub finish-counted-requires-clause-feeds : goal.finish-counted-requires-clause-feeds
finish-counted-requires-clause-feeds g c = λ κs w. c.serve_feed-helpers.ensures.goes.feeds ∙ c.seat_at_line-first.ensures.leader.feeds

pub finish-counted-requires-clause-parts : goal.finish-counted-requires-clause-parts
finish-counted-requires-clause-parts g c = omega (arith, c.serve_feed-helpers.ensures.goes.parts, c.serve_feed-helpers.ensures.help.count, c.seat_at_line-first.ensures.leader.parts)

pub finish-counted-requires-clause-helpers : goal.finish-counted-requires-clause-helpers
finish-counted-requires-clause-helpers g c = λ κs w.
    let seated = c.seat_at_line-first in
    let served = c.serve_feed-helpers in
    still_helping c.in-Ok.hall.line (g.K.Desk.takes c.args.desk.now) (g.K.Desk.serves c.args.desk.now) seated.new.helpers.items served.result.0.items seated.ensures.helpers served.ensures.helpers served.ensures.help

pub finish-counted-requires-clause-room : goal.finish-counted-requires-clause-room
finish-counted-requires-clause-room g c =
    let seated = c.seat_at_line-first in
    let served = c.serve_feed-helpers in
    omega (arith, served.result.0.ok.0, served.ensures.help.count, ap (λ l. length l) seated.ensures.passes, length-map seated.new.helpers.items (λ server. server.work.pass), c.args.passes.ok.0, c.in-Ok.ensures.rest.1)

pub in_order-requires-clause-empty : goal.in_order-requires-clause-empty
in_order-requires-clause-empty g c = let fact = c.in-Ok.ensures.works.0 in search (rules, fact)

pub in_order-requires-clause-room : goal.in_order-requires-clause-room
in_order-requires-clause-room g c =
    let seated = c.seat_at_line-first in
    let served = c.serve_feed-helpers in
    let ended = c.finish-counted in
    omega (
      arith,
      ended.new.rest.ok.0,
      ap (λ l. length l) ended.ensures.works,
      length-map served.result.0.items (λ server. server.work),
      served.ensures.help.count,
      ap (λ l. length l) seated.ensures.passes,
      length-map seated.new.helpers.items (λ server. server.work.pass),
      c.args.passes.ok.0,
      c.in-Ok.ensures.works.1,
    )

pub collect_answers-replies-requires : goal.collect_answers-replies-requires
collect_answers-replies-requires g c =
    let serves = g.K.Desk.serves c.args.desk.now in
    let seated = c.seat_at_line-first in
    let served = c.serve_feed-helpers in
    let ended = c.finish-counted in
    let works = c.as_mut_slice.result.now in
    let fed = served.ensures.fed in
    let jobs = (view served.result.1.0.token).given ++ fed.lost in
    let over = g.F.Feed.ended served.result.1.1 in
    let are = c.as_mut_slice.ensures.value ∙ c.in_order.ensures ∙ ap (λ l. ended.new.first.work ∷ l) ended.ensures.works in
    let run = has_run serves c.in-Ok.hall.line c.args.passes.items seated.result served.result.1.0 ended.new.first seated.new.helpers.items served.result.0.items (g.F.Feed.given c.args.feed) (g.F.Feed.given served.result.1.1) over
    served.result.1.2 ended.result works seated.ensures.leader seated.ensures.helpers seated.ensures.passes served.ensures.goes served.ensures.help fed ended.ensures.ended are in
    record {
      within = may_place serves c.args.passes.items jobs over works ended.result run;
      apart = none_twice serves c.args.passes.items jobs over works ended.result run;
      whole = may_collect serves c.args.passes.items jobs over works ended.result run;
    }

pub passes_back-requires-clause-empty : goal.passes_back-requires-clause-empty
passes_back-requires-clause-empty g c = let fact = c.in-Ok.ensures.passes.0 in search (rules, fact)

pub passes_back-requires-clause-room : goal.passes_back-requires-clause-room
passes_back-requires-clause-room g c =
    let seated = c.seat_at_line-first in
    let served = c.serve_feed-helpers in
    let ended = c.finish-counted in
    omega (
      arith,
      c.in_order.new.works.ok.0,
      ap (λ l. length l) c.in_order.ensures,
      ap (λ l. length l) ended.ensures.works,
      length-map served.result.0.items (λ server. server.work),
      served.ensures.help.count,
      ap (λ l. length l) seated.ensures.passes,
      length-map seated.new.helpers.items (λ server. server.work.pass),
      c.args.passes.ok.0,
      c.in-Ok.ensures.passes.1,
    )

pub returns-clause-fed : goal.returns-clause-fed
returns-clause-fed g c =
    let serves = g.K.Desk.serves c.args.desk.now in
    let seated = c.seat_at_line-first in
    let served = c.serve_feed-helpers in
    let ended = c.finish-counted in
    let works = c.as_mut_slice.result.now in
    let fed = served.ensures.fed in
    let jobs = (view served.result.1.0.token).given ++ fed.lost in
    let over = g.F.Feed.ended served.result.1.1 in
    let are = c.as_mut_slice.ensures.value ∙ c.in_order.ensures ∙ ap (λ l. ended.new.first.work ∷ l) ended.ensures.works in
    let run = has_run serves c.in-Ok.hall.line c.args.passes.items seated.result served.result.1.0 ended.new.first seated.new.helpers.items served.result.0.items (g.F.Feed.given c.args.feed) (g.F.Feed.given served.result.1.1) over
    served.result.1.2 ended.result works seated.ensures.leader seated.ensures.helpers seated.ensures.passes served.ensures.goes served.ensures.help fed ended.ensures.ended are in
    let answers = c.collect_answers-replies in
    let long : c.in_order.new.works.len ≡ length c.collect_answers-replies.new.works = omega (arith, c.collect_answers-replies.auto.works, c.as_mut_slice.ensures.len) in
    let back = c.passes_back.ensures ∙ ap (map (λ work. work.pass)) (given_back c.in_order.new.works.len c.collect_answers-replies.new.works c.in_order.new.works.items long) ∙ c.collect_answers-replies.ensures.passes in
    (jobs, fed.given, all_fed serves c.args.passes.items jobs over works c.passes_back.new.passes.items ended.result answers.result run back answers.ensures.count answers.ensures.replies)

pub returns-clause-taken : goal.returns-clause-taken
returns-clause-taken g c =
    let takes = g.K.Desk.takes c.args.desk.now in
    let ended = c.finish-counted in
    let are = c.as_mut_slice.ensures.value ∙ c.in_order.ensures ∙ ap (λ l. ended.new.first.work ∷ l) ended.ensures.works in
    let long : c.in_order.new.works.len ≡ length c.collect_answers-replies.new.works = omega (arith, c.collect_answers-replies.auto.works, c.as_mut_slice.ensures.len) in
    let back = c.passes_back.ensures ∙ ap (map (λ work. work.pass)) (given_back c.in_order.new.works.len c.collect_answers-replies.new.works c.in_order.new.works.items long) ∙ c.collect_answers-replies.ensures.passes in
    subst (AllTaken takes) (sym back) (taken_back c.in-Ok.hall.line takes ended.new.first c.serve_feed-helpers.result.0.items c.as_mut_slice.result.now ended.ensures.ready c.serve_feed-helpers.ensures.helpers are)
