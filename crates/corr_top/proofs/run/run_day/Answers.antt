use Rattle.std.proofs.Common.{◌≡◌, ◌≤◌, ℕ, List, ◌++◌, inl, sym, ap, arith, subst, length, ◌∙◌, length-append}
use Rattle.std.proofs.lemmas.List.{length-map}
use Rattle.corr_books.specs.Opening.{opening_with, past_of}
use Rattle.day_model.specs.declared.entry.Entry.{Entry}
use Rattle.corr_top.specs.inner.Days.{GivesDay}
use Rattle.corr_top.specs.Message.{pay_asked_of, readings_of}
use Rattle.corr_top.proofs.DayDone.{few_made, places_in, stream_ends}
use Rattle.corr_top.proofs.run.run_day.Goals as goal

-- there was no memory for the books or the first piece of the file
pub returns-in-Err : goal.returns-in-Err
returns-in-Err g c = inl (record { status_is = c.from.ensures; unread = c.in-Err.ensures.err.0; same = c.in-Err.ensures.err.1 })

counted_is : (n : ℕ) (history base : List Entry) → n ≡ length history → history ≡ base → n ≡ length base
counted_is n history base is same = is ∙ ap (λ (es : List Entry). length es) same

no_longer_than : (n : ℕ) (base added history : List Entry) → n ≡ length base → history ≡ base ++ added → n ≤ length history
no_longer_than n base added history is same = let l = length-append base added in let e = ap (λ (es : List Entry). length es) same in omega (arith, is, l, e)

pub end_day-requires-clause-places : goal.end_day-requires-clause-places
end_day-requires-clause-places g c κs within =
    let opened = c.args.opened in
    let s = c.in-Ok.ensures.served in
    places_in g.D.Disk (opening_with g.D.Disk opened c.args.workers c.args.entries) (past_of g.D.Disk opened) (readings_of c.args.directory.now opened.accounts s.given) c.in-Ok.day.day s.served

pub end_day-requires-clause-few : goal.end_day-requires-clause-few
end_day-requires-clause-few g c κs within =
    let opened = c.args.opened in
    let s = c.in-Ok.ensures.served in
    let left = s.served.left in
    let few = s.are_given.few in (
      no_longer_than c.len-count.result opened.base left.added c.in-Ok.day.day.closed.history.entries (counted_is c.len-count.result c.history.result.now.entries opened.base c.len-count.ensures.count c.history.ensures) left.is,
      few_made g.D.Disk (opening_with g.D.Disk opened c.args.workers c.args.entries) (past_of g.D.Disk opened) (readings_of c.args.directory.now opened.accounts s.given) c.in-Ok.day.day s.served 50000
          (let l = length-map s.given (pay_asked_of c.args.directory.now opened.accounts) in omega (arith, l, few)),
    )

-- the messages of the file were served while it was read
pub returns-in-Ok : goal.returns-in-Ok
returns-in-Ok g c =
    let opened = c.args.opened in
    let ends = c.end_day.ensures in
    subst (λ (x : g.row.S.Denot × g.row.D.Denot). GivesDay g.S.Source g.D.Disk c.args.directory.now c.args.workers c.args.entries c.args.source x.0 opened x.1 c.end_day.result.2)
    (λ i. (sym ends.source i, sym ends.disk i))
    (stream_ends g.S.Source g.D.Disk c.args.directory.now c.args.workers c.args.entries c.args.source opened c.requires.instructions c.requires.journal.book
    c.len-count.result c.args.before c.requires.count (counted_is c.len-count.result c.history.result.now.entries opened.base c.len-count.ensures.count c.history.ensures) c.in-Ok.day c.in-Ok.ensures.served c.end_day.result.2 ends.texts)
