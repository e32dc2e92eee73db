use Rattle.std.proofs.Common.{◌-◌, ◌<◌, length, subst, sym, arith}
use Rattle.std.proofs.lemmas.Result.{IfOk-weaker}
use Rattle.fin_contents.specs.Writing.{IsReadable}
use Rattle.mt950.specs.Joining.{joined_of}
use Rattle.mt950.specs.Page.{mt950_of}
use Rattle.statement.specs.Seen.{SeenBook}
use Rattle.reconcile.specs.inner.Bounds.{IsIndexFor}
use Rattle.reconcile.specs.Breaks.{piece_left, piece_text, statement_left, statement_text}
use Rattle.reconcile.specs.inner.Breaks.{Adds}
use Rattle.reconcile.proofs.Bounded.{page-day, page-decimals}
use Rattle.reconcile.proofs.Printed.{all-fault, all-joined, meant-fault}
use Rattle.reconcile.proofs.telling.put_piece.Goals as goal

pub put_heading-requires : goal.put_heading-requires
put_heading-requires c =
    let pages = c.args.pages.now in
    let last = c.index-pages-pages.result in
    let lt : length pages - 1 < length pages = omega (arith, c.in-len1-up.len_at_least) in
    page-day last (subst (IsReadable mt950_of) (sym c.index-pages-pages.is) (c.requires.given (length pages - 1) last lt))

pub put_fault-requires : goal.put_fault-requires
put_fault-requires c =
    let first = c.first-item.result in
    let lt : 0 < length c.args.pages.now = omega (arith, c.in-len1-up.len_at_least) in
    page-decimals first (subst (IsReadable mt950_of) (sym c.first-item.is) (c.requires.given 0 first lt))

pub returns-in-Ok : goal.returns-in-Ok
returns-in-Ok c =
    IfOk-weaker c.put_statement.result
    (λ left. (book : SeenBook) → IsIndexFor c.args.ix.now c.args.a.now book
    → Adds c.put_heading.new.out c.put_statement.new.out (statement_text c.args.room book.chart book.entries c.in-Ok.statement) left (statement_left c.args.room book.chart book.entries c.in-Ok.statement))
    (λ left. (book : SeenBook) → IsIndexFor c.args.ix.now c.args.a.now book
    → Adds c.args.out.now c.put_statement.new.out (piece_text c.args.room book.chart book.entries c.args.pages.now) left (piece_left c.args.room book.chart book.entries c.args.pages.now))
    (λ left put book tells.
    all-joined c.args.room book.chart book.entries c.args.out.now c.put_heading.new.out c.put_statement.new.out c.args.pages.now c.index-pages-pages.result c.in-len1-up.len_at_least c.index-pages-pages.is
    c.in-Ok.statement left c.in_ok-put_heading.ensures c.in-Ok.ensures.joined (put book tells)) c.put_statement.ensures

pub returns-in_ok-push-in-Err : goal.returns-in_ok-push-in-Err
returns-in_ok-push-in-Err c book tells =
    all-fault c.args.room book.chart book.entries c.args.out.now c.put_heading.new.out c.push.new.self c.args.pages.now c.first-item.result c.index-pages-pages.result c.in-len1-up.len_at_least c.first-item.is c.index-pages-pages.is
    c.in-Err.fault c.put_fault.new.out c.in_ok-put_heading.ensures (meant-fault (joined_of c.args.pages.now) c.in-Err.fault c.in-Err.ensures.joined c.in_ok-put_fault-in-Err.ensures.told)
    c.in_ok-put_fault-in-Err.ensures.words c.in_ok-push-in-Err.ensures.ok
