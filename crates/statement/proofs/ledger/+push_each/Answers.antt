use Rattle.std.proofs.Common.{◌≡◌, ℕ, ◌+◌, ◌-◌, [], ◌∷◌, List, length, sym, ap, ◌∙◌, subst, arith, length-append}
use Rattle.std.specs.Prelude.{All}
use Rattle.statement.specs.inner.Index.{IsOnOneOf, changed_at, pushed_each, undone}
use Rattle.statement.specs.declared.ledger.Booking.{Booking}
use Rattle.statement.proofs.Changes.{undone-pushed}
use Rattle.statement.proofs.Pushing.{parted, pushed-last, same-count}
use Rattle.statement.proofs.ledger.+push_each.Goals as goal

pub push_each-requires : goal.push_each-requires
push_each-requires t c =
    let rest = c.pop.new.self in
    let last = c.in-Some.last in
    let ledgers = c.args.ledgers.now.items in
    let parts = parted (length ledgers) c.args.bookings rest last c.in-Some.ensures.items c.requires in
    let long : length c.args.bookings ≡ length rest + 1 = ap length c.in-Some.ensures.items ∙ length-append rest (last ∷ []) in
    let size : length ledgers ≡ length c.push.new.ledgers.items = sym (same-count last ledgers c.push.new.ledgers.items c.in_ok-push.ensures.ok) in
    (omega (arith, c.decreases, long), subst (λ (n : ℕ). All (IsOnOneOf n) rest) size parts.0)

pub undo-requires-clause-there : goal.undo-requires-clause-there
undo-requires-clause-there t c =
    let last = c.in-Some.last in
    let ledgers = c.args.ledgers.now.items in
    let parts = parted (length ledgers) c.args.bookings c.pop.new.self last c.in-Some.ensures.items c.requires in
    omega (arith, parts.1.1, same-count last ledgers c.push_each.new.ledgers.items (c.in-Err.ensures.err ∙ c.in_ok-push.ensures.ok))

pub returns-in-Err-clause-err : goal.returns-in-Err-clause-err
returns-in-Err-clause-err t c =
    let last = c.in-Some.last in
    let k = last.account.0 - 1 in
    c.undo.ensures ∙ ap (changed_at k undone) (c.in-Err.ensures.err ∙ c.in_ok-push.ensures.ok) ∙ undone-pushed k last.movement c.args.ledgers.now.items

pub returns-clause-ok : goal.returns-clause-ok
returns-clause-ok t c =
    let rest = c.pop.new.self in
    let last = c.in-Some.last in
    let ledgers = c.args.ledgers.now.items in
    c.in_default-push_each.ensures.ok
    ∙ ap (pushed_each rest) c.in_ok-push.ensures.ok
    ∙ sym (pushed-last rest last ledgers)
    ∙ ap (λ (bookings : List Booking). pushed_each bookings ledgers) (sym c.in-Some.ensures.items)
