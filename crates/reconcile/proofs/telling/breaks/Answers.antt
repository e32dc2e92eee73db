use Rattle.std.proofs.Common.{◌≡◌, ◌++◌, List, drop, subst, sym, ap, ◌∙◌, refl}
use Rattle.std.specs.Prelude.{All}
use Rattle.std.proofs.lemmas.List.{append-nil, drop_all}
use Rattle.mt950.specs.declared.page.Page950.{Page950}
use Rattle.statement.specs.Seen.{SeenBook}
use Rattle.reconcile.specs.inner.Bounds.{IsIndexFor}
use Rattle.reconcile.specs.Breaks.{most_compared, piece_left, piece_text, told_from}
use Rattle.reconcile.specs.inner.Breaks.{Adds}
use Rattle.reconcile.proofs.Printed.{more-pieces}
use Rattle.reconcile.proofs.Within.{CanBeJoined, pieces-join}
use Rattle.reconcile.proofs.telling.breaks.Goals as goal

pub put_piece-requires-clause-few : goal.put_piece-requires-clause-few
put_piece-requires-clause-few c =
    let items = c.deref-piece-items.result.now in
    let joins : All CanBeJoined items = subst (All CanBeJoined) (sym (c.deref-piece-items.ensures.value ∙ c.in_ok-groups.ensures)) (pieces-join c.args.pages.items c.requires.few c.requires.given) in
    let one : CanBeJoined c.as_slice.result.now = subst CanBeJoined (sym (c.as_slice.ensures ∙ c.piece-item.is)) (joins c.loop-piece.piece-index c.piece-item.result c.loop-piece-test.true) in
    one.few

pub put_piece-requires-clause-given : goal.put_piece-requires-clause-given
put_piece-requires-clause-given c =
    let items = c.deref-piece-items.result.now in
    let joins : All CanBeJoined items = subst (All CanBeJoined) (sym (c.deref-piece-items.ensures.value ∙ c.in_ok-groups.ensures)) (pieces-join c.args.pages.items c.requires.few c.requires.given) in
    let one : CanBeJoined c.as_slice.result.now = subst CanBeJoined (sym (c.as_slice.ensures ∙ c.piece-item.is)) (joins c.loop-piece.piece-index c.piece-item.result c.loop-piece-test.true) in
    one.given

pub loop-piece-preserved : goal.loop-piece-preserved
loop-piece-preserved c =
    let a = c.args.a.now in
    let entries = c.args.h.now.entries in
    let book : SeenBook = record { chart = a; entries = entries } in
    let tells : IsIndexFor c.in_ok-index.index a book = record { is = c.in_ok-index.ensures; shaped = c.requires.shaped; same = refl } in
    let items = c.deref-piece-items.result.now in
    let room = c.loop-piece.room in
    let left = c.in_ok-room.room in
    let added : Adds c.loop-piece.out c.put_piece.new.out (piece_text room a entries c.piece-item.result) left (piece_left room a entries c.piece-item.result) =
    subst (λ (piece : List Page950). Adds c.loop-piece.out c.put_piece.new.out (piece_text room a entries piece) left (piece_left room a entries piece)) c.as_slice.ensures (c.in_ok-room.ensures book tells) in
    more-pieces a entries items c.loop-piece.piece-index room left c.piece-item.result (told_from most_compared a entries items) c.loop-piece.out c.put_piece.new.out
    c.piece-item.is c.loop-piece-test.true c.loop-piece.invariant added

pub returns : goal.returns
returns c =
    let a = c.args.a.now in
    let entries = c.args.h.now.entries in
    let items = c.deref-piece-items.result.now in
    let out = c.loop-piece.out in
    let none : out ++ told_from c.loop-piece.room a entries (drop c.loop-piece.piece-index items) ≡ out =
    ap (λ (ps : List (List Page950)). out ++ told_from c.loop-piece.room a entries ps) (drop_all c.loop-piece.piece-index items c.loop-piece-test.false) ∙ append-nil out in
    sym none ∙ sym c.loop-piece.invariant ∙ ap (told_from most_compared a entries) (c.deref-piece-items.ensures.value ∙ c.in_ok-groups.ensures)
