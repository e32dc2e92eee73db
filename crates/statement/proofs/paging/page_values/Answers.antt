use Rattle.std.proofs.Common.{◌≡◌, ◌*◌, ℕ, List, ℤ, length, take, ap, ◌∙◌, subst, arith, to_z, of_z, w64}
use Rattle.std.proofs.lemmas.Int.{to_z-of_z}
use Rattle.statement.specs.inner.Index.{last_balance}
use Rattle.statement.specs.Pages.{pages_for}
use Rattle.statement.specs.declared.movement.Movement.{Movement}
use Rattle.statement.proofs.Adding.{kept, kept-rise}
use Rattle.statement.proofs.Printing.{PlacedSoFar, all-placed, few-pages, more-placed, part-dated}
use Rattle.statement.proofs.paging.page_values.Goals as goal

pub on-movements-requires-clause-rise : goal.on-movements-requires-clause-rise
on-movements-requires-clause-rise c =
    let book = c.requires.0 in
    let has = c.requires.1.has in
    let ledger = c.ledger-ledger.result.now in
    kept-rise c.args.ix.now book c.args.n.0 ledger has.is (kept c.args.ix.now book c.args.n.0 ledger has.is has.listed c.ledger-ledger.ensures)

pub balance_before-opening-requires : goal.balance_before-opening-requires
balance_before-opening-requires c =
    let book = c.requires.0 in
    let has = c.requires.1.has in
    let ledger = c.ledger-ledger.result.now in
    kept-rise c.args.ix.now book c.args.n.0 ledger has.is (kept c.args.ix.now book c.args.n.0 ledger has.is has.listed c.ledger-ledger.ensures)

pub overflow_cast-heading : goal.overflow_cast-heading
overflow_cast-heading c =
    let few = few-pages c.args.ix.now c.args.n c.args.day c.ledger-ledger.result.now c.ledger-ledger.ensures c.requires.0 c.requires.1 c.on-movements.result.now c.count_of-count.result c.on-movements.ensures c.count_of-count.ensures in
    omega (arith, few, c.loop-k-test.true)

pub overflow_add-heading : goal.overflow_add-heading
overflow_add-heading c =
    let few = few-pages c.args.ix.now c.args.n c.args.day c.ledger-ledger.result.now c.ledger-ledger.ensures c.requires.0 c.requires.1 c.on-movements.result.now c.count_of-count.result c.on-movements.ensures c.count_of-count.ensures in
    omega (arith, few, c.loop-k-test.true)

pub placed_page-requires-clause-days : goal.placed_page-requires-clause-days
placed_page-requires-clause-days c =
    part-dated c.args.day c.on-movements.result.now c.lines_from-here.result.now c.ledger-ledger.result.now.movements (c.loop-k.k * 25) c.requires.1.century c.on-movements.ensures c.lines_from-here.ensures

pub loop-k-preserved : goal.loop-k-preserved
loop-k-preserved c = λ book prints.
    let ms : List Movement = c.on-movements.result.now in
    let opens : to_z w64 (of_z w64 c.balance_before-opening.result) ≡ c.balance_before-opening.result = to_z-of_z w64 c.balance_before-opening.result (record { sfits = c.balance_before-opening.type_inv }) in
    let held : to_z w64 (of_z w64 c.balance_after-balance.result) ≡ c.balance_after-balance.result = to_z-of_z w64 c.balance_after-balance.result (record { sfits = c.balance_after-balance.type_inv }) in
    let balance_is : to_z w64 (of_z w64 c.balance_after-balance.result) ≡ last_balance c.balance_before-opening.result (take (c.loop-k.k * 25) ms) =
    held ∙ c.balance_after-balance.ensures ∙ ap (λ (o : ℤ). last_balance o (take (c.loop-k.k * 25) ms)) opens in
    more-placed c.args.ix.now c.args.n c.args.day c.ledger-ledger.result.now c.ledger-ledger.ensures book prints c.loop-k.k ms c.lines_from-here.result.now c.balance_before-opening.result (to_z w64 (of_z w64 c.balance_after-balance.result)) c.count_of-count.result
    c.on-movements.ensures c.balance_before-opening.ensures balance_is c.lines_from-here.ensures c.count_of-count.ensures c.loop-k-test.true c.loop-k.pages c.push.new.self c.in_ok-placed_page.field-0 (c.loop-k.invariant book prints) c.in_ok-placed_page.ensures c.in_ok-push.ensures.ok

pub returns-clause-value : goal.returns-clause-value
returns-clause-value c = λ book prints.
    let last : c.loop-k.k ≡ c.count_of-count.result = omega (arith, c.loop-k-test.false, c.loop-k.auto.k-end) in
    let counted = c.count_of-count.ensures ∙ ap (λ (ms : List Movement). pages_for (length ms)) c.on-movements.ensures in
    all-placed c.args.ix.now c.args.n c.args.day c.ledger-ledger.result.now c.ledger-ledger.ensures book prints c.loop-k.pages c.count_of-count.result counted
    (subst (λ (k : ℕ). PlacedSoFar book c.args.n.0 c.args.day k c.loop-k.pages) last (c.loop-k.invariant book prints)).value

pub returns-clause-readable : goal.returns-clause-readable
returns-clause-readable c = (c.loop-k.invariant c.requires.0 c.requires.1).readable
