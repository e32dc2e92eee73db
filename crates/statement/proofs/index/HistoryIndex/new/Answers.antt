use Rattle.std.proofs.Common.{List, refl, sym, subst, arith}
use Rattle.std.proofs.lemmas.List.{take_all}
use Rattle.day_model.specs.declared.entry.Entry.{Entry}
use Rattle.statement.specs.Index.{IsIndexOf}
use Rattle.statement.proofs.Adding.{begins, front, next-at}
use Rattle.statement.proofs.Prefixes.{take-next}
use Rattle.statement.proofs.laws.Fronts.{front-take}
use Rattle.statement.proofs.index.HistoryIndex.new.Goals as goal

pub loop-at-init : goal.loop-at-init
loop-at-init c = begins c.args.a.now _ c.ledgers.ensures.sound (c.in_ok-ledgers.ensures.codes) (front-take c.args.a.now c.args.h.now.entries 0 c.requires.legal) c.home.ensures refl c.new.ensures.items (c.in_ok-ledgers.ensures.value)

pub add-requires : goal.add-requires
add-requires c =
    (front c.args.a.now c.args.h.now.entries c.loop-at.at, next-at c.args.a.now c.args.h.now.entries c.loop-at.at c.get.result.now c.loop-at.index c.requires.legal c.get.ensures c.loop-at.invariant)

pub loop-at-preserved : goal.loop-at-preserved
loop-at-preserved c =
    let book = front c.args.a.now c.args.h.now.entries c.loop-at.at in
    let next = next-at c.args.a.now c.args.h.now.entries c.loop-at.at c.get.result.now c.loop-at.index c.requires.legal c.get.ensures c.loop-at.invariant in
    subst (λ (es : List Entry). IsIndexOf c.add.new.self (record { chart = c.args.a.now; entries = es })) (sym (take-next c.args.h.now.entries c.loop-at.at c.get.result.now c.get.ensures)) (c.in_ok-add.ensures.ok book next)

pub returns : goal.returns
returns c =
    subst (λ (es : List Entry). IsIndexOf c.loop-at.index (record { chart = c.args.a.now; entries = es })) (take_all c.loop-at.at c.args.h.now.entries (omega (arith, c.loop-at-test.false, c.len-at-end.ensures.count))) c.loop-at.invariant
