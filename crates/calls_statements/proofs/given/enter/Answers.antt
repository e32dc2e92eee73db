use Rattle.std.proofs.Common.{rules, ◌≡◌, ◌<◌, ◌∙◌, true, false, List, length, ap, arith, subst, sym}
use Rattle.std.specs.Prelude.{is_some}
use Rattle.day_model.specs.Fit.{legs_fit}
use Rattle.day_model.specs.Next.{entered_at}
use Rattle.day_model.specs.declared.entry.Entry.{Entry}
use Rattle.calls_statements.specs.inner.Grown.{IsGrown}
use Rattle.calls_statements.proofs.Growing.{grown-more, takes-next}
use Rattle.calls_statements.proofs.given.enter.Goals as goal

pub add-requires : goal.add-requires
add-requires c =
    let fit : legs_fit c.args.a.now c.args.pay.legs ≡ true = search rules in
    let fresh : is_some (entered_at c.args.pay.mir c.args.h.now.entries) ≡ false = ap is_some (sym c.find.ensures) ∙ sym c.is_some.ensures ∙ c.if-is_some.false in
    let room : length c.args.h.now.entries < 100 = omega (arith, c.len.ensures.count, c.if-len-ge100.false) in
    takes-next c.args.a.now c.args.h.now.entries c.args.pay c.decide-outcome.result c.args.index.now c.requires.grown fit fresh room c.decide-outcome.ensures.value

pub returns : goal.returns
returns c =
    let fit : legs_fit c.args.a.now c.args.pay.legs ≡ true = search rules in
    let fresh : is_some (entered_at c.args.pay.mir c.args.h.now.entries) ≡ false = ap is_some (sym c.find.ensures) ∙ sym c.is_some.ensures ∙ c.if-is_some.false in
    let room : length c.args.h.now.entries < 100 = omega (arith, c.len.ensures.count, c.if-len-ge100.false) in
    subst (λ (es : List Entry). IsGrown c.args.a.now es c.add.new.self) (sym c.in_ok-push.ensures.ok)
    (grown-more c.args.a.now c.args.h.now.entries c.args.pay c.decide-outcome.result c.args.index.now c.requires.grown fit fresh room c.decide-outcome.ensures.value c.add.new.self c.requires.shape c.in_ok-add.ensures.ok)
