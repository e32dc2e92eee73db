use Rattle.std.proofs.Common.{◌≡◌, ◌+◌, Some, length, sym, ap, ◌∙◌, subst, arith}
use Rattle.std.specs.Prelude.{option_map, slice_get}
use Rattle.std.specs.List.{position_from}
use Rattle.std.proofs.lemmas.Option.{slice_get-get_or}
use Rattle.corr_ids.specs.declared.bic.Bic.{Bic}
use Rattle.day_model.specs.declared.pay.Leg.{Leg}
use Rattle.day_model.specs.declared.pay.Order.TheVariants as order
use Rattle.pay_returns.specs.Opposite.{is_credit}
use Rattle.pay_returns.proofs.laws.Noticing.{credit-in, credit-told, no-credit}
use Rattle.statement.specs.inner.Index.{IsOnAccount}
use Rattle.statement.proofs.index.HistoryIndex.credit_notice.Goals as goal

pub returns-in_err-at : goal.returns-in_err-at
returns-in_err-at c = λ book is. c.from_residual.ensures ∙ sym (no-credit book.chart c.args.legs.now (sym c.first_credit.ensures ∙ c.in_err-at.was))

pub offset_bounds-legs-at : goal.offset_bounds-legs-at
offset_bounds-legs-at c =
    let lt = credit-in c.args.legs.now c.in_ok-at.at (sym c.first_credit.ensures ∙ c.in_ok-at.was) in
    omega (arith, lt, c.requires.few)

pub bounds-legs-at : goal.bounds-legs-at
bounds-legs-at c = credit-in c.args.legs.now c.in_ok-at.at (sym c.first_credit.ensures ∙ c.in_ok-at.was)

pub told_of-requires-clause-from_one : goal.told_of-requires-clause-from_one
told_of-requires-clause-from_one c =
    let lt = credit-in c.args.legs.now c.in_ok-at.at (sym c.first_credit.ensures ∙ c.in_ok-at.was) in
    (subst (IsOnAccount (length c.args.self.now.ledgers.items)) (sym c.index-legs-at.is) (c.requires.listed c.in_ok-at.at c.index-legs-at.result lt)).0

pub told_of-requires-clause-there : goal.told_of-requires-clause-there
told_of-requires-clause-there c =
    let lt = credit-in c.args.legs.now c.in_ok-at.at (sym c.first_credit.ensures ∙ c.in_ok-at.was) in
    (subst (IsOnAccount (length c.args.self.now.ledgers.items)) (sym c.index-legs-at.is) (c.requires.listed c.in_ok-at.at c.index-legs-at.result lt)).1

pub returns-in_err-to : goal.returns-in_err-to
returns-in_err-to c = λ book is.
    let legs = c.args.legs.now in
    let leg : Leg = c.index-legs-at.result in
    let found : position_from is_credit 0 legs ≡ Some c.in_ok-at.at = sym c.first_credit.ensures ∙ c.in_ok-at.was in
    let there : slice_get legs c.in_ok-at.at ≡ Some leg = slice_get-get_or legs c.in_ok-at.at leg (credit-in legs c.in_ok-at.at found) ∙ ap (λ (x : Leg). Some x) (sym c.index-legs-at.is) in
    c.from_residual-in_err-to.ensures
    ∙ sym (credit-told book.chart legs c.in_ok-at.at leg found there ∙ ap (option_map (λ (to : Bic). order.Credit to (c.in_ok-at.at + 1))) (sym (c.told_of.ensures book is) ∙ c.in_err-to.was))

pub overflow_cast-result : goal.overflow_cast-result
overflow_cast-result c =
    let lt = credit-in c.args.legs.now c.in_ok-at.at (sym c.first_credit.ensures ∙ c.in_ok-at.was) in
    omega (arith, lt, c.requires.few)

pub overflow_add-result : goal.overflow_add-result
overflow_add-result c =
    let lt = credit-in c.args.legs.now c.in_ok-at.at (sym c.first_credit.ensures ∙ c.in_ok-at.was) in
    omega (arith, lt, c.requires.few)

pub returns : goal.returns
returns c = λ book is.
    let legs = c.args.legs.now in
    let leg : Leg = c.index-legs-at.result in
    let found : position_from is_credit 0 legs ≡ Some c.in_ok-at.at = sym c.first_credit.ensures ∙ c.in_ok-at.was in
    let there : slice_get legs c.in_ok-at.at ≡ Some leg = slice_get-get_or legs c.in_ok-at.at leg (credit-in legs c.in_ok-at.at found) ∙ ap (λ (x : Leg). Some x) (sym c.index-legs-at.is) in
    sym (credit-told book.chart legs c.in_ok-at.at leg found there ∙ ap (option_map (λ (to : Bic). order.Credit to (c.in_ok-at.at + 1))) (sym (c.told_of.ensures book is) ∙ c.in_ok-to.was))
