use Rattle.std.proofs.Common.{◌≡◌, ◌≤◌, ◌++◌, sym, ap, ◌∙◌, arith, inl, inr}
use Rattle.std.specs.Prelude.{option_to_list}
use Rattle.std.proofs.lemmas.Bool.Decides.{nat_tests}
use Rattle.pay_returns.specs.Equal.{is_equal}
use Rattle.pay_returns.specs.Opposite.{notices_of, opposite_pay}
use Rattle.pay_returns.specs.Origins.{orders_in}
use Rattle.pay_returns.specs.declared.origin.Origin.{Origin}
use Rattle.statement.proofs.Payments.{takes-unnamed}
use Rattle.statement.proofs.Returning.{legs-few, legs-there, payments-there, takes-no-payment, takes-outside, takes-payment}
use Rattle.statement.proofs.index.HistoryIndex.takes_back.Goals.{then-place-eq0-via-then-place-eq0, then-place-eq0-via-else-place-eq0+then-place-self}
use Rattle.statement.proofs.index.HistoryIndex.takes_back.Goals as goal

pub returns-in_default : goal.returns-in_default
returns-in_default c = λ book next. sym (takes-unnamed book.chart book.entries c.args.e.now (sym c.named_place.ensures ∙ c.in_default.is))

pub returns-then-place-eq0 : goal.returns-then-place-eq0
returns-then-place-eq0 c = λ book next.
    let named = sym c.named_place.ensures ∙ c.in-Some.is in
    elim c.then-place-eq0.branch [
      | then-place-eq0-via-then-place-eq0 w ↦ sym (takes-outside c.args.self.now c.args.e.now book next c.in-Some.place named (inl (omega (arith, w.if-place-eq0.true))))
      | then-place-eq0-via-else-place-eq0+then-place-self w ↦ sym (takes-outside c.args.self.now c.args.e.now book next c.in-Some.place named (inr (omega (arith, w.if-place-self.true))))
    ]

pub index-requires : goal.index-requires
index-requires c =
    let count = payments-there c.args.self.now c.args.e.now c.requires.0 c.requires.1 in
    let from : 1 ≤ c.in-Some.place = grind (arith, nat_tests, c.if-place-eq0.false) in
    omega (arith, count, from, c.if-place-self.false)

pub returns-in_default-index : goal.returns-in_default-index
returns-in_default-index c = λ book next.
    let named = sym c.named_place.ensures ∙ c.in-Some.is in
    let from : 1 ≤ c.in-Some.place = grind (arith, nat_tests, c.if-place-eq0.false) in
    sym (takes-no-payment c.args.self.now c.args.e.now book next c.in-Some.place named from c.if-place-self.false c.index.result.now c.index.ensures c.in_default-index.is)

pub credit_notice-requires-clause-listed : goal.credit_notice-requires-clause-listed
credit_notice-requires-clause-listed c = legs-there c.args.self.now c.args.e.now c.requires.0 c.requires.1 c.as_slice-legs.result.now c.as_slice-legs.ensures

pub credit_notice-requires-clause-few : goal.credit_notice-requires-clause-few
credit_notice-requires-clause-few c = legs-few c.args.self.now c.args.e.now c.requires.0 c.requires.1 c.as_slice-legs.result.now c.as_slice-legs.ensures

pub debit_notice-requires : goal.debit_notice-requires
debit_notice-requires c = legs-there c.args.self.now c.args.e.now c.requires.0 c.requires.1 c.as_slice-legs.result.now c.as_slice-legs.ensures

pub returns : goal.returns
returns c = λ book next.
    let pay = c.args.e.now.pay in
    let n = c.in-Some.place in
    let named = sym c.named_place.ensures ∙ c.in-Some.is in
    let from : 1 ≤ n = grind (arith, nat_tests, c.if-place-eq0.false) in
    let told : orders_in (record { credit = c.credit_notice.result; debit = c.debit_notice.result }) ≡ notices_of book.chart pay.legs =
    (λ i. option_to_list (c.credit_notice.ensures book next.is i) ++ option_to_list (c.debit_notice.ensures book next.is i)) ∙ ap (notices_of book.chart) c.as_slice-legs.ensures in
    c.is_opposite.ensures book.chart (sym next.is.home) told
    ∙ ap (λ (o : Origin). is_equal pay (opposite_pay book.chart o n pay.value)) c.lend.ensures
    ∙ sym (takes-payment c.args.self.now c.args.e.now book next n named from c.if-place-self.false c.index.result.now c.index.ensures c.in-Some-index.origin c.in-Some-index.is)
