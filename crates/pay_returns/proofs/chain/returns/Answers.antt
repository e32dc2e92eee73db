use Rattle.std.proofs.Common.{Bool, Some, None, cond, sym, ap, ◌∙◌, arith}
use Rattle.pay_returns.proofs.laws.Tagging.{returns-none, returns-some, took}
use Rattle.pay_returns.proofs.chain.returns.Goals as goal

pub returns-in_err-place : goal.returns-in_err-place
returns-in_err-place c =
    c.from_residual.ensures ∙ sym (returns-none c.args.a.now c.args.h.now.entries c.args.r c.requires.from_one c.requires.there (sym c.opposed.ensures ∙ c.in_err-place.was))

pub is_return-requires-clause-from_one : goal.is_return-requires-clause-from_one
is_return-requires-clause-from_one c = (took c.args.a.now c.args.h.now.entries c.args.r c.in_ok-place.place (sym c.opposed.ensures ∙ c.in_ok-place.was)).since

pub is_return-requires-clause-there : goal.is_return-requires-clause-there
is_return-requires-clause-there c =
    let before = (took c.args.a.now c.args.h.now.entries c.args.r c.in_ok-place.place (sym c.opposed.ensures ∙ c.in_ok-place.was)).before in
    omega (arith, before, c.requires.there)

pub returns-then-is_return : goal.returns-then-is_return
returns-then-is_return c =
    sym (returns-some c.args.a.now c.args.h.now.entries c.args.r c.in_ok-place.place (sym c.opposed.ensures ∙ c.in_ok-place.was)
    ∙ ap (λ (b : Bool). cond b None (Some c.in_ok-place.place)) (sym c.is_return.ensures ∙ c.if-is_return.true))

pub returns-else-is_return : goal.returns-else-is_return
returns-else-is_return c =
    sym (returns-some c.args.a.now c.args.h.now.entries c.args.r c.in_ok-place.place (sym c.opposed.ensures ∙ c.in_ok-place.was)
    ∙ ap (λ (b : Bool). cond b None (Some c.in_ok-place.place)) (sym c.is_return.ensures ∙ c.if-is_return.false))
