use Rattle.std.proofs.Common.{◌≡◌, take, refl, sym, ap, ◌∙◌, subst, ℤ, pos, ◌+ℤ◌, ◌-ℤ◌, w64}
use Rattle.std.proofs.lemmas.Int.{to_z-of_z}
use Rattle.std.proofs.lemmas.List.{take_all}
use Rattle.std.proofs.lemmas.Option.{slice_get_read}
use Rattle.day_model.specs.declared.pay.Side.TheVariants.{Debit, Credit}
use Rattle.day_model.specs.Balance.{moved_by}
use Rattle.day_model.specs.Legal.{IsLegal}
use Rattle.day_model.proofs.laws.Fitting.{fitting}
use Rattle.day_model.proofs.laws.Legs.{moved_small}
use Rattle.day_model.proofs.laws.Balances.{balance_more}
use Rattle.day_model.proofs.laws.Fronts.{fits_now}
use Rattle.day_model.proofs.laws.Standing.{small_at, was_within, within_now}
use Rattle.day_model.proofs.laws.Turnovers.{debits_equal_credits}
use Rattle.day_model.proofs.laws.Sums.{balances_cancel, totals_fit}
use Rattle.day_model.proofs.funds.balance.Goals as goal

pub after_entry-balance-requires-clause-small : goal.after_entry-balance-requires-clause-small
after_entry-balance-requires-clause-small c =
    let items = c.entries-entry-items.result.now in
    let legal : IsLegal c.args.a.now items = subst (IsLegal c.args.a.now) (sym c.entries-entry-items.ensures.value) c.requires.legal in
    rw c.loop-entry.invariant
    (small_at c.args.a.now items c.args.n.0 c.loop-entry.entry-index c.get.ensures.sound legal c.requires.listed c.loop-entry.auto.entry-index-end)

pub after_entry-balance-requires-clause-credits : goal.after_entry-balance-requires-clause-credits
after_entry-balance-requires-clause-credits c =
    let items = c.entries-entry-items.result.now in
    let legal : IsLegal c.args.a.now items = subst (IsLegal c.args.a.now) (sym c.entries-entry-items.ensures.value) c.requires.legal in
    let at = slice_get_read items _ c.loop-entry.entry-index c.entry-item.result refl c.loop-entry-test.true c.entry-item.is in
    moved_small c.args.a.now c.entry-item.result.pay.legs Credit c.args.n.0 (fitting c.args.a.now c.entry-item.result.pay.legs (fits_now c.args.a.now items _ _ legal at))

pub after_entry-balance-requires-clause-debits : goal.after_entry-balance-requires-clause-debits
after_entry-balance-requires-clause-debits c =
    let items = c.entries-entry-items.result.now in
    let legal : IsLegal c.args.a.now items = subst (IsLegal c.args.a.now) (sym c.entries-entry-items.ensures.value) c.requires.legal in
    let at = slice_get_read items _ c.loop-entry.entry-index c.entry-item.result refl c.loop-entry-test.true c.entry-item.is in
    moved_small c.args.a.now c.entry-item.result.pay.legs Debit c.args.n.0 (fitting c.args.a.now c.entry-item.result.pay.legs (fits_now c.args.a.now items _ _ legal at))

pub loop-entry-preserved : goal.loop-entry-preserved
loop-entry-preserved c =
    let items = c.entries-entry-items.result.now in
    let e = c.entry-item.result in
    let at = slice_get_read items _ c.loop-entry.entry-index e refl c.loop-entry-test.true c.entry-item.is in
    let more = balance_more c.args.a.now items c.args.n.0 c.loop-entry.entry-index e at in
    to_z-of_z w64 c.after_entry-balance.result (record { sfits = c.after_entry-balance.type_inv })
    ∙ c.after_entry-balance.ensures
    ∙ ap (λ (b : ℤ). (b +ℤ pos (moved_by Credit c.args.n.0 e)) -ℤ pos (moved_by Debit c.args.n.0 e)) c.loop-entry.invariant
    ∙ sym more

pub returns-clause-within : goal.returns-clause-within
returns-clause-within c =
    let entries = c.args.h.now.entries in
    let items = c.entries-entry-items.result.now in
    let all : take c.loop-entry.entry-index items ≡ entries =
    take_all c.loop-entry.entry-index items c.loop-entry-test.false ∙ c.entries-entry-items.ensures.value in
    rw (c.loop-entry.invariant, all) (within_now c.args.a.now entries c.args.n.0 c.get.ensures.sound c.requires.legal c.requires.listed)

pub returns-clause-was : goal.returns-clause-was
returns-clause-was c = was_within c.args.a.now c.args.h.now.entries c.args.n.0 c.get.ensures.sound c.requires.legal

pub returns-clause-cancel : goal.returns-clause-cancel
returns-clause-cancel c = balances_cancel c.args.a.now c.args.h.now.entries c.get.ensures.sound c.requires.legal

pub returns-clause-even : goal.returns-clause-even
returns-clause-even c = debits_equal_credits c.args.a.now c.args.h.now.entries c.requires.legal

pub returns-clause-totals : goal.returns-clause-totals
returns-clause-totals c = totals_fit c.args.a.now c.args.h.now.entries c.args.n.0 c.requires.legal
