use Rattle.std.proofs.Common.{◌≡◌, ◌+◌, ◌<◌, true, false, List, Option, ℤ, length, get_or, Some, refl, sym, ap, ◌∙◌, subst, to_z, of_z, w64}
use Rattle.std.proofs.lemmas.Int.{to_z-of_z}
use Rattle.std.proofs.lemmas.Option.{slice_get_read}
use Rattle.std.specs.Prelude.{slice_get, unwrap_or}
use Rattle.day_model.specs.declared.pay.Leg.{Leg}
use Rattle.day_model.specs.declared.entry.Outcome.{Outcome}
use Rattle.day_model.specs.declared.entry.Outcome.TheVariants.{Booked, Unfunded}
use Rattle.day_model.specs.Balance.{changed, is_within}
use Rattle.day_model.proofs.laws.Fitting.{fitting, leg_sound}
use Rattle.day_model.proofs.laws.Standing.{small_balance}
use Rattle.day_model.proofs.LegTests.{fault_here, none_more, leg_tested}
use Rattle.day_model.proofs.laws.Growth.{stays_legal}
use Rattle.day_model.proofs.funds.decide.Goals as goal

pub balance-before-requires-clause-listed : goal.balance-before-requires-clause-listed
balance-before-requires-clause-listed c =
    let items = c.as_slice-leg-items.result.now in
    let at : slice_get items c.loop-at.at ≡ Some c.leg-item.result =
    slice_get_read items _ c.loop-at.at c.leg-item.result refl c.loop-at-test.true c.leg-item.is in
    let legs : List Leg = c.args.p.now.legs in
    let sound =
    leg_sound c.args.a.now legs c.loop-at.at c.leg-item.result (fitting c.args.a.now legs c.requires.fits)
    (ap (λ (ls : List Leg). slice_get ls c.loop-at.at) (sym c.as_slice-leg-items.ensures) ∙ at) in
    sound.listed

pub get-requires : goal.get-requires
get-requires c =
    let items = c.as_slice-leg-items.result.now in
    let at : slice_get items c.loop-at.at ≡ Some c.leg-item.result =
    slice_get_read items _ c.loop-at.at c.leg-item.result refl c.loop-at-test.true c.leg-item.is in
    let legs : List Leg = c.args.p.now.legs in
    let sound =
    leg_sound c.args.a.now legs c.loop-at.at c.leg-item.result (fitting c.args.a.now legs c.requires.fits)
    (ap (λ (ls : List Leg). slice_get ls c.loop-at.at) (sym c.as_slice-leg-items.ensures) ∙ at) in
    sound.listed

pub after_leg-requires-clause-small : goal.after_leg-requires-clause-small
after_leg-requires-clause-small c =
    let held : to_z w64 (of_z w64 c.balance-before.result) ≡ c.balance-before.result =
    to_z-of_z w64 c.balance-before.result (record { sfits = c.balance-before.type_inv }) in
    let items = c.as_slice-leg-items.result.now in
    let at : slice_get items c.loop-at.at ≡ Some c.leg-item.result =
    slice_get_read items _ c.loop-at.at c.leg-item.result refl c.loop-at-test.true c.leg-item.is in
    let legs : List Leg = c.args.p.now.legs in
    let sound =
    leg_sound c.args.a.now legs c.loop-at.at c.leg-item.result (fitting c.args.a.now legs c.requires.fits)
    (ap (λ (ls : List Leg). slice_get ls c.loop-at.at) (sym c.as_slice-leg-items.ensures) ∙ at) in
    rw held
    (small_balance c.args.a.now c.leg-item.result.account.0 c.balance-before.result c.get.ensures.sound sound.listed c.balance-before.ensures.within)

pub after_leg-requires-clause-amount : goal.after_leg-requires-clause-amount
after_leg-requires-clause-amount c =
    let items = c.as_slice-leg-items.result.now in
    let at : slice_get items c.loop-at.at ≡ Some c.leg-item.result =
    slice_get_read items _ c.loop-at.at c.leg-item.result refl c.loop-at-test.true c.leg-item.is in
    let legs : List Leg = c.args.p.now.legs in
    let sound =
    leg_sound c.args.a.now legs c.loop-at.at c.leg-item.result (fitting c.args.a.now legs c.requires.fits)
    (ap (λ (ls : List Leg). slice_get ls c.loop-at.at) (sym c.as_slice-leg-items.ensures) ∙ at) in
    sound.below

pub loop-at-preserved : goal.loop-at-preserved
loop-at-preserved c =
    let leg = c.leg-item.result in
    let a = c.get.result.now in
    let items = c.as_slice-leg-items.result.now in
    let legs : List Leg = c.args.p.now.legs in
    let at : get_or legs c.loop-at.at leg ≡ leg =
    ap (λ (ls : List Leg). get_or ls c.loop-at.at leg) (sym c.as_slice-leg-items.ensures) ∙ sym c.leg-item.is in
    let lt : c.loop-at.at < length legs = subst (λ (ls : List Leg). c.loop-at.at < length ls) c.as_slice-leg-items.ensures c.loop-at-test.true in
    let held : to_z w64 (of_z w64 c.balance-before.result) ≡ c.balance-before.result =
    to_z-of_z w64 c.balance-before.result (record { sfits = c.balance-before.type_inv }) in
    let after : to_z w64 (of_z w64 c.after_leg.result) ≡ c.after_leg.result = to_z-of_z w64 c.after_leg.result (record { sfits = c.after_leg.type_inv }) in
    let pass : is_within (Some a) (changed leg.side leg.amount.0 (to_z w64 (of_z w64 c.balance-before.result))) ≡ true =
    ap (is_within (Some a)) (sym (after ∙ c.after_leg.ensures)) ∙ sym c.may_hold.ensures ∙ c.if-not-may_hold.false in
    none_more c.args.a.now c.args.h.now.entries legs c.loop-at.at leg c.loop-at.invariant at lt
    (leg_tested c.args.a.now c.args.h.now.entries (c.loop-at.at + 1) leg a (to_z w64 (of_z w64 c.balance-before.result)) true c.requires.legal.changes.by_now c.get.ensures.value
    (held ∙ c.balance-before.ensures.value) pass)

pub returns-clause-next : goal.returns-clause-next
returns-clause-next c = stays_legal c.args.a.now c.args.h.now.entries c.args.p.now c.requires.legal c.requires.fits

pub returns-then-not-may_hold-clause-next : goal.returns-then-not-may_hold-clause-next
returns-then-not-may_hold-clause-next c = stays_legal c.args.a.now c.args.h.now.entries c.args.p.now c.requires.legal c.requires.fits

pub returns-then-not-may_hold-clause-value : goal.returns-then-not-may_hold-clause-value
returns-then-not-may_hold-clause-value c =
    let leg = c.leg-item.result in
    let a = c.get.result.now in
    let legs : List Leg = c.args.p.now.legs in
    let chart = c.args.a.now in
    let entries = c.args.h.now.entries in
    let at : get_or legs c.loop-at.at leg ≡ leg =
    ap (λ (ls : List Leg). get_or ls c.loop-at.at leg) (sym c.as_slice-leg-items.ensures) ∙ sym c.leg-item.is in
    let lt : c.loop-at.at < length legs = subst (λ (ls : List Leg). c.loop-at.at < length ls) c.as_slice-leg-items.ensures c.loop-at-test.true in
    let balance : ℤ = to_z w64 (of_z w64 c.balance-before.result) in
    let held : balance ≡ c.balance-before.result = to_z-of_z w64 c.balance-before.result (record { sfits = c.balance-before.type_inv }) in
    let after : to_z w64 (of_z w64 c.after_leg.result) ≡ c.after_leg.result = to_z-of_z w64 c.after_leg.result (record { sfits = c.after_leg.type_inv }) in
    let fails : is_within (Some a) (changed leg.side leg.amount.0 balance) ≡ false =
    ap (is_within (Some a)) (sym (after ∙ c.after_leg.ensures)) ∙ sym c.may_hold.ensures ∙ c.if-not-may_hold.true in
    let tested =
    leg_tested chart entries (c.loop-at.at + 1) leg a balance false c.requires.legal.changes.by_now c.get.ensures.value (held ∙ c.balance-before.ensures.value) fails in
    sym
    (ap (λ (o : Option Outcome). unwrap_or o Booked)
    (fault_here chart entries legs c.loop-at.at leg (Unfunded (c.loop-at.at + 1) balance) c.loop-at.invariant at lt tested))
