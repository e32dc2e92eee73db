use Rattle.std.proofs.Common.{◌-◌, sym, subst, arith}
use Rattle.std.proofs.lemmas.Option.{get_or_from_slice_get, slice_get_within}
use Rattle.day_model.specs.Fit.{FitsAccounts}
use Rattle.day_model.specs.Shape.{HasShape}
use Rattle.day_model.specs.declared.entry.Entry.{Entry}
use Rattle.day_model.proofs.laws.Fronts.{fits_now}
use Rattle.pay_returns.proofs.Fits.{return-fits}
use Rattle.pay_returns.proofs.laws.Tagging.{payment-is}
use Rattle.pay_returns.proofs.making.return_pay.Goals as goal

pub opposite_of-requires-clause-fits : goal.opposite_of-requires-clause-fits
opposite_of-requires-clause-fits c =
    let p = payment-is c.args.a.now c.args.h.now.entries c.args.place c.in-Some.e.now (sym c.in-Some.ensures) in
    fits_now c.args.a.now c.args.h.now.entries (c.args.place - 1) c.in-Some.e.now c.requires.legal p.1

pub opposite_of-requires-clause-shape : goal.opposite_of-requires-clause-shape
opposite_of-requires-clause-shape c =
    let entries = c.args.h.now.entries in
    let e = c.in-Some.e.now in
    let p = payment-is c.args.a.now entries c.args.place e (sym c.in-Some.ensures) in
    subst (λ (x : Entry). HasShape x.pay) (get_or_from_slice_get entries (c.args.place - 1) e e p.1) (c.requires.shaped (c.args.place - 1) e (slice_get_within entries (c.args.place - 1) e p.1))

pub opposite_of-requires-clause-place : goal.opposite_of-requires-clause-place
opposite_of-requires-clause-place c =
    let p = payment-is c.args.a.now c.args.h.now.entries c.args.place c.in-Some.e.now (sym c.in-Some.ensures) in
    let lt = slice_get_within c.args.h.now.entries (c.args.place - 1) c.in-Some.e.now p.1 in
    omega (arith, lt, p.0, c.requires.legal.rules.short)

pub decide-requires-clause-fits : goal.decide-requires-clause-fits
decide-requires-clause-fits c =
    let p = payment-is c.args.a.now c.args.h.now.entries c.args.place c.in-Some.e.now (sym c.in-Some.ensures) in
    subst (FitsAccounts c.args.a.now) (sym c.in_ok-pay.ensures.value)
    (return-fits c.args.a.now c.in-Some.e.now c.args.place c.args.day (fits_now c.args.a.now c.args.h.now.entries (c.args.place - 1) c.in-Some.e.now c.requires.legal p.1))

pub returns-in-Booked-clause-fits : goal.returns-in-Booked-clause-fits
returns-in-Booked-clause-fits c =
    let p = payment-is c.args.a.now c.args.h.now.entries c.args.place c.in-Some.e.now (sym c.in-Some.ensures) in
    subst (FitsAccounts c.args.a.now) (sym c.in_ok-pay.ensures.value)
    (return-fits c.args.a.now c.in-Some.e.now c.args.place c.args.day (fits_now c.args.a.now c.args.h.now.entries (c.args.place - 1) c.in-Some.e.now c.requires.legal p.1))
