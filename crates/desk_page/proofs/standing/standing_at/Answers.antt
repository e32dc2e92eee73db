use Rattle.std.proofs.Common.{ap, arith, length}
use Rattle.desk_page.proofs.Standings.{named, sound, stands}
use Rattle.desk_page.proofs.standing.standing_at.Goals as goal

pub overflow_sub-leg : goal.overflow_sub-leg
overflow_sub-leg c = (named c.args._a.now c.args.h.now.entries c.args.place c.get-entry.result.now c.in-Unfunded.leg c.in-Unfunded.balance c.requires.legal c.get-entry.ensures c.in-Unfunded.is).0

pub bounds-as_slice-leg : goal.bounds-as_slice-leg
bounds-as_slice-leg c =
    let leg = named c.args._a.now c.args.h.now.entries c.args.place c.get-entry.result.now c.in-Unfunded.leg c.in-Unfunded.balance c.requires.legal c.get-entry.ensures c.in-Unfunded.is in
    let size = ap length c.as_slice.ensures in
    omega (arith, leg.0, leg.1, size)

pub returns-in-Unfunded-clause-value : goal.returns-in-Unfunded-clause-value
returns-in-Unfunded-clause-value c =
    let leg = named c.args._a.now c.args.h.now.entries c.args.place c.get-entry.result.now c.in-Unfunded.leg c.in-Unfunded.balance c.requires.legal c.get-entry.ensures c.in-Unfunded.is in
    let size = ap length c.as_slice.ensures in
    stands c.args._a.now c.args.h.now.entries c.args.place c.get-entry.result.now c.in-Unfunded.leg c.in-Unfunded.balance c.requires.legal c.get-entry.ensures c.in-Unfunded.is
    c.as_slice.result.now c.index-as_slice-leg.result c.as_slice.ensures (omega (arith, leg.0, leg.1, size)) c.index-as_slice-leg.is

pub returns-in-Unfunded-clause-shown : goal.returns-in-Unfunded-clause-shown
returns-in-Unfunded-clause-shown c =
    let leg = named c.args._a.now c.args.h.now.entries c.args.place c.get-entry.result.now c.in-Unfunded.leg c.in-Unfunded.balance c.requires.legal c.get-entry.ensures c.in-Unfunded.is in
    let size = ap length c.as_slice.ensures in
    let is = sound c.args._a.now c.args.h.now.entries c.args.place c.get-entry.result.now c.in-Unfunded.leg c.in-Unfunded.balance c.requires.legal c.get-entry.ensures c.in-Unfunded.is
    c.as_slice.result.now c.index-as_slice-leg.result c.as_slice.ensures (omega (arith, leg.0, leg.1, size)) c.index-as_slice-leg.is in
    (is.listed, is.below)
