use Rattle.std.proofs.Common.{◌≡◌, ◌∙◌, All, List, [], ◌∷◌, ◌++◌, length, Some, ap, arith, length-append, subst, sym}
use Rattle.day_model.specs.declared.pay.Leg.{Leg}
use Rattle.day_model.specs.Chart.{accounts_of}
use Rattle.day_model.specs.Fit.{FitsAccounts}
use Rattle.day_model.specs.Pairs.{pairs_with}
use Rattle.day_model.specs.Totals.{HasTotals, Pair, booked_legs, pair_at}
use Rattle.day_model.specs.declared.entry.Entry.{Entry}
use Rattle.day_model.proofs.laws.Fronts.{fits_now}
use Rattle.day_model.proofs.laws.Histories.{has_entry}
use Rattle.day_model.proofs.laws.Slices.{push_last}
use Rattle.acct_locks.specs.Holdings.{CanSettle, held_totals}
use Rattle.acct_locks.specs.Sides.{Sides}
use Rattle.jrn_book.proofs.Entering.{can_settle}
use Rattle.jrn_book.proofs.Settled.{all_agreed}
use Rattle.jrn_book.proofs.settling.settle_next.Goals as goal

pub settle_entry-requires-clause-can : goal.settle_entry-requires-clause-can
settle_entry-requires-clause-can g c =
    let h = c.args.history.now.entries in
    let chart = c.args.a.now in
    let e = c.args.e in
    let held = g.H.Holder.held c.args.held.now in
    let pairs = c.args.sides.now.pairs in
    let fits : FitsAccounts chart e.pay = fits_now chart (h ++ e ∷ []) (length h) e c.requires.legal (push_last h e) in
    let agreed = subst (λ (ls : List Leg). All (λ (leg : Leg). pair_at pairs leg.account.0 ≡ Some (held_totals held leg.account.0)) ls) c.as_slice.ensures c.agree_all.ensures.agreed in
    subst (CanSettle (booked_legs e)) (sym c.agree_all.ensures.held_same.0)
    (can_settle chart h e held c.requires.legal c.requires.held (λ booked. all_agreed chart h pairs held e.pay.legs c.requires.totals fits agreed))

pub put-requires-clause-few : goal.put-requires-clause-few
put-requires-clause-few g c = omega (arith, c.requires.legal.rules.short, length-append c.args.history.now.entries (c.args.e ∷ []))

pub returns-clause-totals : goal.returns-clause-totals
returns-clause-totals g c =
    let h = c.args.history.now.entries in
    let chart = c.args.a.now in
    let e = c.args.e in
    let pairs = c.args.sides.now.pairs in
    let sides : c.settle_entry.new.sides.pairs ≡ pairs_with (booked_legs e) pairs =
    ap (λ (s : Sides). s.pairs) c.settle_entry.ensures.sides ∙ ap (λ (s : Sides). pairs_with (booked_legs e) s.pairs) c.agree_all.ensures.sides_same in
    let Totals : List Pair × List Entry → Type 0 = λ x. HasTotals x.0 (length (accounts_of chart)) x.1 in
    subst Totals (λ i. (sym sides i, sym c.put.ensures.history i)) (has_entry h e (length (accounts_of chart)) pairs c.requires.totals)
