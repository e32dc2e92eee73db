use Rattle.std.proofs.Common.{◌≡◌, ◌∙◌, ◌≤◌, All, List, [], ◌∷◌, ◌++◌, length, reverse, ap, arith, length-append, refl, subst, sym}
use Rattle.std.proofs.lemmas.List.{reverse-append, reverse-reverse}
use Rattle.day_model.specs.declared.entry.Entry.{Entry}
use Rattle.day_model.specs.Legal.{IsLegal}
use Rattle.day_model.specs.Chart.{accounts_of}
use Rattle.day_model.specs.Totals.{HasTotals}
use Rattle.day_model.proofs.laws.Fronts.{legal_front}
use Rattle.acct_locks.specs.Holdings.{Holding}
use Rattle.acct_locks.specs.Sides.{Sides}
use Rattle.jrn_book.specs.Batches.{all_booked}
use Rattle.jrn_book.specs.Deciding.{HoldsAll}
use Rattle.jrn_book.proofs.Drafted.{at_seam}
use Rattle.jrn_book.proofs.laws.Items.{by_later}
use Rattle.jrn_book.proofs.Settled.{IsSettling, all_still, all_then, settle_more, settle_none}
use Rattle.jrn_book.proofs.settling.settle_all.Goals as goal

pub loop-e-init : goal.loop-e-init
loop-e-init g c =
    let rest = c.turned-rest.result.items in
    let entries = c.args.entries.items in
    let back : reverse rest ≡ entries = ap reverse c.turned-rest.ensures ∙ reverse-reverse entries in
    let room : length (reverse rest) ≤ c.args.history.now.spare = subst (λ (l : List Entry). length l ≤ c.args.history.now.spare) (sym back) c.requires.room in
    (settle_none c.args.a.now c.args.history.now.entries (reverse rest) (g.H.Holder.held c.args.held.now) rest c.args.history.now.spare c.args.sides.now.pairs (sym (reverse-reverse rest)) room c.requires.totals, refl, refl, refl)

pub settle_next-requires-clause-legal : goal.settle_next-requires-clause-legal
settle_next-requires-clause-legal g c =
    let chart = c.args.a.now in
    let before = c.args.history.now.entries in
    let rest = c.turned-rest.result.items in
    let now = c.loop-e.history.entries in
    let e = c.in-Some.e in
    let more = c.pop.new.self.items in
    let so_far = c.loop-e.invariant.0 in
    let back : c.args.entries.items ≡ reverse rest = sym (ap reverse c.turned-rest.ensures ∙ reverse-reverse c.args.entries.items) in
    let whole : before ++ c.args.entries.items ≡ (now ++ e ∷ []) ++ reverse more =
    ap (λ (l : List Entry). before ++ l) back
    ∙ all_then chart before (reverse rest) (g.H.Holder.held c.args.held.now) c.loop-e.rest.items more c.loop-e.history.spare 0 now (g.H.Holder.held c.loop-e.held) c.loop-e.sides.pairs c.loop-e.sides.pairs e so_far c.in-Some.ensures.items in
    let longer = length-append before so_far.done in
    let next = length-append now (e ∷ []) in
    let by = by_later chart (length before) (length (now ++ e ∷ [])) (omega (arith, longer, next, ap length so_far.now_is)) c.requires.front.changes.by_now in
    legal_front chart (now ++ e ∷ []) (reverse more) by (subst (IsLegal chart) whole c.requires.legal)

pub settle_next-requires-clause-held : goal.settle_next-requires-clause-held
settle_next-requires-clause-held g c =
    let held = g.H.Holder.held c.args.held.now in
    let rest = c.turned-rest.result.items in
    let e = c.in-Some.e in
    let more = c.pop.new.self.items in
    let so_far = c.loop-e.invariant.0 in
    let back : c.args.entries.items ≡ reverse rest = sym (ap reverse c.turned-rest.ensures ∙ reverse-reverse c.args.entries.items) in
    let split : c.args.entries.items ≡ so_far.done ++ e ∷ reverse more =
    back ∙ so_far.left ∙ ap (λ (l : List Entry). so_far.done ++ reverse l) c.in-Some.ensures.items ∙ ap (λ (l : List Entry). so_far.done ++ l) (reverse-append more (e ∷ [])) in
    let here : HoldsAll held e.pay.legs = at_seam (λ (x : Entry). HoldsAll held x.pay.legs) so_far.done e (reverse more) (subst (All (λ (x : Entry). HoldsAll held x.pay.legs)) split c.requires.held) in
    subst (λ (hs : List Holding). HoldsAll hs e.pay.legs) (sym so_far.held_is) (all_still (all_booked so_far.done) held e.pay.legs here)

pub settle_next-requires-clause-table : goal.settle_next-requires-clause-table
settle_next-requires-clause-table g c = ap (λ (s : Sides). s.table) c.loop-e.invariant.3 ∙ c.requires.table ∙ sym c.loop-e.invariant.1

pub settle_next-requires-clause-room : goal.settle_next-requires-clause-room
settle_next-requires-clause-room g c =
    let room = c.loop-e.invariant.0.room in
    omega (arith, room, ap length c.in-Some.ensures.items, length-append c.pop.new.self.items (c.in-Some.e ∷ []))

pub loop-e-preserved : goal.loop-e-preserved
loop-e-preserved g c =
    let chart = c.args.a.now in
    let before = c.args.history.now.entries in
    let rest = c.turned-rest.result.items in
    let held = g.H.Holder.held c.args.held.now in
    let now = c.loop-e.history.entries in
    let after = g.H.Holder.held c.loop-e.held in
    let e = c.in-Some.e in
    let more = c.pop.new.self.items in
    let step = c.settle_next.ensures in
    let pairs = c.settle_next.new.sides.pairs in
    let totals = subst (λ (es : List Entry). HasTotals pairs (length (accounts_of chart)) es) step.history step.totals in
    let next = settle_more chart before (reverse rest) held c.loop-e.rest.items more c.loop-e.history.spare c.settle_next.new.history.spare now after c.loop-e.sides.pairs pairs e c.loop-e.invariant.0 c.in-Some.ensures.items totals step.left in (
      subst (λ (x : List Entry × List Holding). IsSettling chart before (reverse rest) held more c.settle_next.new.history.spare x.0 x.1 pairs) (λ i. (sym step.history i, sym step.held i)) next,
      step.held_same.0 ∙ c.loop-e.invariant.1,
      step.held_same.1 ∙ c.loop-e.invariant.2,
      step.sides ∙ ap (λ (s : Sides). record s { pairs = pairs }) c.loop-e.invariant.3,
    )
