use Rattle.std.proofs.Common.{sym, subst}
use Rattle.std.proofs.lemmas.Result.{IfOk-weaker}
use Rattle.reconcile.specs.Comparison.{AddsUp, StandOnce, TakesFirst}
use Rattle.reconcile.proofs.laws.Promises.{adds-up, stand-once, takes-first}
use Rattle.reconcile.proofs.comparing.compare.Goals as goal

pub compare_with-requires : goal.compare_with-requires
compare_with-requires c = (
  record { chart = c.args.a.now; entries = c.args.h.now.entries },
  record { has = record { is = c.in_ok-index.ensures; listed = c.requires.listed }; shaped = c.requires.shaped; received = c.requires.received },
)

pub returns-clause-value : goal.returns-clause-value
returns-clause-value c =
    IfOk-weaker c.compare_with.result _ _ (λ compared h. h (record { chart = c.args.a.now; entries = c.args.h.now.entries })
    (record { has = record { is = c.in_ok-index.ensures; listed = c.requires.listed }; shaped = c.requires.shaped; received = c.requires.received })) c.compare_with.ensures

pub returns-clause-first : goal.returns-clause-first
returns-clause-first c =
    IfOk-weaker c.compare_with.result _ _ (λ compared h. subst (TakesFirst c.args.a.now c.args.n.0 c.args.h.now.entries c.args.s.now) (sym (h (record { chart = c.args.a.now; entries = c.args.h.now.entries })
    (record { has = record { is = c.in_ok-index.ensures; listed = c.requires.listed }; shaped = c.requires.shaped; received = c.requires.received })))
    (takes-first c.args.a.now c.args.h.now.entries c.args.n.0 c.args.s.now c.requires.legal)) c.compare_with.ensures

pub returns-clause-once : goal.returns-clause-once
returns-clause-once c =
    IfOk-weaker c.compare_with.result _ _ (λ compared h. subst (StandOnce c.args.a.now c.args.n.0 c.args.h.now.entries c.args.s.now) (sym (h (record { chart = c.args.a.now; entries = c.args.h.now.entries })
    (record { has = record { is = c.in_ok-index.ensures; listed = c.requires.listed }; shaped = c.requires.shaped; received = c.requires.received })))
    (stand-once c.args.a.now c.args.h.now.entries c.args.n.0 c.args.s.now c.requires.legal)) c.compare_with.ensures

pub returns-clause-adds : goal.returns-clause-adds
returns-clause-adds c =
    IfOk-weaker c.compare_with.result _ _ (λ compared h. subst (AddsUp c.args.a.now c.args.n.0 c.args.h.now.entries c.args.s.now) (sym (h (record { chart = c.args.a.now; entries = c.args.h.now.entries })
    (record { has = record { is = c.in_ok-index.ensures; listed = c.requires.listed }; shaped = c.requires.shaped; received = c.requires.received })))
    (adds-up c.args.a.now c.args.h.now.entries c.args.n.0 c.args.s.now c.requires.legal c.requires.received)) c.compare_with.ensures
