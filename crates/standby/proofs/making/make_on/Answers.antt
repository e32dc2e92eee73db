use Rattle.std.proofs.Common.{◌≡◌, ◌∙◌, ℕ, List, [], Err, false, length, ap, arith, subst, sym}
use Rattle.corr_disk.specs.Disk.{LeavesOnly}
use Rattle.jrn_file.specs.File.{IsSettled}
use Rattle.jrn_file.specs.Making.{IsUnmadeOrMade}
use Rattle.jrn_codec.proofs.laws.Records.{few_in_head}
use Rattle.standby.specs.declared.answer.TakeFault.{TakeFault}
use Rattle.standby.specs.Taking.{broken_after}
use Rattle.standby.specs.inner.Taking.{fault_of}
use Rattle.standby.specs.Held.{MayComeNext, journal, nothing}
use Rattle.standby.specs.inner.Held.{IsBeforeOrWith}
use Rattle.standby.proofs.Kept.{made-settled, moments-made, no-fault, unmade-kept, unmade-same}
use Rattle.standby.proofs.Takes.{made-shows}
use Rattle.standby.proofs.making.make_on.Goals as goal

pub create-requires : goal.create-requires
create-requires g c =
    let past = c.args.making.past in
    omega (arith, few_in_head past.accounts c.requires.next.0, ap length c.requires.next.1, ap length c.bytes-bytes.ensures)

pub returns-in-Ok-clause-shows : goal.returns-in-Ok-clause-shows
returns-in-Ok-clause-shows g c = (c.requires.next, tt, ap g.D.Disk.faults c.made-file.ensures.disk ∙ c.in-Ok.ensures.kept)

pub returns-in-Ok-clause-kept : goal.returns-in-Ok-clause-kept
returns-in-Ok-clause-kept g c = λ whole.
    let D = g.D.Disk in (
      c.history.ensures.journal,
      made-settled D.honest D.reads D.may_leave c.args.making.past c.made-file.result c.args.making.head c.requires.next
          (subst (λ x. IsSettled D.honest D.reads D.may_leave c.made-file.result x []) c.bytes-bytes.ensures c.made-file.ensures.settled),
    )

pub returns-in-Ok-clause-any_moment : goal.returns-in-Ok-clause-any_moment
returns-in-Ok-clause-any_moment g c = λ told.
    let D = g.D.Disk in
    let head = c.args.making.head in
    let may : MayComeNext nothing head = (journal c.args.making.past.accounts c.args.making.past.history, c.requires.next) in
    let leaves = c.in-Ok.ensures.any_moment told (c.requires.kept.alone told) (c.requires.kept.stands told) in
    subst (λ x. LeavesOnly D.moment D.left_since c.args.disk x (IsBeforeOrWith nothing head)) (sym c.made-file.ensures.disk)
    (moments-made D.moment D.left_since c.args.disk c.in-Ok.disk head may
    (subst (λ (x : List ℕ). LeavesOnly D.moment D.left_since c.args.disk c.in-Ok.disk (IsUnmadeOrMade x)) c.bytes-bytes.ensures leaves))

pub returns-in-Err-clause-shows : goal.returns-in-Err-clause-shows
returns-in-Err-clause-shows g c =
    let head = c.args.making.head in
    let may : MayComeNext nothing head = (journal c.args.making.past.accounts c.args.making.past.history, c.requires.next) in
    rw c.fault_of.ensures (made-shows head _ _ _ c.in-Err.fault may c.in-Err.ensures.cause)

pub returns-in-Err-clause-kept : goal.returns-in-Err-clause-kept
returns-in-Err-clause-kept g c = λ whole.
    let D = g.D.Disk in
    unmade-kept D.honest D.reads D.may_leave c.args.disk c.in-Err.disk c.requires.kept c.in-Err.ensures.honest c.in-Err.fault _ _ c.in-Err.ensures.cause c.in-Err.ensures.memory
    (no-fault (fault_of c.in-Err.fault) (subst (λ (f : TakeFault). broken_after {A = Unit {0}} false (Err f) ≡ false) c.fault_of.ensures whole))

pub returns-in-Err-clause-same : goal.returns-in-Err-clause-same
returns-in-Err-clause-same g c = λ whole told.
    let D = g.D.Disk in
    unmade-same D.honest D.reads D.may_leave c.args.disk c.in-Err.disk c.requires.kept c.in-Err.ensures.honest c.in-Err.fault _ _ c.in-Err.ensures.cause c.in-Err.ensures.memory
    (rw (sym c.fault_of.ensures) whole) told

pub returns-in-Err-clause-any_moment : goal.returns-in-Err-clause-any_moment
returns-in-Err-clause-any_moment g c = λ told.
    let D = g.D.Disk in
    let head = c.args.making.head in
    let may : MayComeNext nothing head = (journal c.args.making.past.accounts c.args.making.past.history, c.requires.next) in
    moments-made D.moment D.left_since c.args.disk c.in-Err.disk head may
    (subst (λ (x : List ℕ). LeavesOnly D.moment D.left_since c.args.disk c.in-Err.disk (IsUnmadeOrMade x)) c.bytes-bytes.ensures
    (c.in-Err.ensures.any_moment told (c.requires.kept.alone told) (c.requires.kept.stands told)))
