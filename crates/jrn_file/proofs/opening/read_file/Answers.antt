use Rattle.std.proofs.Common.{subst, sym}
use Rattle.corr_disk.specs.Calls.{CallsMade}
use Rattle.jrn_file.specs.Reading.{cut, whole}
use Rattle.jrn_file.specs.inner.Opening.{ExplainsLoad}
use Rattle.jrn_file.specs.Pieces.{calls_to_open}
use Rattle.jrn_file.proofs.Opened.{opened, read-of, read-places, told-of}
use Rattle.jrn_file.proofs.opening.read_file.Goals as goal

pub returns-in-Ok-clause-open : goal.returns-in-Ok-clause-open
returns-in-Ok-clause-open g c =
    let D = g.D.Disk in
    opened D.honest D.reads D.may_leave c.at.result c.args.disk c.load.new.disk c.in-Ok.end c.in-Ok.records.items c.at.ensures.disk c.at.ensures.end c.load.ensures.honest c.load.ensures.untouched.same c.in-Ok.ensures.durable c.in-Ok.ensures.records

pub returns-in-Ok-clause-told : goal.returns-in-Ok-clause-told
returns-in-Ok-clause-told g c told =
    let D = g.D.Disk in
    read-of (D.honest c.args.disk) (D.reads c.args.disk) c.in-Ok.end c.in-Ok.records.items c.in-Ok.ensures.records told

pub returns-in-Ok-clause-calls : goal.returns-in-Ok-clause-calls
returns-in-Ok-clause-calls g c =
    let plan = g.D.Disk.plan in
    subst (λ d. CallsMade (calls_to_open 65536 c.at.result.end) (plan c.args.disk) (plan d)) (sym c.at.ensures.disk)
    (subst (λ n. CallsMade (calls_to_open 65536 n) (plan c.args.disk) (plan c.load.new.disk)) (sym c.at.ensures.end) c.in-Ok.ensures.calls)

pub returns-in-Ok-clause-places : goal.returns-in-Ok-clause-places
returns-in-Ok-clause-places g c told =
    let D = g.D.Disk in
    read-places (D.reads c.args.disk) (whole c.in-Ok.records.items) (read-of (D.honest c.args.disk) (D.reads c.args.disk) c.in-Ok.end c.in-Ok.records.items c.in-Ok.ensures.records told)

pub returns-in-Err-Cut-clause-places : goal.returns-in-Err-Cut-clause-places
returns-in-Err-Cut-clause-places g c told =
    let D = g.D.Disk in
    let honest = D.honest c.args.disk in
    let reads = D.reads c.args.disk in
    let reading = cut c.in-Err-Cut.records.items c.in-Err-Cut.at in
    let known = subst (λ f. ExplainsLoad honest reads f) c.in-Err-Cut.field-0-is c.in-Err-Cut.ensures.fault in
    read-places reads reading (told-of honest reads reading known told)
