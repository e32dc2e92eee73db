use Rattle.std.proofs.Common.{◌≤◌, ◌∙◌, ◌++◌, ◌∷◌, [], ap, refl, arith, length, map}
use Rattle.std.proofs.lemmas.List.{length-map}
use Rattle.csv.specs.Records.{fields_of}
use Rattle.ref_tables.proofs.laws.Entered.{enters, refuses, all-entered, length-entered, row-at, starts}
use Rattle.ssi_versions.proofs.Standing.{read-in-form, read-stands}
use Rattle.ssi_versions.proofs.reading.enter_rows.Goals as goal

pub loop-row-init : goal.loop-row-init
loop-row-init c = rw c.new-ssi.ensures (starts _ _ _)

pub read_row-requires-clause-few : goal.read_row-requires-clause-few
read_row-requires-clause-few c =
    let before : c.loop-row.row-index ≤ length (map fields_of c.args.rows.now) = simp length-map (omega arith) in
    let many = length-entered c.loop-row.invariant before in
    omega (arith, many)

pub enter-requires-clause-form : goal.enter-requires-clause-form
enter-requires-clause-form c =
    let read = c.in-Ok.ensures in
    rw read.value (read-in-form c.args.t.now c.loop-row.ssi (fields_of c.row-item.result) read.sound)

pub enter-requires-clause-span : goal.enter-requires-clause-span
enter-requires-clause-span c =
    let read = c.in-Ok.ensures in
    rw read.value ((read-stands c.args.t.now c.loop-row.ssi (fields_of c.row-item.result) read.sound).0)

pub enter-requires-clause-alone : goal.enter-requires-clause-alone
enter-requires-clause-alone c =
    let read = c.in-Ok.ensures in
    rw read.value ((read-stands c.args.t.now c.loop-row.ssi (fields_of c.row-item.result) read.sound).1)

pub loop-row-preserved : goal.loop-row-preserved
loop-row-preserved c =
    let row = fields_of c.row-item.result in
    let place = row-at fields_of c.args.rows.now c.loop-row.row-index c.row-item.result c.row-item.is c.loop-row-test.true in
    let read = c.in-Ok.ensures in
    let added = c.in_ok-ssi-in-Ok.ensures ∙ ap (λ a. c.loop-row.ssi ++ a ∷ []) read.value in
    enters c.loop-row.invariant row place.0 place.1 _ read.sound added

pub returns-in-Err-clause-bad : goal.returns-in-Err-clause-bad
returns-in-Err-clause-bad c =
    let place = row-at fields_of c.args.rows.now c.loop-row.row-index c.row-item.result c.row-item.is c.loop-row-test.true in
    let told = refuses c.loop-row.invariant (fields_of c.row-item.result) place.0 place.1 c.in-Err.why c.in-Err.ensures.bad in
    rw (c.bad.ensures, c.len.ensures, told) refl

pub returns-clause-ok : goal.returns-clause-ok
returns-clause-ok c = all-entered c.loop-row.invariant (simp length-map c.loop-row-test.false)
