use Rattle.std.proofs.Common.{◌≡◌, ◌∙◌, ◌++◌, ◌∷◌, [], ap, refl}
use Rattle.std.proofs.lemmas.List.{length-map}
use Rattle.std.specs.Str.{bytes_eq}
use Rattle.indexmap.proofs.CallerLemmas.{insert_entry-new}
use Rattle.csv.specs.Records.{fields_of}
use Rattle.ref_tables.proofs.laws.Entered.{enters, refuses, all-entered, row-at}
use Rattle.ref_tables.proofs.keyed.enter_rows.Goals as goal

pub loop-row-preserved : goal.loop-row-preserved
loop-row-preserved g c =
    let row = fields_of c.row-item.result in
    let place = row-at fields_of c.args.rows.now c.loop-row.row-index c.row-item.result c.row-item.is c.loop-row-test.true in
    let read = c.in-Ok.ensures in
    let fresh = insert_entry-new bytes_eq c.loop-row.seen c.in-Ok.entry.0 c.in-Ok.entry.1 read.new in
    let added : c.insert.new.self.entries ≡ c.loop-row.seen.entries ++ g.R.KeyedRow.entry row ∷ [] = c.in_ok-insert-in-Ok.ensures.entries ∙ fresh ∙ ap (λ e. c.loop-row.seen.entries ++ e ∷ []) read.value in
    enters c.loop-row.invariant row place.0 place.1 _ read.sound added

pub returns-in-Err-clause-bad : goal.returns-in-Err-clause-bad
returns-in-Err-clause-bad g c =
    let place = row-at fields_of c.args.rows.now c.loop-row.row-index c.row-item.result c.row-item.is c.loop-row-test.true in
    let told = refuses c.loop-row.invariant (fields_of c.row-item.result) place.0 place.1 c.in-Err.why c.in-Err.ensures.bad in
    rw (c.bad.ensures, c.len.ensures.len, told) refl

pub returns-clause-ok : goal.returns-clause-ok
returns-clause-ok g c = all-entered c.loop-row.invariant (simp length-map c.loop-row-test.false)
